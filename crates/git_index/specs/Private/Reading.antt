-- Reading from left to right, with the first fault that is met: what the functions below the public calls answer.
use Rattle.std.specs.Prelude.{◌≡◌, ◌⊎◌, ℕ, zero, suc, ◌+◌, ◌-◌, ◌*◌, ◌/◌, ◌%◌, ◌^◌, ◌<◌, ◌≤◌, Bool, true, false, ◌==◌, ◌&&◌, ◌||◌, nat_lt, nat_eq, nat_le, not, if◌then◌else◌, List, [], ◌∷◌, ◌++◌, length, take, drop, Option, None, Some, Result, Ok, Err, codes, min, count_by}
use Rattle.std.specs.List.{list_all, starts_with}
use Rattle.std.specs.Int.{Width, w16, w32, w64, byte_len, from_be_bytes}
use Rattle.git_index.specs.declared.object_format.ObjectFormat.{ObjectFormat}
use Rattle.git_index.specs.declared.entry.Kind.{Kind}
use Rattle.git_index.specs.declared.entry.Kind.TheVariants.{File, Executable, Link, Submodule}
use Rattle.git_index.specs.declared.fault.IndexFault.{IndexFault}
use Rattle.git_index.specs.declared.fault.IndexFault.TheVariants.{Memory, Signature, Version, Cut, Mode, Flags, Path, PathsTooLong, Extension, Sparse, Link as LinkFault, Position, Replacements}
use Rattle.git_index.specs.Entries.{Tracked}
use Rattle.git_index.specs.Format.{hash_len, ArePassedOver, extension_text}
use Rattle.git_index.specs.Split.{bits_of, due_after, named, put_in, replaced_by, unmarked}

infixl 10 ◌>>=◌
abbrev pub ◌>>=◌ : {A B : Type 0} → Result A IndexFault → (A → Result B IndexFault) → Result B IndexFault
(Ok x) >>= f = f x
(Err e) >>= f = Err e

-- what a function returned, seen by view, is what reading gives, unless memory was refused
abbrev pub Gives : {X Y : Type 0} → (X → Y) → Result X IndexFault → Result Y IndexFault → Type 0
Gives view (Ok x) read = read ≡ Ok (view x)
Gives view (Err e) read = (e ≡ Memory) ⊎ (read ≡ Err e)

-- ---- fields

abbrev pub skipped : ℕ → List ℕ → Result (List ℕ) IndexFault
skipped n bytes = if nat_lt (length bytes) n then Err Cut else Ok (drop n bytes)

abbrev pub front_at : ℕ → List ℕ → Result (List ℕ × List ℕ) IndexFault
front_at n bytes = if nat_lt (length bytes) n then Err Cut else Ok (take n bytes, drop n bytes)

abbrev pub number_at : Width → List ℕ → Result (ℕ × List ℕ) IndexFault
number_at w bytes = if nat_lt (length bytes) (byte_len w) then Err Cut else Ok (from_be_bytes w (take (byte_len w) bytes), drop (byte_len w) bytes)

-- the bytes before the first zero, and those behind it
unfoldable pub until_zero : List ℕ → Result (List ℕ × List ℕ) IndexFault
until_zero [] = Err Cut
until_zero (zero ∷ rest) = Ok ([], rest)
until_zero (suc b ∷ rest) = do
  more ← until_zero rest
  Ok (suc b ∷ more.0, more.1)

-- a number of at most `limit`, where `high` is what came of the bytes before
unfoldable pub shared_number_from : ℕ → ℕ → List ℕ → Result (ℕ × List ℕ) IndexFault
shared_number_from limit high [] = Err Cut
shared_number_from limit high (b ∷ rest) =
    if nat_lt limit (high * 128 + b % 128) then Err Path
    else if nat_lt b 128 then Ok (high * 128 + b % 128, rest)
    else if nat_lt (high * 128 + b % 128) limit then shared_number_from limit (high * 128 + b % 128 + 1) rest
    else Err Path

-- ---- paths: what is kept of the previous one, what is added, and the bytes behind

unfoldable pub padded_at : ℕ → List ℕ → Result (List ℕ × List ℕ) IndexFault
padded_at front bytes = do
  path ← until_zero bytes
  rest ← skipped (7 - (front + length path.0) % 8) path.1
  if list_all (λ b. b == 0) (take (7 - (front + length path.0) % 8) path.1) then Ok (path.0, rest) else Err Path

unfoldable pub shared_at : List ℕ → List ℕ → Result ((List ℕ × List ℕ) × List ℕ) IndexFault
shared_at previous bytes = do
  n ← shared_number_from (length previous) 0 bytes
  added ← until_zero n.1
  Ok ((take (length previous - n.0) previous, added.0), added.1)

unfoldable pub parts_at : ℕ → ℕ → List ℕ → List ℕ → Result ((List ℕ × List ℕ) × List ℕ) IndexFault
parts_at version front previous bytes =
    if version == 4 then shared_at previous bytes
    else (padded_at front bytes >>= λ x. Ok (([], x.0), x.1))

-- the two parts joined, of the length that is told, in so much room
unfoldable pub joined_of : List ℕ → List ℕ → ℕ → ℕ → Result (List ℕ) IndexFault
joined_of kept added told room =
    if nat_lt room (length kept + length added) then Err PathsTooLong
    else if told == 4095 || told == length kept + length added then Ok (kept ++ added)
    else Err Path

-- ---- entries

unfoldable pub kind_of : ℕ → Result Kind IndexFault
kind_of mode =
    if mode == 0x81A4 then Ok File
    else if mode == 0x81ED then Ok Executable
    else if mode == 0xA000 then Ok Link
    else if mode == 0xE000 then Ok Submodule
    else if mode == 0x4000 then Err Sparse
    else Err (Mode mode)

-- the flags that more bytes have, where there are some
unfoldable pub more_at : Bool → List ℕ → Result (ℕ × List ℕ) IndexFault
more_at false bytes = Ok (0, bytes)
more_at true bytes = do
  n ← number_at w16 bytes
  if n.0 % 2 ^ 13 == 0 && nat_lt n.0 (2 ^ 15) then Ok n else Err (Flags n.0)

abbrev pub is_set : ℕ → ℕ → Bool
is_set n flags = flags / 2 ^ n % 2 == 1

unfoldable pub entry_at : ℕ → ℕ → List ℕ → ℕ → List ℕ → Result (Tracked × List ℕ) IndexFault
entry_at version hash previous room bytes = do
  a ← skipped 24 bytes
  mode ← number_at w32 a
  b ← skipped (12 + hash) mode.1
  flags ← number_at w16 b
  kind ← kind_of mode.0
  more ← more_at (is_set 14 flags.0) flags.1
  parts ← parts_at version (42 + hash + (if is_set 14 flags.0 then 2 else 0)) previous more.1
  path ← joined_of parts.0.0 parts.0.1 (flags.0 % 2 ^ 12) room
  Ok (record { path = path; stage = flags.0 / 2 ^ 12 % 4; kind = kind; assume_valid = is_set 15 flags.0; skip_worktree = is_set 14 more.0; intent_to_add = is_set 13 more.0 }, parts.1)

unfoldable pub entries_at : ℕ → ℕ → ℕ → List ℕ → ℕ → List ℕ → Result (List Tracked × List ℕ) IndexFault
entries_at version hash zero previous room bytes = Ok ([], bytes)
entries_at version hash (suc n) previous room bytes = do
  first ← entry_at version hash previous room bytes
  others ← entries_at version hash n first.0.path (room - length first.0.path) first.1
  Ok (first.0 ∷ others.0, others.1)

-- ---- the file

-- version, number of entries, and the bytes behind
unfoldable pub header_at : List ℕ → Result ((ℕ × ℕ) × List ℕ) IndexFault
header_at bytes = do
  a ← skipped 4 bytes
  version ← number_at w32 a
  count ← number_at w32 version.1
  if starts_with nat_eq bytes (codes "DIRC") then (if nat_lt version.0 2 || nat_lt 4 version.0 then Err (Version version.0) else Ok ((version.0, count.0), count.1)) else Err Signature

-- the bytes behind an extension that may be passed over
unfoldable pub extension_at : List ℕ → Result (List ℕ) IndexFault
extension_at bytes = do
  name ← number_at w32 bytes
  len ← number_at w32 name.1
  if name.0 == 0x73646972 then Err Sparse
      else if nat_lt name.0 0x41000000 || nat_lt 0x5AFFFFFF name.0 then Err (Extension name.0)
      else skipped len.0 len.1

-- where passing over extensions stops: a link, or too few bytes for one
abbrev pub Ends : List ℕ → Type 0
Ends bytes = (length bytes < 8) ⊎ (starts_with nat_eq bytes (codes "link") ≡ true)

-- the hash and the bitmaps of a link, and the bytes behind
unfoldable pub link_at : ℕ → List ℕ → Result ((List ℕ × List ℕ) × List ℕ) IndexFault
link_at hash bytes = do
  a ← skipped 4 bytes
  len ← number_at w32 a
  content ← front_at len.0 len.1
  if nat_lt (length content.0) hash then Err LinkFault else Ok ((take hash content.0, drop hash content.0), content.1)

-- what stands where passing over extensions stops: no link, or a hash and bitmaps, and too few bytes for an extension at the end
abbrev pub StopsWith : ℕ → Option (List ℕ × List ℕ) → List ℕ → Type 0
StopsWith hash None stop = length stop < 8
StopsWith hash (Some x) stop =
    (few : List ℕ) × (behind : List ℕ) × ArePassedOver behind few × (length few < 8) × (length x.0 ≡ hash) × (length (x.0 ++ x.1) < 2 ^ 32) × (stop ≡ extension_text (codes "link", x.0 ++ x.1) ++ behind)

abbrev pub room_of : List ℕ → ℕ
room_of bytes = min (16 * length bytes) (2 ^ 64 - 1)

-- what is found at each stage where the entries are read
pub record Finds (format : ObjectFormat) (bytes : List ℕ) (entries : List Tracked) (extensions : List ℕ) : Type 0 where
  pub long : 12 + hash_len format ≤ length bytes
  pub header : (ℕ × ℕ) × List ℕ
  pub header_is : header_at (take (length bytes - hash_len format) bytes) ≡ Ok header
  pub entries_are : entries_at header.0.0 (hash_len format) header.0.1 [] (room_of bytes) header.1 ≡ Ok (entries, extensions)

-- ---- bitmaps

-- bits about so many entries, put behind others: those past the last entry are passed over, and have to be false
unfoldable pub pushed : ℕ → List Bool → List Bool → Result (List Bool) IndexFault
pushed count marks [] = Ok marks
pushed count marks (bit ∷ bits) =
    if nat_lt (length marks) count then pushed count (marks ++ bit ∷ []) bits
    else if bit then Err Position
    else pushed count marks bits

-- so many words
unfoldable pub words_at : ℕ → ℕ → ℕ → List Bool → List ℕ → Result (List Bool × List ℕ) IndexFault
words_at count zero zero marks bytes = Ok (marks, bytes)
words_at count zero (suc due) marks bytes = Err LinkFault
words_at count (suc n) due marks bytes = do
  word ← number_at w64 bytes
  more ← pushed count marks (bits_of due word.0)
  words_at count n (due_after due word.0) more word.1

unfoldable pub marks_at : ℕ → List ℕ → Result (List Bool × List ℕ) IndexFault
marks_at count bytes = do
  a ← skipped 4 bytes
  n ← number_at w32 a
  marks ← words_at count n.0 0 [] n.1
  rest ← skipped 4 marks.1
  Ok (marks.0, rest)

-- the first mark, and the others: behind the last one none is set
unfoldable pub next_of : List Bool → Bool × List Bool
next_of [] = (false, [])
next_of (mark ∷ marks) = (mark, marks)

-- an entry, replaced by the next new one if it is marked, and the new ones that are left
unfoldable pub renewed_at : Bool → Tracked → List Tracked → Tracked × List Tracked
renewed_at true e (n ∷ new) = (named e.path n, new)
renewed_at mark e new = (e, new)

-- the entries that have a path
unfoldable pub named_in : List Tracked → List Tracked
named_in [] = []
named_in (e ∷ entries) = if length e.path == 0 then named_in entries else e ∷ named_in entries

-- the first entries, so many, have no path, and each of the others has one
unfoldable pub are_replacements : List Tracked → ℕ → Bool
are_replacements own count = nat_le count (length own) && (list_all (λ e. length e.path == 0) (take count own) && list_all (λ e. not (length e.path == 0)) (drop count own))

-- the shared entries and an index's own, joined by two bitmaps
unfoldable pub joined_at : List Tracked → List Tracked → List ℕ → Result (List Tracked) IndexFault
joined_at shared own bitmaps = do
  deleted ← marks_at (length shared) bitmaps
  replaced ← marks_at (length shared) deleted.1
  if length replaced.1 == 0 then (if are_replacements own (count_by (λ mark. mark) replaced.0) then Ok (put_in (unmarked (replaced_by shared replaced.0 (take (count_by (λ mark. mark) replaced.0) own)) deleted.0) (named_in own)) else Err Replacements)
      else Err LinkFault
