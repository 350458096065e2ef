-- Split indexes: what an index file says together with the shared file that its link names.
use Rattle.std.specs.Prelude.{◌≡◌, ◌≢◌, ℕ, zero, suc, ◌*◌, ◌/◌, ◌%◌, ◌^◌, ◌<◌, Bool, true, false, ◌==◌, if◌then◌else◌, List, [], ◌∷◌, ◌++◌, length, take, drop, replicate, count_by, filter, flat_map, take_while}
use Rattle.std.specs.List.{AllByRecursion, prefix_len}
use Rattle.std.specs.Int.{w32, w64, to_be_bytes}
use Rattle.std.specs.Ordering.{nat_cmp, ordering_then, is_lt, is_le}
use Rattle.std.specs.declared.cmp.Ordering.{Ordering}
use Rattle.std.specs.declared.cmp.Ordering.TheVariants.{Equal}
use Rattle.std.specs.Cmp.Lexicographic.{slice_cmp}
use Rattle.git_index.specs.declared.object_format.ObjectFormat.{ObjectFormat}
use Rattle.git_index.specs.Entries.{Tracked, InOrder}
use Rattle.git_index.specs.Format.{HasLink, IsFile, IsIndexFile, zero_hash}

-- ---- a bitmap

-- so many of a number's bits, the lowest first
unfoldable pub low_bits : ℕ → ℕ → List Bool
low_bits zero word = []
low_bits (suc n) word = (word % 2 == 1) ∷ low_bits n (word / 2)

-- A word's bits, where so many plain words are still due. A plain one has its own, the lowest first. Where none is due it is a head:
-- bit 0 is a value, the next 32 bits say how many words of this value it stands for, and the other 31 how many plain ones are due then.
abbrev pub bits_of : ℕ → ℕ → List Bool
bits_of zero word = replicate (64 * (word / 2 % 2 ^ 32)) (word % 2 == 1)
bits_of (suc due) word = low_bits 64 word

abbrev pub due_after : ℕ → ℕ → ℕ
due_after zero word = word / 2 ^ 33
due_after (suc due) word = due

-- the words spell these bits
abbrev pub Spell : ℕ → List ℕ → List Bool → Type 0
Spell due [] bits = (due ≡ 0) × (bits ≡ [])
Spell due (word ∷ words) bits = (more : List Bool) × (word < 2 ^ 64) × (bits ≡ bits_of due word ++ more) × Spell (due_after due word) words more

-- A bitmap about so many entries: its size and, at the end, the place of the last head, which aren't looked at, and the words. Behind
-- the entries no bit is set.
pub record IsBitmap (count : ℕ) (marks : List Bool) (text : List ℕ) : Type 0 where
  pub size : List ℕ
  pub place : List ℕ
  pub lengths : (length size ≡ 4) × (length place ≡ 4)
  pub words : List ℕ
  pub few : length words < 2 ^ 32
  pub bits : List Bool
  pub spelled : Spell 0 words bits
  pub marks_are : marks ≡ take count bits
  pub no_others : AllByRecursion (λ bit. bit ≡ false) (drop count bits)
  pub joined : text ≡ size ++ (to_be_bytes w32 (length words) ++ (flat_map (to_be_bytes w64) words ++ place))

-- ---- entries

-- the entry with another path
abbrev pub named : List ℕ → Tracked → Tracked
named path e = record { path = path; stage = e.stage; kind = e.kind; assume_valid = e.assume_valid; skip_worktree = e.skip_worktree; intent_to_add = e.intent_to_add }

-- the entries, where each that is marked is replaced by the next new one, which takes its path
abbrev pub replaced_by : List Tracked → List Bool → List Tracked → List Tracked
replaced_by (e ∷ entries) (true ∷ marks) (n ∷ new) = named e.path n ∷ replaced_by entries marks new
replaced_by (e ∷ entries) (false ∷ marks) new = e ∷ replaced_by entries marks new
replaced_by entries marks new = entries

-- the entries that aren't marked
abbrev pub unmarked : List Tracked → List Bool → List Tracked
unmarked (e ∷ entries) (true ∷ marks) = unmarked entries marks
unmarked (e ∷ entries) (false ∷ marks) = e ∷ unmarked entries marks
unmarked entries marks = entries

-- how an entry stands to one that is put in: by path and stage, and to one of stage 0 by path alone
abbrev pub place : Tracked → Tracked → Ordering
place e added = ordering_then (slice_cmp nat_cmp e.path added.path) (if added.stage == 0 then Equal else nat_cmp e.stage added.stage)

-- the entries before one that is put in, up to those behind it; those that stand where it does give way
abbrev pub before : Tracked → List Tracked → List Tracked
before added entries = filter (λ e. is_lt (place e added)) (take_while (λ e. is_le (place e added)) entries)

abbrev pub behind : Tracked → List Tracked → List Tracked
behind added entries = drop (prefix_len (λ e. is_le (place e added)) entries) entries

abbrev pub put_in : List Tracked → List Tracked → List Tracked
put_in entries [] = entries
put_in entries (a ∷ added) = before a entries ++ a ∷ put_in (behind a entries) added

-- ---- the two files

-- a shared file's entries and those of an index, by two bitmaps, of deletions and of replacements
pub record AreJoined (shared own : List Tracked) (bitmaps : List ℕ) (entries : List Tracked) : Type 0 where
  pub deletions : List ℕ
  pub replacements : List ℕ
  pub both : bitmaps ≡ deletions ++ replacements
  pub deleted : List Bool
  pub replaced : List Bool
  pub marks : IsBitmap (length shared) deleted deletions × IsBitmap (length shared) replaced replacements
  pub new : List Tracked
  pub added : List Tracked
  pub own_are : own ≡ new ++ added
  pub each_replaces : length new ≡ count_by (λ bit. bit) replaced
  pub unnamed : AllByRecursion (λ e. e.path ≡ []) new × AllByRecursion (λ e. e.path ≢ []) added
  pub joined : entries ≡ put_in (unmarked (replaced_by shared replaced new) deleted) added

-- an index file, the shared file whose hash it names, and their entries
pub record IsSplitIndex (format : ObjectFormat) (bytes shared_bytes : List ℕ) (entries : List Tracked) : Type 0 where
  pub own : List Tracked
  pub extensions : List ℕ
  pub spelled : IsFile format bytes own extensions
  pub hash : List ℕ
  pub bitmaps : List ℕ
  pub link : HasLink format hash bitmaps extensions × (hash ≢ zero_hash format)
  pub ends : (before : List ℕ) × (shared_bytes ≡ before ++ hash)
  pub shared : List Tracked
  pub whole : IsIndexFile format shared_bytes shared
  pub joined : AreJoined shared own bitmaps entries
  pub ordered : InOrder entries
