-- The format of an index file, in versions 2 to 4: which bytes spell which entries. Numbers are big-endian.
use Rattle.std.specs.Prelude.{◌≡◌, ◌≢◌, ◌⊎◌, ℕ, ◌+◌, ◌-◌, ◌*◌, ◌%◌, ◌^◌, ◌<◌, ◌≤◌, Bool, false, ◌==◌, MatchBool, if◌then◌else◌, List, [], ◌∷◌, ◌++◌, length, take, replicate, codes, slice_index, sum_by, min}
use Rattle.std.specs.List.{AllByRecursion, flat_map}
use Rattle.std.specs.Int.{w16, w32, to_be_bytes}
use Rattle.git_index.specs.declared.object_format.ObjectFormat.{ObjectFormat}
use Rattle.git_index.specs.declared.object_format.ObjectFormat.TheVariants.{Sha1, Sha256}
use Rattle.git_index.specs.declared.entry.Kind.{Kind}
use Rattle.git_index.specs.declared.entry.Kind.TheVariants.{File, Executable, Link, Submodule}
use Rattle.git_index.specs.Entries.{Tracked, InOrder}

-- ---- a path

-- The bytes stand for a number, where `high` is what came of the bytes before. Each byte but the last is 128 or more; it has seven
-- bits, and one is added before the next seven come.
abbrev pub IsNumber : ℕ → List ℕ → ℕ → Type 0
IsNumber high [] n = ⊥
IsNumber high (b ∷ []) n = (b < 128) × (n ≡ high * 128 + b)
IsNumber high (b ∷ c ∷ bytes) n = (128 ≤ b) × IsNumber (high * 128 + (b - 128) + 1) (c ∷ bytes) n

-- in versions 2 and 3: the path, and zero bytes, one at least, up to a length of the entry that 8 divides; `front` bytes of the
-- entry come before
pub record IsPadded (front : ℕ) (path text : List ℕ) : Type 0 where
  pub zeros : ℕ
  pub some : (0 < zeros) × (zeros ≤ 8)
  pub divided : (front + length path + zeros) % 8 ≡ 0
  pub whole : AllByRecursion (λ b. b ≢ 0) path
  pub joined : text ≡ path ++ replicate zeros 0

-- in version 4: how many bytes of the previous path's end are taken off, what is put on, and a zero byte
pub record IsShared (previous path text : List ℕ) : Type 0 where
  pub number : List ℕ
  pub taken : ℕ
  pub counted : IsNumber 0 number taken × (taken ≤ length previous)
  pub added : List ℕ
  pub whole : AllByRecursion (λ b. b ≢ 0) added
  pub is : path ≡ take (length previous - taken) previous ++ added
  pub joined : text ≡ number ++ (added ++ 0 ∷ [])

-- ---- an entry

abbrev pub mode_of : Kind → ℕ
mode_of File = 0x81A4
mode_of Executable = 0x81ED
mode_of Link = 0xA000
mode_of Submodule = 0xE000

abbrev pub bit : ℕ → Bool → ℕ
bit n b = if b then 2 ^ n else 0

-- Times and places, the mode, user and group and size, the object's name, flags, more flags where a flag says so, and the path. Of
-- the flags' twelve lower bits 4095 tells no length.
pub record IsEntry (version hash_len : ℕ) (previous : List ℕ) (entry : Tracked) (text : List ℕ) : Type 0 where
  pub times : List ℕ
  pub owner : List ℕ
  pub lengths : (length times ≡ 24) × (length owner ≡ 12 + hash_len)
  pub extended : Bool
  pub stage : entry.stage < 4
  pub told : ℕ
  pub telling : (told ≡ 4095) ⊎ ((told < 4095) × (told ≡ length entry.path))
  pub more : List ℕ
  pub more_is : more ≡ (if extended then to_be_bytes w16 (bit 14 entry.skip_worktree + bit 13 entry.intent_to_add) else [])
  pub unset : extended ≡ false → (entry.skip_worktree ≡ false) × (entry.intent_to_add ≡ false)
  pub name : List ℕ
  pub spelled : MatchBool (version == 4) (IsShared previous entry.path name) (IsPadded (42 + hash_len + length more) entry.path name)
  pub joined : text ≡ times ++ (to_be_bytes w32 (mode_of entry.kind) ++ (owner ++ (to_be_bytes w16 (bit 15 entry.assume_valid + bit 14 extended + entry.stage * 2 ^ 12 + told) ++ (more ++ name))))

-- the entries, in order; `previous` is the path before the first
abbrev pub AreEntries : ℕ → ℕ → List ℕ → List Tracked → List ℕ → Type 0
AreEntries version hash_len previous [] bytes = bytes ≡ []
AreEntries version hash_len previous (e ∷ entries) bytes =
    (text : List ℕ) × (rest : List ℕ) × (bytes ≡ text ++ rest) × IsEntry version hash_len previous e text × AreEntries version hash_len e.path entries rest

-- ---- the file

-- an extension: four bytes of name, a length, and so many bytes; the name's first byte, `A` to `Z`, says that it may be passed over
abbrev pub IsExtension : List ℕ × List ℕ → Type 0
IsExtension x = (length x.0 ≡ 4) × (65 ≤ slice_index x.0 0) × (slice_index x.0 0 ≤ 90) × (length x.1 < 2 ^ 32)

abbrev pub extension_text : List ℕ × List ℕ → List ℕ
extension_text x = x.0 ++ (to_be_bytes w32 (length x.1) ++ x.1)

-- extensions that may be passed over, up to an end
abbrev pub ArePassedOver : List ℕ → List ℕ → Type 0
ArePassedOver bytes end = (xs : List (List ℕ × List ℕ)) × AllByRecursion IsExtension xs × (bytes ≡ flat_map extension_text xs ++ end)

abbrev pub hash_len : ObjectFormat → ℕ
hash_len Sha1 = 20
hash_len Sha256 = 32

-- a link among extensions: `link`, a length, the hash of a shared file, and so many bytes more; at the end fewer bytes may stand than
-- an extension has, which git passes over too
pub record HasLink (format : ObjectFormat) (hash bitmaps extensions : List ℕ) : Type 0 where
  pub few : List ℕ
  pub behind : List ℕ
  pub last : ArePassedOver behind few × (length few < 8)
  pub lengths : (length hash ≡ hash_len format) × (length (hash ++ bitmaps) < 2 ^ 32)
  pub first : ArePassedOver extensions (extension_text (codes "link", hash ++ bitmaps) ++ behind)

abbrev pub zero_hash : ObjectFormat → List ℕ
zero_hash format = replicate (hash_len format) 0

-- no link, or one whose hash is zero
abbrev pub HasNoLink : ObjectFormat → List ℕ → Type 0
HasNoLink format extensions = ((few : List ℕ) × ArePassedOver extensions few × (length few < 8)) ⊎ ((bitmaps : List ℕ) × HasLink format (zero_hash format) bitmaps extensions)

-- A file: `DIRC`, the version, the number of entries, the entries, extensions, and as many bytes as a checksum has, whichever these are.
pub record IsFile (format : ObjectFormat) (bytes : List ℕ) (entries : List Tracked) (extensions : List ℕ) : Type 0 where
  pub version : ℕ
  pub known : (2 ≤ version) × (version ≤ 4) × (length entries < 2 ^ 32)
  pub texts : List ℕ
  pub each : AreEntries version (hash_len format) [] entries texts
  pub content : List ℕ
  pub content_is : content ≡ codes "DIRC" ++ (to_be_bytes w32 version ++ (to_be_bytes w32 (length entries) ++ (texts ++ extensions)))
  pub checksum : List ℕ
  pub checksum_len : length checksum ≡ hash_len format
  pub joined : bytes ≡ content ++ checksum

-- an index file that needs no other
pub record IsIndexFile (format : ObjectFormat) (bytes : List ℕ) (entries : List Tracked) : Type 0 where
  pub extensions : List ℕ
  pub spelled : IsFile format bytes entries extensions
  pub whole : HasNoLink format extensions
  pub ordered : InOrder entries

-- the paths have together at most 16 bytes for each byte of the file
abbrev pub HasRoom : List ℕ → List Tracked → Type 0
HasRoom bytes entries = sum_by (λ e. length e.path) entries ≤ min (16 * length bytes) (2 ^ 64 - 1)
