-- What a path shows, and whether a row passes it.
use Rattle.std.specs.Prelude.{◌≡◌, ℕ, ◌+◌, ◌-◌, ◌/◌, ◌%◌, ◌^◌, ◌<◌, ◌≤◌, List, [], ◌∷◌, length, slice_index, drop, take, Option, None, Some, if◌then◌else◌, IsTrue}
use Rattle.std.specs.Int.{bit_at}
use Rattle.gix_glob.specs.Bytes.{HasByte, slash}
use Rattle.glob_lists.specs.declared.asks.literals.TheConstants.{LONGEST_END}
use Rattle.glob_lists.specs.declared.asks.part.Part.TheVariants.{NameEnd}
use Rattle.glob_lists.specs.declared.asks.probe.Lacking.{Lacking}
use Rattle.glob_lists.specs.declared.asks.probe.Probe.{Probe}
use Rattle.glob_lists.specs.declared.asks.row.Row.{Row}
use Rattle.glob_lists.specs.Private.Asks.Literals.{bit_of, pair_of, end_key, without_bytes}
use Rattle.glob_lists.specs.Private.Asks.Parts.{IsPlainEnd, is_name, part_of}
use Rattle.glob_lists.specs.Private.Asks.Rows.{HasNoEnd, HasSomeEnd}

-- the set has each byte of the text but those of place 0, for which no row asks
abbrev pub HoldsBytes : List ℕ → ℕ → Type 0
HoldsBytes text set = (j : ℕ) → j < length text → 0 < bit_of (slice_index text j) → bit_at set (bit_of (slice_index text j)) ≡ 1

-- The set has each such byte of the text and each two that stand side by side.
pub record HoldsBits (text : List ℕ) (set : ℕ) : Type 0 where
  pub bytes : HoldsBytes text set
  pub pairs : (j : ℕ) → j + 1 < length text → bit_at set (32 + pair_of (slice_index text j) (slice_index text (j + 1))) ≡ 1

-- the number begins with those of the ends of a path, up to its own length and the longest
abbrev pub HasEndKeys : List ℕ → ℕ → Type 0
HasEndKeys path end = (n : ℕ) → n ≤ LONGEST_END → n ≤ length path → without_bytes end (LONGEST_END - n) ≡ end_key path n

-- the set has what each end of the path without a slash has: so all of its last part
abbrev pub HoldsNameBits : List ℕ → ℕ → Type 0
HoldsNameBits path set = (at : ℕ) → ((m : ℕ) → ¬ HasByte (drop at path) m slash) → HoldsBits (drop at path) set

-- the last part of a path, which begins at a place; the whole path where there is none
abbrev pub last_part : Option ℕ → List ℕ → List ℕ
last_part None path = path
last_part (Some start) path = drop start path

-- what stands before it
abbrev pub front_part : Option ℕ → List ℕ → List ℕ
front_part None path = []
front_part (Some start) path = take start path

-- The path shows these numbers and sets.
pub record Shows (path : List ℕ) (probe : Probe) : Type 0 where
  pub ends : HasEndKeys path probe.end
  pub plain : IsTrue probe.has_plain_end → IsPlainEnd path LONGEST_END
  pub bytes : HoldsBits path probe.bytes
  pub name_bytes : HoldsNameBits path probe.name_bytes

-- the set has all that is needed
abbrev pub HasAll : ℕ → ℕ → Type 0
HasAll held needed = (i : ℕ) → bit_at needed i ≡ 1 → bit_at held i ≡ 1

-- a set has what another one of 64 bits lacks
abbrev pub IsWithout : ℕ → ℕ → Type 0
IsWithout held lacked = (held < 2 ^ 64) × (lacked ≡ 2 ^ 64 - 1 - held)

-- The sets have what a path lacks, by the place of the part at which a pattern looks: the last part, or the whole.
pub record Lacks (probe : Probe) (lacking : Lacking) : Type 0 where
  pub fits : probe.bytes < 2 ^ 64
  pub name_fits : probe.name_bytes < 2 ^ 64
  pub sets : lacking.sets ≡ (2 ^ 64 - 1 - probe.bytes) ∷ (2 ^ 64 - 1 - probe.name_bytes) ∷ (2 ^ 64 - 1 - probe.name_bytes) ∷ (2 ^ 64 - 1 - probe.bytes) ∷ []

-- the path ends as the row's text does, as far as the numbers tell
abbrev pub HasEnd : Row → Probe → Type 0
HasEnd row probe = row.asked ≡ probe.end / 2 ^ (row.spare % 64)

-- the path, or its last part where the row looks at no more, has the bytes and pairs that the row needs
abbrev pub HasBytes : Row → Probe → Type 0
HasBytes row probe = HasAll (if is_name (part_of row.part) then probe.name_bytes else probe.bytes) row.asked

-- The path has what the row asks for.
pub record Passes (row : Row) (probe : Probe) : Type 0 where
  pub end : HasSomeEnd row → HasEnd row probe
  pub bits : HasNoEnd row → HasBytes row probe

-- The path is known to be matched by the row's pattern, without a test, where it passes: the pattern is told by its end, and no byte of the
-- path's end is a capital letter.
pub record IsTold (row : Row) (probe : Probe) : Type 0 where
  pub part : part_of row.part ≡ NameEnd
  pub plain : IsTrue probe.has_plain_end
