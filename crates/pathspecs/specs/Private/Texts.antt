-- Texts in the order of their bytes, and where one ends above a path.
use Rattle.std.specs.Prelude.{◌≡◌, ◌⊎◌, ℕ, ◌+◌, List, Vec, slice_index, take}
use Rattle.std.specs.Cmp.Lexicographic.{slice_cmp}
use Rattle.std.specs.List.{Contains}
use Rattle.std.specs.Ordering.{nat_cmp}
use Rattle.std.specs.declared.cmp.Ordering.{Ordering}
use Rattle.glob_matcher.specs.Bytes.{slash}

abbrev pub bytes_cmp : {Z : Type 0} → Vec ℕ Z → Vec ℕ Z → Ordering
bytes_cmp one other = slice_cmp nat_cmp one.items other.items

-- at this place of a path a slash stands, before which or with which a text ends
abbrev pub EndsAt : List (List ℕ) → List ℕ → ℕ → Type 0
EndsAt texts path place = (slice_index path place ≡ slash) × (Contains texts (take place path) ⊎ Contains texts (take (place + 1) path))
