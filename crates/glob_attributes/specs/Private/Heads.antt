-- The head of a text that stands between quotes.
use Rattle.std.specs.Prelude.{◌≡◌, ℕ, List, [], length, Option, Some, option_map, unwrap_or}
use Rattle.glob_attributes.specs.Equations.Heads.{quoted_of}

-- the bytes that it spells, and how much memory they need
abbrev pub spelled : List ℕ → Option (List ℕ)
spelled text = option_map (λ found. found.0) (quoted_of text)

abbrev pub memory_for_head : List ℕ → ℕ
memory_for_head text = length (unwrap_or (spelled text) [])

-- there is a head of so many bytes, and the rest follows it
abbrev pub Measures : Option (List ℕ × List ℕ) → ℕ → List ℕ → Type 0
Measures quoted count rest = (head : List ℕ) × (quoted ≡ Some (head, rest)) × (length head ≡ count)
