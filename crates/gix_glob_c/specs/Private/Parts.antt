-- Texts that stand in others, by their bytes.
use Rattle.std.specs.Prelude.{◌≡◌, ℕ, List, ◌++◌, length}

-- the bytes have the text, and so many bytes behind it
pub record HasBefore (bytes text : List ℕ) (count : ℕ) : Type 0 where
  pub before : List ℕ
  pub behind : List ℕ
  pub joined : bytes ≡ before ++ (text ++ behind)
  pub many : length behind ≡ count

-- the bytes begin with the text
abbrev pub BeginsSo : List ℕ → List ℕ → Type 0
BeginsSo bytes text = (behind : List ℕ) × (bytes ≡ text ++ behind)
