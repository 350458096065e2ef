-- Words of the code that takes a carriage return and the spaces off a line's end.
use Rattle.std.specs.Prelude.{◌≡◌, ◌≢◌, ◌==◌, ℕ, Bool, false, nat_eq, if◌then◌else◌, List, [], ◌∷◌, ◌++◌}
use Rattle.std.specs.List.{AllByRecursion, ends_with}
use Rattle.gix_glob.specs.Bytes.{backslash}
use Rattle.glob_lines.specs.Equations.Ignore.{carriage_return}

-- whether a line ends in a carriage return
abbrev pub ends_in_return : List ℕ → Bool
ends_in_return line = ends_with nat_eq line (carriage_return ∷ [])

-- the bytes are the front, which doesn't end in this byte, and then this byte alone
pub record StandsBefore (byte : ℕ) (bytes front : List ℕ) : Type 0 where
  pub rest : List ℕ
  pub joined : bytes ≡ front ++ rest
  pub each : AllByRecursion (λ b. b ≡ byte) rest
  pub last : (before : List ℕ) → front ≢ before ++ byte ∷ []

-- whether the last unit is a backslash that lacks the byte after it
abbrev pub is_open : List ℕ → Bool
is_open [] = false
is_open (b ∷ []) = b == backslash
is_open (b ∷ c ∷ bytes) = if b == backslash then is_open bytes else is_open (c ∷ bytes)
