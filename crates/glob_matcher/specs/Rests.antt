-- The rest of a pattern, as a pattern of its own.
use Rattle.std.specs.Prelude.{◌≡◌, ◌⊎◌, ℕ, List, []}
use Rattle.glob_matcher.specs.Bytes.{EndsInSlash, HasByte, star}

-- what stands before the rest bounds a run at its start as a pattern's start does: where the rest begins with two stars, it is nothing, or it
-- ends in a slash
abbrev pub StandsAlone : List ℕ → List ℕ → Type 0
StandsAlone front rest = HasByte rest 0 star → HasByte rest 1 star → (front ≡ []) ⊎ EndsInSlash front
