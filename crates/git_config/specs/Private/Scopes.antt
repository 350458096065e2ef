-- Sections, and the words of a condition.
use Rattle.std.specs.Prelude.{◌≡◌, ◌↔◌, ◌==◌, ◌++◌, ℕ, IsSomeAnd, IsTrue, List, Option, codes}
use Rattle.std.specs.List.{list_any}
use Rattle.glob_matcher.specs.declared.wildmatch.way.Way.TheVariants.{Path}
use Rattle.glob_matcher.specs.Matching.{SplitsBy}
use Rattle.git_config.specs.declared.scope.Scope.{Scope}
use Rattle.git_config.specs.declared.surroundings.Surroundings.{Surroundings}
use Rattle.git_config.specs.Grammar.{before_zero}
use Rattle.git_config.specs.Includes.{Includes, below}

-- the key of an include with a condition
abbrev pub conditional : List ℕ → List ℕ
conditional condition = codes "includeif." ++ (condition ++ codes ".path")

abbrev pub OnBranch : Surroundings → List ℕ → Type 0
OnBranch around told = IsSomeAnd around.branch (λ name. SplitsBy name.items (below told) Path)

-- a section of a file of this real path: what its entries of the name `path` do is as it is said
pub record IsScope (around : Surroundings) (real : Option (List ℕ)) (scope : Scope) : Type 0 where
  pub cut : scope.is_cut ≡ list_any (λ b. b == 0) scope.section.value.keys.items
  pub includes : IsTrue scope.includes ↔ Includes around real (before_zero (scope.section.value.keys.items ++ codes "path"))
