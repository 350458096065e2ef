-- Which paths an index holds, as they are asked for. A path is asked from the top of the work tree, and the current folder has put
-- `literal` bytes in front.
use Rattle.std.specs.Prelude.{◌≡◌, ◌≢◌, ◌⊎◌, ℕ, List, [], ◌∷◌, ◌++◌, drop, slice_get, take, Some}
use Rattle.std.specs.List.{before_first}
use Rattle.glob_matcher.specs.declared.wildmatch.way.Way.TheVariants.{Plain}
use Rattle.glob_matcher.specs.Bytes.{is_special, slash}
use Rattle.glob_matcher.specs.Matching.{SplitsBy}
use Rattle.git_index.specs.declared.entry.Kind.TheVariants.{Submodule}
use Rattle.git_index.specs.Entries.{IsSubmodule, Tracked}

-- what of an asked path is compared as it stands: the `literal` bytes, and those up to the next special byte
abbrev pub front_of : List ℕ → ℕ → List ℕ
front_of asked literal = take literal asked ++ before_first is_special (drop literal asked)

-- A pattern stands behind the front of the asked path. The path begins with that front, and the pattern matches the rest of it, slashes
-- too.
pub record FitsPattern (path asked : List ℕ) (literal : ℕ) : Type 0 where
  pub pattern : List ℕ
  pub rest : List ℕ
  pub asked_cut : asked ≡ front_of asked literal ++ pattern
  pub some : pattern ≢ []
  pub path_cut : path ≡ front_of asked literal ++ rest
  pub matches : SplitsBy rest pattern Plain

-- a folder is asked for, with or without a slash at its end, and the path lies below it
abbrev pub LiesBelow : List ℕ → List ℕ → Type 0
LiesBelow path asked = (folder : List ℕ) × (rest : List ℕ) × ((asked ≡ folder) ⊎ (asked ≡ folder ++ slash ∷ [])) × (path ≡ folder ++ slash ∷ rest)

-- An entry holds what is asked for: the top; its own path, with a slash too where it is a submodule; a folder above it; a pattern that it
-- fits.
abbrev pub Holds : Tracked → List ℕ → ℕ → Type 0
Holds e asked literal =
    (asked ≡ [])
    ⊎ (asked ≡ e.path)
    ⊎ ((asked ≡ e.path ++ slash ∷ []) × (e.kind ≡ Submodule))
    ⊎ LiesBelow e.path asked
    ⊎ FitsPattern e.path asked literal

-- an entry, at whichever stage, holds what is asked for
abbrev pub IsHeld : List Tracked → List ℕ → ℕ → Type 0
IsHeld entries asked literal = (i : ℕ) × (e : Tracked) × (slice_get entries i ≡ Some e) × Holds e asked literal

-- the asked path goes on below the path of a submodule, by a slash and at least one byte
abbrev pub LiesIn : List Tracked → List ℕ → List ℕ → Type 0
LiesIn entries asked path = (b : ℕ) × (rest : List ℕ) × (asked ≡ path ++ slash ∷ b ∷ rest) × IsSubmodule entries path

-- so it does below some submodule
abbrev pub LiesInSubmodule : List Tracked → List ℕ → Type 0
LiesInSubmodule entries asked = (path : List ℕ) × LiesIn entries asked path
