-- The parts of the question whether an entry holds a path.
use Rattle.std.specs.Prelude.{◌≡◌, ◌⊎◌, ℕ, List, [], ◌∷◌, ◌++◌, slice_get, slice_index, take, Some}
use Rattle.glob_matcher.specs.declared.wildmatch.way.Way.TheVariants.{Plain}
use Rattle.glob_matcher.specs.Bytes.{slash}
use Rattle.glob_matcher.specs.Matching.{SplitsBy}
use Rattle.git_index.specs.declared.entry.Kind.TheVariants.{Submodule}
use Rattle.git_index.specs.Entries.{IsSubmodule, Tracked}
use Rattle.git_index.specs.Holding.{FitsPattern, LiesBelow}

-- some entry has the property
abbrev pub HasEntry : (Tracked → Type 0) → List Tracked → Type 0
HasEntry P entries = (i : ℕ) × (e : Tracked) × (slice_get entries i ≡ Some e) × P e

-- some entry is a submodule
abbrev pub HasSubmodules : List Tracked → Type 0
HasSubmodules entries = HasEntry (λ e. e.kind ≡ Submodule) entries

-- an entry holds a path that is no pattern
abbrev pub HoldsPath : Tracked → List ℕ → Type 0
HoldsPath e asked = (asked ≡ e.path) ⊎ ((asked ≡ e.path ++ slash ∷ []) × (e.kind ≡ Submodule)) ⊎ LiesBelow e.path asked

abbrev pub IsHeldByPath : List Tracked → List ℕ → Type 0
IsHeldByPath entries asked = HasEntry (λ e. HoldsPath e asked) entries

-- the path begins with the front, and the pattern matches the rest
abbrev pub Fits : List ℕ → List ℕ → List ℕ → Type 0
Fits path front pattern = (rest : List ℕ) × (path ≡ front ++ rest) × SplitsBy rest pattern Plain

abbrev pub IsFitted : List Tracked → List ℕ → List ℕ → Type 0
IsFitted entries front pattern = HasEntry (λ e. Fits e.path front pattern) entries

-- an entry holds a path as a pattern
abbrev pub IsHeldByPattern : List Tracked → List ℕ → ℕ → Type 0
IsHeldByPattern entries asked literal = HasEntry (λ e. FitsPattern e.path asked literal) entries

-- a slash stands at the place, and the path of a submodule before it
abbrev pub EndsSubmodule : List Tracked → List ℕ → ℕ → Type 0
EndsSubmodule entries asked place = (slice_index asked place ≡ slash) × IsSubmodule entries (take place asked)
