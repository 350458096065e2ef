-- What an index says: its entries, and what is asked of them.
use Rattle.std.specs.Prelude.{◌≡◌, ◌⊎◌, ℕ, ◌<◌, ◌≤◌, Bool, List, [], ◌∷◌, ◌++◌, nat_eq, slice_get, Some}
use Rattle.std.specs.List.{filter, starts_with}
use Rattle.std.specs.Ordering.{nat_cmp}
use Rattle.std.specs.declared.cmp.Ordering.TheVariants.{Less}
use Rattle.std.specs.Cmp.Lexicographic.{slice_cmp}
use Rattle.git_index.specs.declared.entry.Kind.{Kind}
use Rattle.git_index.specs.declared.entry.Kind.TheVariants.{Submodule}
use Rattle.git_index.specs.declared.entry.Entry.{Entry}

-- an entry without where its path lies in memory
pub record Tracked : Type 0 where
  pub path : List ℕ
  pub stage : ℕ
  pub kind : Kind
  pub assume_valid : Bool
  pub skip_worktree : Bool
  pub intent_to_add : Bool

abbrev pub tracked : Entry → Tracked
tracked e = record { path = e.path; stage = e.stage; kind = e.kind; assume_valid = e.assume_valid; skip_worktree = e.skip_worktree; intent_to_add = e.intent_to_add }

-- An entry comes before another: its path does, by bytes; or they have one path, at stages above 0 that don't fall.
abbrev pub ComesBefore : Tracked → Tracked → Type 0
ComesBefore a b = (slice_cmp nat_cmp a.path b.path ≡ Less) ⊎ ((a.path ≡ b.path) × (0 < a.stage) × (a.stage ≤ b.stage))

-- each entry comes before the next
abbrev pub InOrder : List Tracked → Type 0
InOrder [] = Unit {0}
InOrder (a ∷ []) = Unit {0}
InOrder (a ∷ b ∷ entries) = ComesBefore a b × InOrder (b ∷ entries)

-- an entry, at whichever stage, has this path
abbrev pub IsTracked : List Tracked → List ℕ → Type 0
IsTracked entries path = (i : ℕ) × (e : Tracked) × (slice_get entries i ≡ Some e) × (e.path ≡ path)

-- an entry's path is this folder's, a slash, and more
abbrev pub HasBelow : List Tracked → List ℕ → Type 0
HasBelow entries folder = (i : ℕ) × (e : Tracked) × (rest : List ℕ) × (slice_get entries i ≡ Some e) × (e.path ≡ folder ++ 47 ∷ rest)

-- an entry, at whichever stage, has this path and is a submodule
abbrev pub IsSubmodule : List Tracked → List ℕ → Type 0
IsSubmodule entries path = (i : ℕ) × (e : Tracked) × (slice_get entries i ≡ Some e) × (e.path ≡ path) × (e.kind ≡ Submodule)

-- the entries whose paths begin so
abbrev pub starting_with : List ℕ → List Tracked → List Tracked
starting_with front entries = filter (λ e. starts_with nat_eq e.path front) entries
