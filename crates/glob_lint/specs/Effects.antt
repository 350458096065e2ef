-- What is said of a line of ignore lists: why it makes no difference, or a path about which it does.
use Rattle.std.specs.Prelude.{◌↔◌, ℕ, Bool, List, [], ◌∷◌, Option, Some}
use Rattle.glob_lists.specs.declared.rules.Rules.{Rules}
use Rattle.gix_glob.specs.EntryLists.{EntryList}
use Rattle.glob_lists.specs.Deciding.{PairAnswers}
use Rattle.glob_lists.specs.Matches.{ComesBefore}
use Rattle.glob_trees.specs.Trees.{DecidesInTree, Ignores, IsAbove, IsPositiveAt}
use Rattle.glob_lint.specs.declared.why.Why.{Why}
use Rattle.glob_lint.specs.declared.why.Why.TheVariants.{MatchesNothing, Covered, BelowIgnored, TakesNothingBack}
use Rattle.glob_lint.specs.declared.effects.Effect.{Effect}
use Rattle.glob_lint.specs.declared.effects.Effect.TheVariants.{Idle, Changes, Unknown}
use Rattle.glob_lint.specs.Ignoring.{IgnoreAlike, Ignoring}
use Rattle.glob_lint.specs.Lines.{IsReal}
use Rattle.glob_lint.specs.Without.{lists_but}

-- the line at the one pair of places comes before the line at the other
abbrev pub Before : ℕ × ℕ → ℕ × ℕ → Type 0
Before pair other = ComesBefore pair.0 pair.1 other.0 other.1

module _ {V : Type 0} (rules : Rules) (lists : List (EntryList V)) where
  -- the line at the pair of places matches the path
  abbrev pub Matches : ℕ × ℕ → List ℕ → Bool → Type 0
  Matches pair path is_dir = PairAnswers lists path is_dir rules pair.0 pair.1

  -- the line at `by` matches each path of a work tree that the one at `pair` matches
  abbrev pub CoversAt : ℕ × ℕ → ℕ × ℕ → Type 0
  CoversAt pair by = (path : List ℕ) (is_dir : Bool) → IsReal path → Matches pair path is_dir → Matches by path is_dir

  -- why a line makes no difference
  abbrev pub IsWhy : ℕ × ℕ → Why → Type 0
  IsWhy pair MatchesNothing = (path : List ℕ) (is_dir : Bool) → IsReal path → ¬ Matches pair path is_dir
  IsWhy pair (Covered by) = CoversAt pair by
  IsWhy pair (BelowIgnored by) = (path : List ℕ) (is_dir : Bool) → IsReal path → Matches pair path is_dir → (folder : List ℕ) × IsAbove folder path × Ignores lists rules folder by
  IsWhy pair TakesNothingBack = (path : List ℕ) (is_dir : Bool) (other : ℕ × ℕ) → IsReal path → Matches pair path is_dir → Matches other path is_dir
      → IsPositiveAt lists other → Before pair other

  -- the line decides about the path, and without it the path is ignored if it wasn't, and isn't if it was
  pub record Turns (pair : ℕ × ℕ) (path : List ℕ) (is_dir : Bool) : Type 0 where
    pub real : IsReal path
    pub decides : DecidesInTree lists path is_dir rules (Some pair)
    pub other : Option (ℕ × ℕ)
    pub without : DecidesInTree (lists_but (pair ∷ []) 0 lists) path is_dir rules other
    pub turned : ¬ (Ignoring lists (Some pair) ↔ Ignoring (lists_but (pair ∷ []) 0 lists) other)

  -- what is said of a line
  abbrev pub IsEffect : ℕ × ℕ → Effect → Type 0
  IsEffect pair (Idle why) = IsWhy pair why × IgnoreAlike rules lists (lists_but (pair ∷ []) 0 lists)
  IsEffect pair (Changes path is_dir) = Turns pair path.items is_dir
  IsEffect pair Unknown = Unit {0}
