-- Why lines may be taken out of lists together.
use Rattle.std.specs.Prelude.{◌≡◌, ◌⊎◌, ◌↔◌, ℕ, Bool, false, true, List}
use Rattle.glob_lists.specs.declared.rules.Rules.{Rules}
use Rattle.gix_glob.specs.EntryLists.{EntryList}
use Rattle.glob_lists.specs.Deciding.{IsLastAnswer}
use Rattle.glob_trees.specs.Trees.{HasNoneIgnored, IsPositiveAt}
use Rattle.glob_lint.specs.declared.why.Why.{Why}
use Rattle.glob_lint.specs.declared.why.Why.TheVariants.{MatchesNothing, Covered, BelowIgnored, TakesNothingBack}
use Rattle.glob_lint.specs.declared.effects.Effect.{Effect}
use Rattle.glob_lint.specs.declared.effects.Effect.TheVariants.{Idle, Changes, Unknown}
use Rattle.glob_lint.specs.Effects.{Before, CoversAt, IsWhy, Matches, Turns}
use Rattle.glob_lint.specs.Lines.{IsReal}
use Rattle.glob_lint.specs.Without.{is_among}

module _ {V : Type 0} (rules : Rules) (lists : List (EntryList V)) where
  -- the two lines match no path together
  abbrev pub AreApartAt : ℕ × ℕ → ℕ × ℕ → Type 0
  AreApartAt pair other = (path : List ℕ) (is_dir : Bool) → IsReal path → Matches rules lists pair path is_dir → ¬ Matches rules lists other path is_dir

  -- of no path with no ignored folder above it, it is the last line that matches
  abbrev pub NeverDecides : ℕ × ℕ → Type 0
  NeverDecides pair = (path : List ℕ) (is_dir : Bool) → IsReal path → HasNoneIgnored lists rules path → ¬ IsLastAnswer lists path is_dir rules pair

  -- a line from the place `first` on that comes before the one at the pair has its sign, where they match a path together
  abbrev pub AlikeAt : ℕ × ℕ → ℕ × ℕ → ℕ × ℕ → Type 0
  AlikeAt first pair other = ¬ Before other first → Before other pair → (path : List ℕ) (is_dir : Bool) → IsReal path
      → Matches rules lists pair path is_dir → Matches rules lists other path is_dir → IsPositiveAt lists other ↔ IsPositiveAt lists pair

  abbrev pub AlikeFrom : ℕ × ℕ → ℕ × ℕ → Type 0
  AlikeFrom first pair = (other : ℕ × ℕ) → AlikeAt first pair other

  -- an earlier line matches all that it does and stays, and so far back no line of the other sign matches any of it
  pub record IsBacked (gone : List (ℕ × ℕ)) (pair : ℕ × ℕ) : Type 0 where
    pub by : ℕ × ℕ
    pub stays : is_among gone by.0 by.1 ≡ false
    pub first : Before by pair
    pub covers : CoversAt rules lists pair by
    pub alike : AlikeFrom by pair

  -- a reason by which the line may go with these ones
  abbrev pub MayGo : List (ℕ × ℕ) → ℕ × ℕ → Type 0
  MayGo gone pair = NeverDecides pair ⊎ (IsBacked gone pair ⊎ IsWhy rules lists pair TakesNothingBack)

  -- why a line makes no difference, and what else shows that it doesn't
  abbrev pub IsReason : ℕ × ℕ → Why → Type 0
  IsReason pair (Covered by) = CoversAt rules lists pair by × (Before pair by ⊎ (Before by pair × AlikeFrom by pair))
  IsReason pair MatchesNothing = IsWhy rules lists pair MatchesNothing
  IsReason pair (BelowIgnored by) = IsWhy rules lists pair (BelowIgnored by)
  IsReason pair TakesNothingBack = IsWhy rules lists pair TakesNothingBack

  -- what is found of a line
  abbrev pub IsFound : ℕ × ℕ → Effect → Type 0
  IsFound pair (Idle why) = IsReason pair why
  IsFound pair (Changes path is_dir) = Turns rules lists pair path.items is_dir
  IsFound pair Unknown = Unit {0}

  -- where an earlier line covers this one, it is among those that stay
  abbrev pub Needs : List (ℕ × ℕ) → ℕ × ℕ → Why → Type 0
  Needs stay pair (Covered by) = Before by pair → is_among stay by.0 by.1 ≡ true
  Needs stay pair why = Unit {0}

  -- each line that goes has a reason, and the lines that this needs are among those that stay, none of which goes
  pub record MayAllGo (gone stay : List (ℕ × ℕ)) : Type 0 where
    pub reasons : (pair : ℕ × ℕ) → is_among gone pair.0 pair.1 ≡ true → (why : Why) × IsReason pair why × Needs stay pair why
    pub apart : (pair : ℕ × ℕ) → is_among gone pair.0 pair.1 ≡ true → is_among stay pair.0 pair.1 ≡ false
