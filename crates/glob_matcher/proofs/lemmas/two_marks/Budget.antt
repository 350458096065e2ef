-- The engine with two marks: what is left of its budget, of steps as of looks. After the look at the last byte, which is one
-- step, each pair of a token and a place of the value is tested at most once, since a star between two slashes of the pattern
-- looks at one component of the value.
use Rattle.std.proofs.Common.{◌≡◌, ℕ, ◌+◌, ◌-◌, ◌*◌, ◌≤◌, false, List, length, Option, Some, None, sym, ◌∙◌, ap, subst, arith}
use Rattle.glob_matcher.specs.declared.wildmatch.way.Way.{Way}
use Rattle.glob_matcher.specs.declared.wildmatch.marks.Mark.{Mark}
use Rattle.glob_matcher.specs.declared.wildmatch.state.Crossing.{Crossing}
use Rattle.glob_matcher.specs.declared.wildmatch.state.Crossing.TheVariants as crossing
use Rattle.glob_matcher.specs.declared.wildmatch.state.State.{State}
use Rattle.glob_matcher.specs.declared.wildmatch.tokens.TokenKind.{TokenKind}
use Rattle.glob_matcher.specs.Private.Reader.{is_star}
use Rattle.glob_matcher.specs.Tokens.{IsToken}
use Rattle.glob_matcher.specs.Steps.{Counts, step_limit, look_limit}
use Rattle.glob_matcher.specs.Private.Components.{next_component}
use Rattle.glob_matcher.specs.Private.SizedTokens.{SizedToken, sized}
use Rattle.glob_matcher.specs.Private.Prices.{Measure, Steps, Looks, amount, amount_of, test, first_test, cost, next_tests_at}
use Rattle.glob_matcher.specs.Private.Budget.{LocalRestIfSet, Owes, AllowsAt, AllowsLeft, IsTest, AllowsMiss, IsWithinLimits}
use Rattle.glob_matcher.proofs.lemmas.two_marks.Prices.{amount-sum, cost-next_tests_at, cost-limit, sized-head, sized-settle, test-single, first_test-cons, first_test-places_left, first_test-some}
use Rattle.glob_matcher.proofs.lemmas.two_marks.States.{state_of}

-- the engine at its start, after the look at the last byte, and with two looks to spare
pub allows_start : (measure : Measure) (way : Way) (p v : List ℕ) (before : Counts)
    → AllowsAt measure way p v (state_of 0 0 crossing.Unmet None) (amount_of measure before + amount measure (length v) 2)
    (amount_of measure before + amount measure (step_limit (length p) (length v) - 1) (look_limit (length p) (length v) - 2))
allows_start measure way p v before = record {
  all = λ xs read.
      let steps = step_limit (length p) (length v) in
      let looks = look_limit (length p) (length v) in
      let sum = amount-sum measure (steps - 1) (looks - 2) 1 2 {e = steps} {f = looks} (omega arith) (omega arith) in
      let most = cost-limit measure way v p xs read in
      let skipped : cost measure way v xs (next_component way v 0) ≤ cost measure way v xs (next_tests_at way v xs 0) = cost-next_tests_at measure way v xs 0 in
      record {
        tokens = xs;
        read = read;
        rest = cost measure way v xs (next_component way v 0);
        crossing = tt;
        later = omega arith;
        here = omega (arith, most, sum);
        local = tt;
      };
}

-- what is within a limit of each measure is within the limits
pub within_limits : (p v : List ℕ) (before after : Counts)
    → ((measure : Measure) → amount_of measure after
    ≤ amount_of measure before + amount measure (step_limit (length p) (length v) - 1) (look_limit (length p) (length v) - 2))
    → IsWithinLimits (length p) (length v) before after
unfolding amount_of amount
within_limits p v before after low = record { steps = omega (arith, low Steps); looks = omega (arith, low Looks) }

-- a count that is no higher
local_rest_less : (measure : Measure) (way : Way) (p v : List ℕ) (xs : List SizedToken) (k rest : ℕ) (l : Option Mark) (less spent limit : ℕ)
    → less ≤ spent → LocalRestIfSet measure way p v xs k rest spent limit l → LocalRestIfSet measure way p v xs k rest less limit l
local_rest_less measure way p v xs k rest None less spent limit low w = tt
local_rest_less measure way p v xs k rest (Some m) less spent limit low w = record {
  tokens = w.tokens;
  read = w.read;
  inside = w.inside;
  later = w.later;
  here = omega (arith, w.here);
  back = omega (arith, w.back);
}

-- a test of the pattern's end, or of one token
module _ {measure : Measure} {way : Way} {p : List ℕ} where
  pub test_of_one : {i before after : ℕ} → after ≤ before + 1 → IsTest measure way p i before after
  test_of_one {i} low = record { high = λ xs read. omega (arith, first_test-some measure way p i xs read) }

  pub test_of_token : {i j : ℕ} {kind : TokenKind} (x : IsToken way p i kind j) → is_star kind ≡ false
      → {before after : ℕ} → after ≤ before + amount measure 1 (8 * (j - i)) → IsTest measure way p i before after
  test_of_token {i} {j} x one low = record {
    high = λ xs read.
        let head = sized-head i x.token j xs read x.here in
        let same : first_test measure xs ≡ test measure (sized i x.token j) = ap (first_test measure) head.1 ∙ first_test-cons measure (sized i x.token j) head.0 in
        omega (arith, test-single measure x one);
  }

module _ {measure : Measure} {way : Way} {p v : List ℕ} where
  pub allows_less : {state : State} {less spent limit : ℕ} → less ≤ spent → AllowsAt measure way p v state spent limit
      → AllowsAt measure way p v state less limit
  allows_less {state} {less} {spent} {limit} low a = record {
    all = λ xs read.
        let o = a.all xs read in
        record {
          tokens = o.tokens;
          read = o.read;
          rest = o.rest;
          crossing = o.crossing;
          later = o.later;
          here = omega (arith, o.here);
          local = local_rest_less measure way p v o.tokens state.at o.rest state.local less spent limit low o.local;
        };
  }

  pub left_less : {c : Crossing} {less spent limit : ℕ} → less ≤ spent → AllowsLeft measure way p v c spent limit
      → AllowsLeft measure way p v c less limit
  left_less low a = record {
    all = λ xs read. let o = a.all xs read in record { rest = o.rest; crossing = o.crossing; enough = omega (arith, o.enough) };
  }

  -- what was counted is within the budget, and so is one test
  pub owes_test : {state : State} {spent limit : ℕ} → state.at ≤ length v → (o : Owes measure way p v state spent limit)
      → spent + first_test measure o.tokens + o.rest ≤ limit
  owes_test {state} inside o = omega (arith, first_test-places_left measure way v o.tokens state.at inside, o.here)

  pub allows_test : {state : State} {spent after limit : ℕ} → state.at ≤ length v → IsTest measure way p state.place spent after
      → AllowsAt measure way p v state spent limit → after ≤ limit
  allows_test {after = after} {limit} inside tested a =
      sized-settle way p after limit (λ xs read. let o = a.all xs read in omega (arith, owes_test inside o, tested.high o.tokens o.read))

  pub allows_one : {state : State} {spent limit : ℕ} → state.at ≤ length v → AllowsAt measure way p v state spent limit → spent + 1 ≤ limit
  allows_one inside a = allows_test inside (test_of_one (omega arith)) a

  pub allows_left : {c : Crossing} {spent limit : ℕ} → AllowsLeft measure way p v c spent limit → spent ≤ limit
  allows_left {spent = spent} {limit} a = sized-settle way p spent limit (λ xs read. let o = a.all xs read in omega (arith, o.enough))

  pub allows_missed : {state : State} {spent limit : ℕ} → AllowsAt measure way p v state spent limit
      → AllowsMiss measure way p v state (spent + 1) limit
  allows_missed {spent = spent} a = record { before = spent; tested = test_of_one (omega arith); allows = a }

  -- the same budget, where parts of the state are known by equations
  pub AllowsLeft-crossing : {c d : Crossing} {spent limit : ℕ} → c ≡ d → AllowsLeft measure way p v c spent limit
      → AllowsLeft measure way p v d spent limit
  AllowsLeft-crossing {spent = spent} {limit} same a = subst (λ (x : Crossing). AllowsLeft measure way p v x spent limit) same a

  pub Allows-places : {state : State} {i k spent limit : ℕ} → AllowsAt measure way p v state spent limit → i ≡ state.place → k ≡ state.at
      → AllowsAt measure way p v (record state { place = i; at = k }) spent limit
  Allows-places {state} {i} {spent = spent} {limit} a same_place same_at =
      subst (λ (k : ℕ). AllowsAt measure way p v (record state { place = i; at = k }) spent limit) (sym same_at)
      (subst (λ (i : ℕ). AllowsAt measure way p v (record state { place = i }) spent limit) (sym same_place) a)
