-- The budget of the engine with two marks at a token of one byte that takes the byte.
use Rattle.std.proofs.Common.{◌≡◌, inl, inr, ℕ, ◌+◌, ◌-◌, ◌*◌, ◌<◌, ◌≤◌, true, false, List, ◌∷◌, length, get_or, Option, Some, None, ◌∙◌, ap, subst, arith}
use Rattle.glob_matcher.specs.declared.wildmatch.way.Way.{Way}
use Rattle.glob_matcher.specs.declared.wildmatch.marks.Mark.{Mark}
use Rattle.glob_matcher.specs.declared.wildmatch.state.State.{State}
use Rattle.glob_matcher.specs.declared.wildmatch.tokens.TokenKind.{TokenKind}
use Rattle.glob_matcher.specs.Tokens.{Token, TokenAt, IsToken}
use Rattle.glob_matcher.specs.Private.Reader.{is_star}
use Rattle.glob_matcher.specs.Matching.{Fits}
use Rattle.glob_matcher.specs.Private.Components.{ends, separates, next_component}
use Rattle.glob_matcher.specs.Private.SizedTokens.{SizedToken, sized}
use Rattle.glob_matcher.specs.Private.Prices.{Measure, amount, test, token_cost, cost, next_tests_at}
use Rattle.glob_matcher.specs.Private.Budget.{LocalRestIfSet, Owes, AllowsAt}
use Rattle.glob_matcher.proofs.lemmas.two_marks.Components.{IsInner, separates-fits, ends-or_not, next-end, next-inner, next-above}
use Rattle.glob_matcher.proofs.lemmas.two_marks.Prices.{cost-apart, cost-joined, cost-next_tests_at, cost-mono, next_tests_at-apart, next_tests_at-joined, sized-head, component_cost-joined, test-token_cost, test-single, places_left-times_less}
use Rattle.glob_matcher.proofs.lemmas.two_marks.Budget.{allows_less}

module _ (measure : Measure) (way : Way) (v : List ℕ) where
  -- a token takes a byte: what is left of the budget
  cost_on_inner : (x : SizedToken) (xs : List SizedToken) (k spent limit rest : ℕ) → k < length v
      → separates way x.token ≡ false → ends way (get_or v k 0) ≡ false
      → spent + cost measure way v (x ∷ xs) k + rest ≤ limit + cost measure way v (x ∷ xs) (next_component way v k)
      → spent + test measure x + cost measure way v xs (k + 1) + rest ≤ limit + cost measure way v xs (next_component way v (k + 1))
  cost_on_inner x xs k spent limit rest inside joined within here =
      let past : k < next_component way v k = next-above way v k in
      let same : cost measure way v xs (next_component way v (k + 1)) ≡ cost measure way v xs (next_component way v k) =
      ap (cost measure way v xs) (next-inner way v k inside within) in
      let rest : cost measure way v xs (k + 1) ≤ cost measure way v xs k = cost-mono measure way v xs k (k + 1) (omega arith) in
      omega (arith, places_left-times_less (token_cost measure x) v k (next_component way v k) (omega arith) past, test-token_cost measure x, cost-joined measure way v x xs k joined, cost-joined measure way v x xs (next_component way v k) joined)

  cost_on : (x : SizedToken) (xs : List SizedToken) (k spent limit rest : ℕ) → k < length v
      → separates way x.token ≡ ends way (get_or v k 0)
      → spent + cost measure way v (x ∷ xs) k + rest ≤ limit + cost measure way v (x ∷ xs) (next_tests_at way v (x ∷ xs) k)
      → spent + test measure x + cost measure way v xs (k + 1) + rest ≤ limit + cost measure way v xs (next_tests_at way v xs (k + 1))
  cost_on x xs k spent limit rest inside alike here =
      let skipped : cost measure way v xs (next_component way v (k + 1)) ≤ cost measure way v xs (next_tests_at way v xs (k + 1)) =
      cost-next_tests_at measure way v xs (k + 1) in
      elim (ends-or_not way (get_or v k 0)) [
        | inl end ↦
            let apart : separates way x.token ≡ true = alike ∙ end in
            let same : cost measure way v xs (next_component way v k) ≡ cost measure way v xs (k + 1) =
            ap (cost measure way v xs) (next-end way v k inside end) in
            let at : cost measure way v (x ∷ xs) (next_tests_at way v (x ∷ xs) k) ≡ cost measure way v (x ∷ xs) (k + 1) =
            ap (cost measure way v (x ∷ xs)) (next_tests_at-apart measure way v x xs k apart) in
            omega (arith, places_left-times_less (token_cost measure x) v k (k + 1) (omega arith) (omega arith), test-token_cost measure x, cost-apart measure way v x xs k apart, cost-apart measure way v x xs (k + 1) apart)
        | inr within ↦
            let joined : separates way x.token ≡ false = alike ∙ within in
            let at : cost measure way v (x ∷ xs) (next_tests_at way v (x ∷ xs) k) ≡ cost measure way v (x ∷ xs) (next_component way v k) =
            ap (cost measure way v (x ∷ xs)) (next_tests_at-joined measure way v x xs k joined) in
            omega (arith, cost_on_inner x xs k spent limit rest inside joined within (omega arith))
      ]

  later_cost_on : (x : SizedToken) (xs : List SizedToken) (k rest : ℕ) → k < length v
      → separates way x.token ≡ ends way (get_or v k 0) → cost measure way v (x ∷ xs) (next_component way v k) ≤ rest
      → cost measure way v xs (next_component way v (k + 1)) ≤ rest
  later_cost_on x xs k rest inside alike later = elim (ends-or_not way (get_or v k 0)) [
    | inl end ↦
        let next : next_component way v k ≡ k + 1 = next-end way v k inside end in
        let same : cost measure way v xs (next_component way v (next_component way v k)) ≡ cost measure way v xs (next_component way v (k + 1)) =
        ap (λ (y : ℕ). cost measure way v xs (next_component way v y)) next in
        omega (arith, cost-apart measure way v x xs (next_component way v k) (alike ∙ end))
    | inr within ↦
        let same : cost measure way v xs (next_component way v (k + 1)) ≡ cost measure way v xs (next_component way v k) =
        ap (cost measure way v xs) (next-inner way v k inside within) in
        omega (arith, cost-joined measure way v x xs (next_component way v k) (alike ∙ within))
  ]

local_rest_on : (measure : Measure) (way : Way) (p v : List ℕ) (x : SizedToken) (xs : List SizedToken) (k rest spent limit : ℕ) (l : Option Mark)
    → k < length v → separates way x.token ≡ ends way (get_or v k 0) → IsInner way v k l
    → LocalRestIfSet measure way p v (x ∷ xs) k rest spent limit l → LocalRestIfSet measure way p v xs (k + 1) rest (spent + test measure x) limit l
local_rest_on measure way p v x xs k rest spent limit None inside alike inner w = tt
local_rest_on measure way p v x xs k rest spent limit (Some m) inside alike inner w =
    let joined : separates way x.token ≡ false = alike ∙ inner in
    record {
      tokens = w.tokens;
      read = w.read;
      inside = w.inside;
      later = w.later;
      here = cost_on_inner measure way v x xs k spent limit rest inside joined inner w.here;
      back = omega (arith, w.back, component_cost-joined measure way v x xs joined, test-token_cost measure x);
    }

module _ {measure : Measure} {way : Way} {p v : List ℕ} where
  owes_on : {state : State} (t : Token) (j : ℕ) {spent limit : ℕ} → TokenAt way p state.place t j → state.at < length v
      → Fits way t (get_or v state.at 0) → IsInner way v state.at state.local → Owes measure way p v state spent limit
      → Owes measure way p v (record state { place = j; at = state.at + 1 }) (spent + test measure (sized state.place t j)) limit
  owes_on {state} t j {spent} {limit} here inside fits inner o =
      let k = state.at in
      let x = sized state.place t j in
      let head = sized-head state.place t j o.tokens o.read here in
      let alike : separates way t ≡ ends way (get_or v k 0) = separates-fits way t (get_or v k 0) fits in
      record {
        tokens = head.0;
        read = head.2;
        rest = o.rest;
        crossing = o.crossing;
        later =
            later_cost_on measure way v x head.0 k o.rest inside alike
            (subst (λ (ys : List SizedToken). cost measure way v ys (next_component way v k) ≤ o.rest) head.1 o.later);
        here =
            cost_on measure way v x head.0 k spent limit o.rest inside alike
            (subst (λ (ys : List SizedToken). spent + cost measure way v ys k + o.rest ≤ limit + cost measure way v ys (next_tests_at way v ys k)) head.1 o.here);
        local =
            local_rest_on measure way p v x head.0 k o.rest spent limit state.local inside alike inner
            (subst (λ (ys : List SizedToken). LocalRestIfSet measure way p v ys k o.rest spent limit state.local) head.1 o.local);
      }

  owes_without : {state : State} {spent limit : ℕ} → Owes measure way p v state spent limit
      → Owes measure way p v (record state { local = None }) spent limit
  owes_without o = record {
    tokens = o.tokens;
    read = o.read;
    rest = o.rest;
    crossing = o.crossing;
    later = o.later;
    here = o.here;
    local = tt;
  }

  -- The token takes the byte here, and is no slash.
  pub allows_on : {state : State} {j : ℕ} {kind : TokenKind} {after spent limit : ℕ} (x : IsToken way p state.place kind j)
      → is_star kind ≡ false → after ≤ spent + amount measure 1 (8 * (j - state.place)) → state.at < length v
      → Fits way x.token (get_or v state.at 0) → IsInner way v state.at state.local → AllowsAt measure way p v state spent limit
      → AllowsAt measure way p v (record state { place = j; at = state.at + 1 }) after limit
  allows_on {state} {j} x one low inside fits inner a =
      allows_less (omega (arith, test-single measure x one))
      (record { all = λ xs read. owes_on x.token j x.here inside fits inner (a.all xs read) })

  -- The token takes the byte here, and the local mark is forgotten.
  pub allows_past_slash : {state : State} {j : ℕ} {kind : TokenKind} {after spent limit : ℕ} (x : IsToken way p state.place kind j)
      → is_star kind ≡ false → after ≤ spent + amount measure 1 (8 * (j - state.place)) → state.at < length v
      → Fits way x.token (get_or v state.at 0) → AllowsAt measure way p v state spent limit
      → AllowsAt measure way p v (record state { place = j; at = state.at + 1; local = None }) after limit
  allows_past_slash {state} x one low inside fits a =
      allows_on {state = record state { local = None }} x one low inside fits tt (record { all = λ xs read. owes_without (a.all xs read) })
