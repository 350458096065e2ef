-- The engine with two marks: what the tokens of a pattern may take of its steps, or of its looks.
use Rattle.std.proofs.Common.{◌≡◌, ◌⊎◌, inl, inr, ℕ, ◌+◌, ◌-◌, ◌*◌, ◌<◌, ◌≤◌, Bool, true, false, List, [], ◌∷◌, length, get_or, refl, sym, ◌∙◌, ap, subst, arith, if◌then◌else◌}
use Rattle.std.proofs.lemmas.Bool.{cases_Bool}
use Rattle.std.proofs.Math.Nat.{mul-le-mul_left, mul-le-mul}
use Rattle.glob_matcher.specs.declared.wildmatch.way.Way.{Way}
use Rattle.glob_matcher.specs.declared.wildmatch.tokens.TokenKind.{TokenKind}
use Rattle.glob_matcher.specs.Steps.{Counts, NeverFall, step_limit, look_limit}
use Rattle.glob_matcher.specs.Tokens.{Token, TokenAt, From, IsToken, kind_of}
use Rattle.glob_matcher.specs.Private.Takes.{Takes, TakesExactly}
use Rattle.glob_matcher.specs.Private.Reader.{is_star}
use Rattle.glob_matcher.specs.Private.Components.{ends, separates, next_component}
use Rattle.glob_matcher.specs.Private.SizedTokens.{SizedToken, sized, SizedTokensFrom}
use Rattle.glob_matcher.specs.Private.Prices.{Measure, Steps, Looks, amount, amount_of, for_star, move, test, token_cost, first_test, tests_after, places_left, cost, next_tests_at, component_cost}
use Rattle.glob_matcher.proofs.lemmas.reading.TokenLemmas.{TokenAt-unique, TokenAt-inside}
use Rattle.glob_matcher.proofs.lemmas.reading.Existence.{settle, TokenAt-past}
use Rattle.glob_matcher.proofs.lemmas.two_marks.Components.{next-inner, next-above, next-mono}

-- so many steps, or so many looks

pub amount-mono : (measure : Measure) {a b c d : ℕ} → a ≤ c → b ≤ d → amount measure a b ≤ amount measure c d
unfolding amount
amount-mono Steps low high = low
amount-mono Looks low high = high

pub amount-sum : (measure : Measure) (a b c d : ℕ) {e f : ℕ} → e ≤ a + c → f ≤ b + d → amount measure e f ≤ amount measure a b + amount measure c d
unfolding amount
amount-sum Steps a b c d steps looks = steps
amount-sum Looks a b c d steps looks = looks

pub amount-same : (measure : Measure) (n : ℕ) → amount measure n n ≡ n
unfolding amount
amount-same Steps n = refl
amount-same Looks n = refl

-- what is taken exactly is taken at most
pub TakesExactly-at_most : {x y : Counts} {a b : ℕ} → TakesExactly x y a b → Takes x y a b
TakesExactly-at_most t = record { steps = t.steps; looks = omega (arith, t.looks); low = omega (arith, t.looks) }

-- what is taken makes no count fall
pub Takes-grows : {x y : Counts} {a b : ℕ} → Takes x y a b → NeverFall x y
Takes-grows t = record { steps = omega (arith, t.steps); looks = t.low }

pub NeverFall-on : {x y z : Counts} → NeverFall x y → NeverFall y z → NeverFall x z
NeverFall-on l m = record { steps = omega (arith, l.steps, m.steps); looks = omega (arith, l.looks, m.looks) }

pub NeverFall-same : {x : Counts} → NeverFall x x
NeverFall-same = record { steps = omega arith; looks = omega arith }

-- what was taken is within a price
pub Takes-within : (measure : Measure) {x y : Counts} (s a b : ℕ) {c d e f : ℕ} → amount_of measure x ≤ s + amount measure a b → Takes x y c d
    → a + c ≤ e → b + d ≤ f → amount_of measure y ≤ s + amount measure e f
unfolding amount_of amount
Takes-within Steps s a b low t steps looks = omega (arith, t.steps)
Takes-within Looks s a b low t steps looks = omega (arith, t.looks)

-- what was taken, one after the other
pub Takes-both : {x y z : Counts} {a b c d : ℕ} → Takes x y a b → Takes y z c d → Takes x z (a + c) (b + d)
Takes-both t u = record { steps = omega (arith, t.steps, u.steps); looks = omega (arith, t.looks, u.looks); low = omega (arith, t.low, u.low) }

pub Takes-on : {x y z : Counts} {a b c d e f : ℕ} → Takes x y a b → Takes y z c d → a + c ≡ e → b + d ≤ f → Takes x z e f
Takes-on t u steps looks = record { steps = omega (arith, t.steps, u.steps); looks = omega (arith, t.looks, u.looks); low = omega (arith, t.low, u.low) }

pub Takes-none : {x : Counts} → Takes x x 0 0
Takes-none = record { steps = omega arith; looks = omega arith; low = omega arith }

-- the price of a move, and of a scan after it
pub move-some : (measure : Measure) → 1 ≤ move measure
unfolding move amount
move-some Steps = omega arith
move-some Looks = omega arith

pub move-price : (measure : Measure) {x y : Counts} {a b : ℕ} → Takes x y a b → a ≤ 1 → b ≤ 4 → amount_of measure y ≤ amount_of measure x + move measure
unfolding amount_of move amount
move-price Steps t steps looks = omega (arith, t.steps)
move-price Looks t steps looks = omega (arith, t.looks)

pub moves-price : (measure : Measure) {x y : Counts} {n : ℕ} → Takes x y n n → amount_of measure y ≤ amount_of measure x + move measure * n
unfolding amount_of move amount
moves-price Steps t = omega (arith, t.steps)
moves-price Looks t = omega (arith, t.looks)

pub scan-price : (measure : Measure) {x y : Counts} {a b : ℕ} (n c d : ℕ) → Takes x y a b → a ≤ 1 + n + c → b ≤ 4 + n + d
    → amount_of measure y ≤ amount_of measure x + move measure + n + amount measure c d
unfolding amount_of move amount
scan-price Steps n c d t steps looks = omega (arith, t.steps)
scan-price Looks n c d t steps looks = omega (arith, t.looks)

-- a test and a move, where a scan ended in both
pub move-over : (measure : Measure) → amount measure 2 5 ≡ 1 + move measure
unfolding move amount
move-over Steps = refl
move-over Looks = refl

for_star-low : (t : Token) (n : ℕ) → for_star t n ≤ n
unfolding for_star
for_star-low t n = cases (is_star (kind_of t)) where
  cases : (b : Bool) → (if b then n else 0) ≤ n
  cases true = omega arith
  cases false = omega arith

for_star-none : (t : Token) (n : ℕ) → is_star (kind_of t) ≡ false → for_star t n ≡ 0
unfolding for_star
for_star-none t n no_star = ap (λ (b : Bool). if b then n else 0) no_star

for_star-all : (t : Token) (n : ℕ) → is_star (kind_of t) ≡ true → for_star t n ≡ n
unfolding for_star
for_star-all t n star = ap (λ (b : Bool). if b then n else 0) star

pub token_cost-star : (measure : Measure) (x : SizedToken) → is_star (kind_of x.token) ≡ true → token_cost measure x ≡ test measure x + move measure
unfolding token_cost
token_cost-star measure x star = omega (arith, for_star-all x.token (move measure) star)

pub test-token_cost : (measure : Measure) (x : SizedToken) → test measure x ≤ token_cost measure x
unfolding token_cost
test-token_cost measure x = omega arith

test-some : (measure : Measure) (x : SizedToken) → 0 < x.width → 1 ≤ test measure x
unfolding test amount
test-some Steps x some = omega arith
test-some Looks x some = omega (arith, for_star-low x.token 4)

token_cost-high : (measure : Measure) (x : SizedToken) → 0 < x.width → token_cost measure x ≤ amount measure 2 8 * x.width
unfolding token_cost test move amount
token_cost-high Steps x some = omega (arith, for_star-low x.token 1)
token_cost-high Looks x some = omega (arith, for_star-low x.token 4)

pub first_test-cons : (measure : Measure) (x : SizedToken) (xs : List SizedToken) → first_test measure (x ∷ xs) ≡ test measure x
unfolding first_test
first_test-cons measure x xs = refl

-- the test of a token that is no star, and of one that is
pub test-single : (measure : Measure) {way : Way} {p : List ℕ} {i : ℕ} {kind : TokenKind} {j : ℕ} (x : IsToken way p i kind j) → is_star kind ≡ false
    → test measure (sized i x.token j) ≡ amount measure 1 (8 * (j - i))
unfolding test
test-single measure x one = ap (amount measure 1) (omega (arith, for_star-none x.token 4 (ap is_star (sym x.same_kind) ∙ one)))

pub test-star : (measure : Measure) (i : ℕ) (t : Token) (j : ℕ) → is_star (kind_of t) ≡ true
    → test measure (sized i t j) ≡ amount measure 1 (8 * (j - i) - 4)
unfolding test
test-star measure i t j star = ap (amount measure 1) (omega (arith, for_star-all t 4 star))

-- the reading in sized tokens

width-some : (way : Way) (p : List ℕ) (i : ℕ) (x : SizedToken) → TokenAt way p i x.token (i + x.width) → 0 < x.width
width-some way p i x here = omega (arith, TokenAt-past way p i x.token (i + x.width) here)

pub first_test-some : (measure : Measure) (way : Way) (p : List ℕ) (i : ℕ) (xs : List SizedToken) → SizedTokensFrom way p i xs → 1 ≤ first_test measure xs
unfolding first_test
first_test-some measure way p i [] read = omega arith
first_test-some measure way p i (x ∷ xs) read = test-some measure x (width-some way p i x read.0)

-- the tokens after the first
pub sized-head : {way : Way} {p : List ℕ} (i : ℕ) (t : Token) (j : ℕ) (ys : List SizedToken) → SizedTokensFrom way p i ys → TokenAt way p i t j
    → (xs : List SizedToken) × (ys ≡ sized i t j ∷ xs) × SizedTokensFrom way p j xs
sized-head {way} {p} i t j [] read here = let inside : i < length p = TokenAt-inside way p i t j here in absurd (omega (arith, read))
sized-head {way} {p} i t j (y ∷ ys) read here =
    let same = TokenAt-unique way p i y.token t (i + y.width) j read.0 here in
    let width : y.width ≡ j - i = omega (arith, same.1) in (
      ys,
      ap (λ (u : Token). record { token = u; width = y.width } ∷ ys) same.0 ∙ ap (λ (n : ℕ). record { token = t; width = n } ∷ ys) width,
      subst (λ (n : ℕ). SizedTokensFrom way p n ys) same.1 read.1,
    )

sized-of : (way : Way) (p : List ℕ) (i : ℕ) (ts : List Token) → From way p i ts → (xs : List SizedToken) × SizedTokensFrom way p i xs
sized-of way p i [] read = ([], read)
sized-of way p i (t ∷ ts) read =
    let rest = sized-of way p read.0 ts read.2 in
    let past : i < read.0 = TokenAt-past way p i t read.0 read.1 in
    let ends : read.0 ≡ i + (read.0 - i) = omega arith in (
      sized i t read.0 ∷ rest.0,
      (subst (λ (j : ℕ). TokenAt way p i t j) ends read.1, subst (λ (j : ℕ). SizedTokensFrom way p j rest.0) ends rest.1),
    )

-- An order of numbers that follows from each reading in sized tokens holds.
pub sized-settle : (way : Way) (p : List ℕ) (a b : ℕ) → ((xs : List SizedToken) → SizedTokensFrom way p 0 xs → a ≤ b) → a ≤ b
sized-settle way p a b follows =
    settle way p a b (λ ts read. let xs = sized-of way p 0 ts read in follows xs.0 xs.1)

-- what the tokens may take, by the place of the value

pub places_left-is : (v : List ℕ) (k : ℕ) → places_left v k ≡ length v + 1 - k
unfolding places_left
places_left-is v k = refl

-- so much for each place that is left
places_left-times_next : (m : ℕ) (v : List ℕ) (k : ℕ) → k ≤ length v → m * places_left v k ≡ m * places_left v (k + 1) + m
places_left-times_next m v k inside =
    let one : places_left v k ≡ places_left v (k + 1) + 1 = omega (arith, places_left-is v k, places_left-is v (k + 1)) in
    ap (λ (n : ℕ). m * n) one ∙ omega arith

pub places_left-times_mono : (m : ℕ) (v : List ℕ) (k e : ℕ) → k ≤ e → m * places_left v e ≤ m * places_left v k
places_left-times_mono m v k e low = mul-le-mul_left m (omega (arith, places_left-is v k, places_left-is v e))

-- a later place leaves one less at least
pub places_left-times_less : (m : ℕ) (v : List ℕ) (k e : ℕ) → k ≤ length v → k < e → m * places_left v e + m ≤ m * places_left v k
places_left-times_less m v k e inside past = omega (arith, places_left-times_next m v k inside, places_left-times_mono m v (k + 1) e (omega arith))

-- the moves over the places from one to another
pub moves_between : (measure : Measure) (v : List ℕ) (k e : ℕ) → k ≤ length v + 1 → e ≤ length v + 1
    → move measure * places_left v k + move measure * k ≡ move measure * places_left v e + move measure * e
moves_between measure v k e low high =
    let sum : places_left v k + k ≡ places_left v e + e = omega (arith, places_left-is v k, places_left-is v e) in
    let times : move measure * (places_left v k + k) ≡ move measure * (places_left v e + e) = ap (λ (y : ℕ). move measure * y) sum in
    omega arith

tests_after-mono : (way : Way) (v : List ℕ) (apart : Bool) (k e : ℕ) → k ≤ e → tests_after way v apart k ≤ tests_after way v apart e
unfolding tests_after
tests_after-mono way v true k e low = next-mono way v k e low
tests_after-mono way v false k e low = low

pub separates-or_not : (way : Way) (t : Token) → (separates way t ≡ true) ⊎ (separates way t ≡ false)
separates-or_not way t = cases_Bool (separates way t)

limit-high : (measure : Measure) (p v n : ℕ) → n ≤ (amount measure 2 8 * p + 1) * (v + 1) → n + amount measure v 2 + amount measure 1 2 ≤ amount measure (step_limit p v) (look_limit p v)
unfolding amount
limit-high Steps p v n all = omega arith
limit-high Looks p v n all = omega arith

module _ (measure : Measure) (way : Way) (v : List ℕ) where
  cost-cons : (x : SizedToken) (xs : List SizedToken) (k : ℕ)
      → cost measure way v (x ∷ xs) k ≡ token_cost measure x * places_left v k + cost measure way v xs (tests_after way v (separates way x.token) k)
  unfolding cost
  cost-cons x xs k = refl

  cost-nil : (k : ℕ) → cost measure way v [] k ≡ places_left v k
  unfolding cost
  cost-nil k = refl

  -- a token of either kind
  pub cost-apart : (x : SizedToken) (xs : List SizedToken) (k : ℕ) → separates way x.token ≡ true
      → cost measure way v (x ∷ xs) k ≡ token_cost measure x * places_left v k + cost measure way v xs (next_component way v k)
  unfolding tests_after
  cost-apart x xs k apart =
      cost-cons x xs k ∙ ap (λ (b : Bool). token_cost measure x * places_left v k + cost measure way v xs (tests_after way v b k)) apart

  pub cost-joined : (x : SizedToken) (xs : List SizedToken) (k : ℕ) → separates way x.token ≡ false
      → cost measure way v (x ∷ xs) k ≡ token_cost measure x * places_left v k + cost measure way v xs k
  unfolding tests_after
  cost-joined x xs k joined =
      cost-cons x xs k ∙ ap (λ (b : Bool). token_cost measure x * places_left v k + cost measure way v xs (tests_after way v b k)) joined

  -- from a later place the tokens cost no more
  pub cost-mono : (xs : List SizedToken) (k e : ℕ) → k ≤ e → cost measure way v xs e ≤ cost measure way v xs k
  cost-mono [] k e low = omega (arith, cost-nil k, cost-nil e, places_left-is v k, places_left-is v e)
  cost-mono (x ∷ xs) k e low =
      let here : token_cost measure x * places_left v e ≤ token_cost measure x * places_left v k = places_left-times_mono (token_cost measure x) v k e low in
      let rest : cost measure way v xs (tests_after way v (separates way x.token) e) ≤ cost measure way v xs (tests_after way v (separates way x.token) k) =
      cost-mono xs (tests_after way v (separates way x.token) k) (tests_after way v (separates way x.token) e)
      (tests_after-mono way v (separates way x.token) k e low) in
      omega (arith, cost-cons x xs k, cost-cons x xs e)

  pub next_tests_at-apart : (x : SizedToken) (xs : List SizedToken) (k : ℕ) → separates way x.token ≡ true → next_tests_at way v (x ∷ xs) k ≡ k + 1
  unfolding next_tests_at
  next_tests_at-apart x xs k apart = ap (λ (b : Bool). if b then k + 1 else next_component way v k) apart

  pub next_tests_at-joined : (x : SizedToken) (xs : List SizedToken) (k : ℕ) → separates way x.token ≡ false
      → next_tests_at way v (x ∷ xs) k ≡ next_component way v k
  unfolding next_tests_at
  next_tests_at-joined x xs k joined = ap (λ (b : Bool). if b then k + 1 else next_component way v k) joined

  next_tests_at-nil : (k : ℕ) → next_tests_at way v [] k ≡ next_component way v k
  unfolding next_tests_at
  next_tests_at-nil k = refl

  next_tests_at-low : (xs : List SizedToken) (k : ℕ) → next_tests_at way v xs k ≤ next_component way v k
  next_tests_at-low [] k = omega (arith, next_tests_at-nil k)
  next_tests_at-low (x ∷ xs) k = elim (separates-or_not way x.token) [
    | inl apart ↦ omega (arith, next_tests_at-apart x xs k apart, next-above way v k)
    | inr joined ↦ omega (arith, next_tests_at-joined x xs k joined)
  ]

  -- what is left past the hop is no more than what is left in the next component
  pub cost-next_tests_at : (xs : List SizedToken) (k : ℕ) → cost measure way v xs (next_component way v k) ≤ cost measure way v xs (next_tests_at way v xs k)
  cost-next_tests_at xs k = cost-mono xs (next_tests_at way v xs k) (next_component way v k) (next_tests_at-low xs k)

  component_cost-nil : component_cost measure way [] ≡ 1
  unfolding component_cost
  component_cost-nil = refl

  component_cost-apart : (x : SizedToken) (xs : List SizedToken) → separates way x.token ≡ true → component_cost measure way (x ∷ xs) ≡ token_cost measure x
  unfolding component_cost
  component_cost-apart x xs apart = ap (λ (b : Bool). token_cost measure x + (if b then 0 else component_cost measure way xs)) apart ∙ omega arith

  pub component_cost-joined : (x : SizedToken) (xs : List SizedToken) → separates way x.token ≡ false
      → component_cost measure way (x ∷ xs) ≡ token_cost measure x + component_cost measure way xs
  unfolding component_cost
  component_cost-joined x xs joined = ap (λ (b : Bool). token_cost measure x + (if b then 0 else component_cost measure way xs)) joined

  -- the test of the first token is within the cost of its component
  pub first_test-component_cost : (xs : List SizedToken) → first_test measure xs ≤ component_cost measure way xs
  unfolding first_test
  first_test-component_cost [] = omega (arith, component_cost-nil)
  first_test-component_cost (x ∷ xs) = elim (separates-or_not way x.token) [
    | inl apart ↦ omega (arith, component_cost-apart x xs apart, test-token_cost measure x)
    | inr joined ↦ omega (arith, component_cost-joined x xs joined, test-token_cost measure x)
  ]

  -- a test at a place inside is paid there
  pub first_test-places_left : (xs : List SizedToken) (k : ℕ) → k ≤ length v → cost measure way v xs (next_tests_at way v xs k) + first_test measure xs ≤ cost measure way v xs k
  unfolding first_test
  first_test-places_left [] k inside =
      let past : k < next_component way v k = next-above way v k in
      let at : cost measure way v [] (next_tests_at way v [] k) ≡ cost measure way v [] (next_component way v k) = ap (cost measure way v []) (next_tests_at-nil k) in
      omega (arith, cost-nil k, cost-nil (next_component way v k), places_left-is v k, places_left-is v (next_component way v k))
  first_test-places_left (x ∷ xs) k inside = elim (separates-or_not way x.token) [
    | inl apart ↦
        let at : cost measure way v (x ∷ xs) (next_tests_at way v (x ∷ xs) k) ≡ cost measure way v (x ∷ xs) (k + 1) =
        ap (cost measure way v (x ∷ xs)) (next_tests_at-apart x xs k apart) in
        let rest : cost measure way v xs (next_component way v (k + 1)) ≤ cost measure way v xs (next_component way v k) =
        cost-mono xs (next_component way v k) (next_component way v (k + 1)) (next-mono way v k (k + 1) (omega arith)) in
        omega (arith, places_left-times_next (token_cost measure x) v k inside, test-token_cost measure x, cost-apart x xs k apart, cost-apart x xs (k + 1) apart)
    | inr joined ↦
        let at : cost measure way v (x ∷ xs) (next_tests_at way v (x ∷ xs) k) ≡ cost measure way v (x ∷ xs) (next_component way v k) =
        ap (cost measure way v (x ∷ xs)) (next_tests_at-joined x xs k joined) in
        let past : k < next_component way v k = next-above way v k in
        let rest : cost measure way v xs (next_component way v k) ≤ cost measure way v xs k =
        cost-mono xs k (next_component way v k) (omega arith) in
        omega (arith, places_left-times_less (token_cost measure x) v k (next_component way v k) inside past, test-token_cost measure x, cost-joined x xs k joined, cost-joined x xs (next_component way v k) joined)
  ]

  -- one place on within a component of the value, the tokens cost one look at their first component less
  pub component_cost-step : (xs : List SizedToken) (k : ℕ) → k < length v → ends way (get_or v k 0) ≡ false
      → cost measure way v xs k ≡ cost measure way v xs (k + 1) + component_cost measure way xs
  component_cost-step [] k inside within =
      omega (arith, cost-nil k, cost-nil (k + 1), places_left-is v k, places_left-is v (k + 1), component_cost-nil)
  component_cost-step (x ∷ xs) k inside within =
      let here : token_cost measure x * places_left v k ≡ token_cost measure x * places_left v (k + 1) + token_cost measure x = places_left-times_next (token_cost measure x) v k (omega arith) in
      elim (separates-or_not way x.token) [
        | inl apart ↦
            let same : cost measure way v xs (next_component way v (k + 1)) ≡ cost measure way v xs (next_component way v k) =
            ap (cost measure way v xs) (next-inner way v k inside within) in
            omega (arith, cost-apart x xs k apart, cost-apart x xs (k + 1) apart, component_cost-apart x xs apart)
        | inr joined ↦
            let rest : cost measure way v xs k ≡ cost measure way v xs (k + 1) + component_cost measure way xs = component_cost-step xs k inside within in
            omega (arith, cost-joined x xs k joined, cost-joined x xs (k + 1) joined, component_cost-joined x xs joined)
      ]

  -- from the next component of the value on, they cost that much less at least
  pub component_cost-places_left : (xs : List SizedToken) (k : ℕ) → k ≤ length v
      → cost measure way v xs (next_component way v k) + component_cost measure way xs ≤ cost measure way v xs k
  component_cost-places_left [] k inside =
      let past : k < next_component way v k = next-above way v k in
      omega (arith, cost-nil k, cost-nil (next_component way v k), places_left-is v k, places_left-is v (next_component way v k), component_cost-nil)
  component_cost-places_left (x ∷ xs) k inside =
      let past : k < next_component way v k = next-above way v k in
      let here : token_cost measure x * places_left v (next_component way v k) + token_cost measure x ≤ token_cost measure x * places_left v k =
      places_left-times_less (token_cost measure x) v k (next_component way v k) inside past in
      elim (separates-or_not way x.token) [
        | inl apart ↦
            let later : next_component way v k ≤ next_component way v (next_component way v k) =
            omega (arith, next-above way v (next_component way v k)) in
            let rest : cost measure way v xs (next_component way v (next_component way v k)) ≤ cost measure way v xs (next_component way v k) =
            cost-mono xs (next_component way v k) (next_component way v (next_component way v k)) later in
            omega (arith, cost-apart x xs k apart, cost-apart x xs (next_component way v k) apart, component_cost-apart x xs apart)
        | inr joined ↦
            let rest : cost measure way v xs (next_component way v k) + component_cost measure way xs ≤ cost measure way v xs k = component_cost-places_left xs k inside in
            omega (arith, cost-joined x xs k joined, cost-joined x xs (next_component way v k) joined, component_cost-joined x xs joined)
      ]

  -- all the tokens from place i on: so much for each byte that spells them, at each place of the value
  cost-all : (p : List ℕ) (i : ℕ) (xs : List SizedToken) (k : ℕ) → SizedTokensFrom way p i xs
      → cost measure way v xs k + amount measure 2 8 * i * (length v + 1) ≤ (amount measure 2 8 * length p + 1) * (length v + 1)
  cost-all p i [] k read =
      let same : amount measure 2 8 * i * (length v + 1) ≡ amount measure 2 8 * length p * (length v + 1) =
      ap (λ (n : ℕ). amount measure 2 8 * n * (length v + 1)) read in
      omega (arith, cost-nil k, places_left-is v k)
  cost-all p i (x ∷ xs) k read =
      let high : token_cost measure x ≤ amount measure 2 8 * x.width = token_cost-high measure x (width-some way p i x read.0) in
      let here : token_cost measure x * places_left v k ≤ amount measure 2 8 * x.width * (length v + 1) = mul-le-mul high (omega (arith, places_left-is v k)) in
      let rest : cost measure way v xs (tests_after way v (separates way x.token) k) + amount measure 2 8 * (i + x.width) * (length v + 1)
      ≤ (amount measure 2 8 * length p + 1) * (length v + 1) =
      cost-all p (i + x.width) xs (tests_after way v (separates way x.token) k) read.1 in
      omega (arith, cost-cons x xs k)

  -- how much a match may take in all
  pub cost-limit : (p : List ℕ) (xs : List SizedToken) → SizedTokensFrom way p 0 xs
      → cost measure way v xs 0 + amount measure (length v) 2 + amount measure 1 2 ≤ amount measure (step_limit (length p) (length v)) (look_limit (length p) (length v))
  cost-limit p xs read =
      limit-high measure (length p) (length v) (cost measure way v xs 0) (omega (arith, cost-all p 0 xs 0 read))
