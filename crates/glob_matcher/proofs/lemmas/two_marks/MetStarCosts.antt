-- The budget of the engine with two marks at a star token that is newly met: its mark is set, and its moves are paid later.
use Rattle.std.proofs.Common.{◌≡◌, ◌≢◌, inl, inr, ℕ, ◌+◌, ◌-◌, ◌*◌, ◌<◌, ◌≤◌, true, false, List, [], ◌∷◌, length, Some, None, refl, sym, ◌∙◌, ap, subst, arith}
use Rattle.glob_matcher.specs.declared.wildmatch.way.Way.{Way}
use Rattle.glob_matcher.specs.declared.wildmatch.marks.Mark.{Mark}
use Rattle.glob_matcher.specs.declared.wildmatch.state.Crossing.TheVariants as crossing
use Rattle.glob_matcher.specs.declared.wildmatch.state.State.{State}
use Rattle.glob_matcher.specs.Tokens.{Token, Free, Local, Dirs, TokenAt, kind_of}
use Rattle.glob_matcher.specs.Private.Reader.{is_star}
use Rattle.glob_matcher.specs.Private.Components.{separates, next_component}
use Rattle.glob_matcher.specs.Private.States.{FreeKnown}
use Rattle.glob_matcher.specs.Private.SizedTokens.{SizedToken, sized, SizedTokensFrom}
use Rattle.glob_matcher.specs.Private.Prices.{Measure, amount, move, test, token_cost, places_left, cost, next_tests_at}
use Rattle.glob_matcher.specs.Private.Budget.{Owes, AllowsAt}
use Rattle.glob_matcher.proofs.lemmas.two_marks.Components.{next-above, next-high}
use Rattle.glob_matcher.proofs.lemmas.two_marks.Prices.{moves_between, separates-or_not, cost-joined, cost-next_tests_at, cost-mono, token_cost-star, next_tests_at-apart, next_tests_at-joined, sized-head, sized-settle, test-star, places_left-times_less, places_left-times_mono}
use Rattle.glob_matcher.proofs.lemmas.two_marks.States.{state_of}
use Rattle.glob_matcher.proofs.lemmas.two_marks.Budget.{allows_less}

-- A star token is met: what is left for the tokens after it, and for the moves of its mark.
record OwesAfterStar (measure : Measure) (way : Way) (p v : List ℕ) (j k spent limit rest : ℕ) : Type 0 where
  tokens : List SizedToken
  read : SizedTokensFrom way p j tokens
  here : spent + move measure * places_left v k + cost measure way v tokens k + rest
      ≤ limit + move measure * places_left v (next_component way v k) + cost measure way v tokens (next_component way v k)
  later : move measure * places_left v (next_component way v k) + cost measure way v tokens (next_component way v k) ≤ rest

-- where a run of stars crosses slashes, each look at what follows begins one place on
next_tests_at-after_free : {way : Way} {p v : List ℕ} {i : ℕ} (measure : Measure) (xs : List SizedToken) → SizedTokensFrom way p i xs → i ≢ length p
    → FreeKnown way p v i → (k : ℕ) → next_tests_at way v xs k ≡ k + 1
next_tests_at-after_free measure [] read more known k = absurd (more read)
next_tests_at-after_free {way} {v = v} {i} measure (x ∷ xs) read more known k = elim (separates-or_not way x.token) [
  | inl apart ↦ next_tests_at-apart measure way v x xs k apart
  | inr joined ↦
      let low : next_component way v k ≤ k + 1 = known.far k (k + 1) (omega arith) x.token (i + x.width) read.0 joined in
      omega (arith, next_tests_at-joined measure way v x xs k joined, next-above way v k)
]

module _ {measure : Measure} {way : Way} {p v : List ℕ} where
  star_met : {state : State} (t : Token) (j : ℕ) {spent limit : ℕ} → TokenAt way p state.place t j → is_star (kind_of t) ≡ true
      → separates way t ≡ false → state.at ≤ length v → (o : Owes measure way p v state spent limit)
      → OwesAfterStar measure way p v j state.at (spent + test measure (sized state.place t j)) limit o.rest
  star_met {state} t j {spent} {limit} here star joined inside o =
      let head = sized-head state.place t j o.tokens o.read here in
      let k = state.at in
      let xs = head.0 in
      let x = sized state.place t j in
      let next = next_component way v k in
      let first : spent + cost measure way v (x ∷ xs) k + o.rest ≤ limit + cost measure way v (x ∷ xs) (next_tests_at way v (x ∷ xs) k) =
      subst (λ (ys : List SizedToken). spent + cost measure way v ys k + o.rest ≤ limit + cost measure way v ys (next_tests_at way v ys k)) head.1 o.here in
      let later : cost measure way v (x ∷ xs) next ≤ o.rest =
      subst (λ (ys : List SizedToken). cost measure way v ys next ≤ o.rest) head.1 o.later in
      let at : cost measure way v (x ∷ xs) (next_tests_at way v (x ∷ xs) k) ≡ cost measure way v (x ∷ xs) next =
      ap (cost measure way v (x ∷ xs)) (next_tests_at-joined measure way v x xs k joined) in
      let both : (e : ℕ) → token_cost measure x * places_left v e ≡ test measure x * places_left v e + move measure * places_left v e =
      λ e. ap (λ (m : ℕ). m * places_left v e) (token_cost-star measure x star) ∙ omega arith in
      record {
        tokens = xs;
        read = head.2;
        here =
            omega (arith, both k, both next, places_left-times_less (test measure x) v k next inside (next-above way v k), cost-joined measure way v x xs k joined, cost-joined measure way v x xs next joined);
        later = omega (arith, both next, cost-joined measure way v x xs next joined);
      }

  -- A star token is met, and its mark set: the looks that read it are paid by its test.
  allows_met : {state next : State} (t : Token) (j : ℕ) {after spent limit : ℕ} → is_star (kind_of t) ≡ true
      → after ≤ spent + amount measure 1 (8 * (j - state.place) - 4)
      → (Owes measure way p v state spent limit → Owes measure way p v next (spent + test measure (sized state.place t j)) limit)
      → AllowsAt measure way p v state spent limit → AllowsAt measure way p v next after limit
  allows_met {state} t j star low owes a =
      allows_less (omega (arith, test-star measure state.place t j star)) (record { all = λ xs read. owes (a.all xs read) })

  -- A run of stars that crosses slashes ends the pattern.
  pub free_last_counts : {state : State} {j after spent limit : ℕ} → TokenAt way p state.place Free j → state.at ≤ length v
      → after ≤ spent + amount measure 1 (8 * (j - state.place) - 4) → AllowsAt measure way p v state spent limit → after ≤ limit
  free_last_counts {state} {j} {after} {spent} {limit} here inside low a =
      sized-settle way p after limit (λ xs read.
      let o = a.all xs read in
      let star = star_met Free j here refl refl inside o in
      let past = next-above way v state.at in
      omega (arith, star.here, star.later, test-star measure state.place Free j refl))

  -- A run of stars that crosses slashes is met.
  pub allows_free_met : {state : State} {j : ℕ} (m : Mark) {after spent limit : ℕ} → TokenAt way p state.place Free j → j ≢ length p
      → FreeKnown way p v j → state.at ≤ length v → m.place ≡ j → m.at ≡ state.at
      → after ≤ spent + amount measure 1 (8 * (j - state.place) - 4) → AllowsAt measure way p v state spent limit
      → AllowsAt measure way p v (state_of j state.at (crossing.Free m) None) after limit
  allows_free_met {state} {j} m {spent = spent} {limit} here more known inside same_place same_at low a = allows_met Free j refl low owes a where
    owes : Owes measure way p v state spent limit
        → Owes measure way p v (state_of j state.at (crossing.Free m) None) (spent + test measure (sized state.place Free j)) limit
    owes o =
        let star = star_met Free j here refl refl inside o in
        let skips = next_tests_at-after_free measure star.tokens star.read more known in
        let skipped : cost measure way v star.tokens (next_tests_at way v star.tokens state.at) ≡ cost measure way v star.tokens (state.at + 1) =
        ap (cost measure way v star.tokens) (skips state.at) in
        let past : state.at < next_component way v state.at = next-above way v state.at in
        let next : cost measure way v star.tokens (next_component way v state.at) ≤ cost measure way v star.tokens (state.at + 1) =
        cost-mono measure way v star.tokens (state.at + 1) (next_component way v state.at) (omega arith) in
        let costs : cost measure way v star.tokens (m.at + 1) ≡ cost measure way v star.tokens (state.at + 1) =
        ap (λ (y : ℕ). cost measure way v star.tokens (y + 1)) same_at in
        let lefts : move measure * places_left v m.at ≡ move measure * places_left v state.at = ap (λ (y : ℕ). move measure * places_left v y) same_at in
        record {
          tokens = star.tokens;
          read = star.read;
          rest = cost measure way v star.tokens (state.at + 1) + move measure * places_left v state.at;
          crossing = record {
            tokens = star.tokens;
            read = subst (λ (y : ℕ). SizedTokensFrom way p y star.tokens) (sym same_place) star.read;
            inside = omega arith;
            skips = skips;
            enough = omega arith;
          };
          later = omega arith;
          here = omega (arith, star.here, star.later);
          local = tt;
        }

  -- A double star with its slash is met.
  pub allows_dirs_met : {state : State} {j : ℕ} (m : Mark) {after spent limit : ℕ} → TokenAt way p state.place Dirs j
      → state.at ≤ length v → m.place ≡ j → m.at ≡ state.at
      → after ≤ spent + amount measure 1 (8 * (j - state.place) - 4) → AllowsAt measure way p v state spent limit
      → AllowsAt measure way p v (state_of j state.at (crossing.Dirs m) None) after limit
  allows_dirs_met {state} {j} m {spent = spent} {limit} here inside same_place same_at low a = allows_met Dirs j refl low owes a where
    owes : Owes measure way p v state spent limit
        → Owes measure way p v (state_of j state.at (crossing.Dirs m) None) (spent + test measure (sized state.place Dirs j)) limit
    owes o =
        let star = star_met Dirs j here refl refl inside o in
        let next = next_component way v state.at in
        let skipped : cost measure way v star.tokens next ≤ cost measure way v star.tokens (next_tests_at way v star.tokens state.at) =
        cost-next_tests_at measure way v star.tokens state.at in
        let costs : cost measure way v star.tokens (next_component way v m.at) ≡ cost measure way v star.tokens next =
        ap (λ (y : ℕ). cost measure way v star.tokens (next_component way v y)) same_at in
        let lefts : move measure * places_left v m.at ≡ move measure * places_left v state.at = ap (λ (y : ℕ). move measure * places_left v y) same_at in
        record {
          tokens = star.tokens;
          read = star.read;
          rest = cost measure way v star.tokens next + move measure * places_left v state.at;
          crossing = record {
            tokens = star.tokens;
            read = subst (λ (y : ℕ). SizedTokensFrom way p y star.tokens) (sym same_place) star.read;
            inside = omega arith;
            enough = omega arith;
          };
          later = omega arith;
          here = omega (arith, star.here, star.later);
          local = tt;
        }

  -- A run of stars within a component is met.
  pub allows_local_met : {state : State} {j : ℕ} (m : Mark) {after spent limit : ℕ} → TokenAt way p state.place Local j
      → state.at ≤ length v → m.place ≡ j → m.at ≡ state.at
      → after ≤ spent + amount measure 1 (8 * (j - state.place) - 4) → AllowsAt measure way p v state spent limit
      → AllowsAt measure way p v (record state { place = j; local = Some m }) after limit
  allows_local_met {state} {j} m {spent = spent} {limit} here inside same_place same_at low a = allows_met Local j refl low owes a where
    owes : Owes measure way p v state spent limit
        → Owes measure way p v (record state { place = j; local = Some m }) (spent + test measure (sized state.place Local j)) limit
    owes o =
        let k = state.at in
        let star = star_met Local j here refl refl inside o in
        let next = next_component way v k in
        let past : k < next = next-above way v k in
        let moves = moves_between measure v k next (omega arith) (next-high way v k inside) in
        let fewer : move measure * places_left v next ≤ move measure * places_left v k = places_left-times_mono (move measure) v k next (omega arith) in
        let skipped : cost measure way v star.tokens next ≤ cost measure way v star.tokens (next_tests_at way v star.tokens k) =
        cost-next_tests_at measure way v star.tokens k in
        let ats : cost measure way v star.tokens m.at ≡ cost measure way v star.tokens k = ap (cost measure way v star.tokens) same_at in
        let laters : cost measure way v star.tokens (next_component way v m.at) ≡ cost measure way v star.tokens next =
        ap (λ (y : ℕ). cost measure way v star.tokens (next_component way v y)) same_at in
        let moved : move measure * next_component way v m.at ≡ move measure * next = ap (λ (y : ℕ). move measure * next_component way v y) same_at in
        let marked : move measure * m.at ≡ move measure * k = ap (λ (y : ℕ). move measure * y) same_at in
        record {
          tokens = star.tokens;
          read = star.read;
          rest = o.rest;
          crossing = o.crossing;
          later = omega (arith, star.later);
          here = omega (arith, star.here);
          local = record {
            tokens = star.tokens;
            read = subst (λ (y : ℕ). SizedTokensFrom way p y star.tokens) (sym same_place) star.read;
            inside = omega arith;
            later = omega (arith, star.later);
            here = omega (arith, star.here);
            back = omega (arith, star.here, moves);
          };
        }
