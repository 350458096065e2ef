-- The budget of the engine with two marks where a token does not fit: a mark moves to its next place, or cannot.
use Rattle.std.proofs.Common.{◌≡◌, ◌⊎◌, inl, inr, ℕ, ◌+◌, ◌-◌, ◌*◌, ◌<◌, ◌≤◌, true, false, List, length, get_or, Option, Some, None, sym, ◌∙◌, ap, subst, arith}
use Rattle.std.proofs.lemmas.Bool.{cases_lt}
use Rattle.std.proofs.Math.Nat.{mul-le-mul_left}
use Rattle.glob_matcher.specs.declared.wildmatch.way.Way.{Way}
use Rattle.glob_matcher.specs.declared.wildmatch.marks.Mark.{Mark}
use Rattle.glob_matcher.specs.declared.wildmatch.state.Crossing.TheVariants as crossing
use Rattle.glob_matcher.specs.declared.wildmatch.state.State.{State}
use Rattle.glob_matcher.specs.Bytes.{slash}
use Rattle.glob_matcher.specs.Private.Components.{ends, next_component}
use Rattle.glob_matcher.specs.Private.States.{IsNextDirectory}
use Rattle.glob_matcher.specs.Private.SizedTokens.{SizedTokensFrom}
use Rattle.glob_matcher.specs.Private.Prices.{Measure, move, places_left, cost, next_tests_at, component_cost}
use Rattle.glob_matcher.specs.Private.Budget.{FreeRest, DirsRest, LocalRest, LocalRestIfSet, Owes, AllowsAt, OwesLeft, AllowsLeft, AllowsMiss}
use Rattle.glob_matcher.proofs.lemmas.two_marks.Components.{ends-at_slash, next-end, next-outside, next-inner, next-above, next-before_end}
use Rattle.glob_matcher.proofs.lemmas.two_marks.Prices.{moves_between, cost-next_tests_at, cost-mono, places_left-is, sized-settle, component_cost-places_left, component_cost-step, places_left-times_less, first_test-component_cost}
use Rattle.glob_matcher.proofs.lemmas.two_marks.States.{state_of}
use Rattle.glob_matcher.proofs.lemmas.two_marks.Budget.{owes_test}

stuck_next : (way : Way) (v : List ℕ) (k : ℕ) → (length v ≤ k) ⊎ (get_or v k 0 ≡ slash) → next_component way v k ≡ k + 1
stuck_next way v k (inl past) = next-outside way v k past
stuck_next way v k (inr is) = elim (cases_lt k (length v)) [
  | inl inside ↦ next-end way v k inside (ends-at_slash way (get_or v k 0) is)
  | inr past ↦ next-outside way v k past
]

module _ {measure : Measure} {way : Way} {p v : List ℕ} where
  -- The token does not fit here, and there is no local mark.
  pub left_missed : {state : State} {spent limit : ℕ} → state.at ≤ length v → AllowsMiss measure way p v state spent limit
      → AllowsLeft measure way p v state.crossing spent limit
  left_missed inside a = record {
    all = λ xs read.
        let o = a.allows.all xs read in
        record { rest = o.rest; crossing = o.crossing; enough = omega (arith, owes_test inside o, a.tested.high o.tokens o.read) };
  }

  -- The token does not fit here, and the local mark cannot move.
  pub left_stuck_counts : {state : State} {m : Mark} {spent limit : ℕ} → AllowsMiss measure way p v state spent limit
      → state.local ≡ Some m → (length v ≤ m.at) ⊎ (get_or v m.at 0 ≡ slash)
      → AllowsLeft measure way p v state.crossing (spent + move measure) limit
  left_stuck_counts {state} {m} {spent} {limit} a is stuck = record { all = λ xs read. owes (a.allows.all xs read) } where
    owes : Owes measure way p v state a.before limit → OwesLeft measure way p v state.crossing (spent + move measure) limit
    owes o =
        let w : LocalRest measure way p v o.tokens state.at o.rest a.before limit m.place m.at =
        subst (λ (l : Option Mark). LocalRestIfSet measure way p v o.tokens state.at o.rest a.before limit l) is o.local in
        let moved : move measure * next_component way v m.at ≡ move measure * m.at + move measure =
        ap (λ (y : ℕ). move measure * y) (stuck_next way v m.at stuck) ∙ omega arith in
        let row : cost measure way v w.tokens (next_component way v m.at) + component_cost measure way w.tokens ≤ cost measure way v w.tokens m.at =
        component_cost-places_left measure way v w.tokens m.at w.inside in
        record {
          rest = o.rest;
          crossing = o.crossing;
          enough = omega (arith, row, w.back, first_test-component_cost measure way v o.tokens, a.tested.high o.tokens o.read);
        }

  -- The token does not fit here, and the local mark moves by one byte.
  pub allows_local_moved : {state : State} {m : Mark} (x : Mark) {spent limit : ℕ} → AllowsMiss measure way p v state spent limit → state.local ≡ Some m
      → m.at < length v → ends way (get_or v m.at 0) ≡ false → x.place ≡ m.place → x.at ≡ m.at + 1
      → AllowsAt measure way p v (state_of x.place x.at state.crossing (Some x)) (spent + move measure) limit
  allows_local_moved {state} {m} x {spent} {limit} a is inside within same_place same_at =
      record { all = λ xs read. owes (a.allows.all xs read) } where
        owes : Owes measure way p v state a.before limit
            → Owes measure way p v (state_of x.place x.at state.crossing (Some x)) (spent + move measure) limit
        owes o =
            let w : LocalRest measure way p v o.tokens state.at o.rest a.before limit m.place m.at =
            subst (λ (l : Option Mark). LocalRestIfSet measure way p v o.tokens state.at o.rest a.before limit l) is o.local in
            let row : cost measure way v w.tokens m.at ≡ cost measure way v w.tokens (m.at + 1) + component_cost measure way w.tokens =
            component_cost-step measure way v w.tokens m.at inside within in
            let tested : spent ≤ a.before + component_cost measure way o.tokens =
            omega (arith, first_test-component_cost measure way v o.tokens, a.tested.high o.tokens o.read) in
            let back = w.back in
            let next : next_component way v x.at ≡ next_component way v m.at =
            ap (next_component way v) same_at ∙ next-inner way v m.at inside within in
            let past : x.at < next_component way v m.at = omega (arith, next-above way v x.at) in
            let two : move measure * (m.at + 2) ≤ move measure * next_component way v m.at = mul-le-mul_left (move measure) (omega arith) in
            let nexts : move measure * next_component way v x.at ≡ move measure * next_component way v m.at = ap (λ (y : ℕ). move measure * y) next in
            let marked : move measure * x.at ≡ move measure * m.at + move measure = ap (λ (y : ℕ). move measure * y) same_at ∙ omega arith in
            let ats : cost measure way v w.tokens x.at ≡ cost measure way v w.tokens (m.at + 1) = ap (cost measure way v w.tokens) same_at in
            let laters : cost measure way v w.tokens (next_component way v x.at) ≡ cost measure way v w.tokens (next_component way v m.at) =
            ap (cost measure way v w.tokens) next in
            let skipped : cost measure way v w.tokens (next_component way v x.at) ≤ cost measure way v w.tokens (next_tests_at way v w.tokens x.at) =
            cost-next_tests_at measure way v w.tokens x.at in
            let read : SizedTokensFrom way p x.place w.tokens = subst (λ (y : ℕ). SizedTokensFrom way p y w.tokens) (sym same_place) w.read in
            record {
              tokens = w.tokens;
              read = read;
              rest = o.rest;
              crossing = o.crossing;
              later = omega (arith, w.later);
              here = omega (arith, two);
              local = record {
                tokens = w.tokens;
                read = read;
                inside = omega arith;
                later = omega (arith, w.later);
                here = omega (arith, two);
                back = omega arith;
              };
            }

  -- The mark of a run of stars moves by one byte, or cannot.
  pub allows_free_moved : {m : Mark} (x : Mark) {spent limit : ℕ} → m.at < length v → x.place ≡ m.place
      → x.at ≡ m.at + 1 → AllowsLeft measure way p v (crossing.Free m) spent limit
      → AllowsAt measure way p v (state_of x.place x.at (crossing.Free x) None) (spent + move measure) limit
  allows_free_moved {m} x {spent} {limit} inside same_place same_at a = record { all = λ xs read. owes (a.all xs read) } where
    owes : OwesLeft measure way p v (crossing.Free m) spent limit → Owes measure way p v (state_of x.place x.at (crossing.Free x) None) (spent + move measure) limit
    owes o =
        let w : FreeRest measure way p v m.place m.at o.rest = o.crossing in
        let skipped : cost measure way v w.tokens (next_tests_at way v w.tokens x.at) ≡ cost measure way v w.tokens (x.at + 1) =
        ap (cost measure way v w.tokens) (w.skips x.at) in
        let ats : cost measure way v w.tokens x.at ≡ cost measure way v w.tokens (m.at + 1) = ap (cost measure way v w.tokens) same_at in
        let past : x.at < next_component way v x.at = next-above way v x.at in
        let next : cost measure way v w.tokens (next_component way v x.at) ≤ cost measure way v w.tokens (x.at + 1) =
        cost-mono measure way v w.tokens (x.at + 1) (next_component way v x.at) (omega arith) in
        let fewer : move measure * places_left v x.at + move measure ≤ move measure * places_left v m.at =
        places_left-times_less (move measure) v m.at x.at (omega arith) (omega arith) in
        let read : SizedTokensFrom way p x.place w.tokens = subst (λ (y : ℕ). SizedTokensFrom way p y w.tokens) (sym same_place) w.read in
        record {
          tokens = w.tokens;
          read = read;
          rest = cost measure way v w.tokens (x.at + 1) + move measure * places_left v x.at;
          crossing = record { tokens = w.tokens; read = read; inside = omega arith; skips = w.skips; enough = omega arith };
          later = omega arith;
          here = omega (arith, w.enough, o.enough);
          local = tt;
        }

  pub free_stuck_counts : {m : Mark} {spent limit : ℕ} → AllowsLeft measure way p v (crossing.Free m) spent limit
      → spent + move measure ≤ limit
  free_stuck_counts {m} {spent} {limit} a = sized-settle way p (spent + move measure) limit (λ xs read. owes (a.all xs read)) where
    owes : OwesLeft measure way p v (crossing.Free m) spent limit → spent + move measure ≤ limit
    owes o =
        let w : FreeRest measure way p v m.place m.at o.rest = o.crossing in
        omega (arith, places_left-times_less (move measure) v m.at (m.at + 1) w.inside (omega arith), w.enough, o.enough)

  -- The mark of a double star moves to the next place after a slash, or cannot.
  pub allows_dirs_moved : {m x : Mark} {spent limit : ℕ} → IsNextDirectory v m x
      → AllowsLeft measure way p v (crossing.Dirs m) spent limit
      → AllowsAt measure way p v (state_of x.place x.at (crossing.Dirs x) None) (spent + move measure * (x.at - m.at)) limit
  allows_dirs_moved {m} {x} {spent} {limit} moved a = record { all = λ xs read. owes (a.all xs read) } where
    owes : OwesLeft measure way p v (crossing.Dirs m) spent limit
        → Owes measure way p v (state_of x.place x.at (crossing.Dirs x) None) (spent + move measure * (x.at - m.at)) limit
    owes o =
        let w : DirsRest measure way p v m.place m.at o.rest = o.crossing in
        let past : m.at < x.at = moved.after.past in
        let inside : x.at ≤ length v = moved.after.inside in
        let end : ends way (get_or v (x.at - 1) 0) ≡ true = ends-at_slash way (get_or v (x.at - 1) 0) moved.after.slash in
        let reached : next_component way v m.at ≤ x.at - 1 + 1 = next-before_end way v m.at (x.at - 1) (omega arith) (omega arith) end in
        let ats : cost measure way v w.tokens x.at ≤ cost measure way v w.tokens (next_component way v m.at) =
        cost-mono measure way v w.tokens (next_component way v m.at) x.at (omega arith) in
        let skipped : cost measure way v w.tokens (next_component way v x.at) ≤ cost measure way v w.tokens (next_tests_at way v w.tokens x.at) =
        cost-next_tests_at measure way v w.tokens x.at in
        let far : x.at ≡ m.at + (x.at - m.at) = omega arith in
        let apart : move measure * x.at ≡ move measure * m.at + move measure * (x.at - m.at) = ap (λ (y : ℕ). move measure * y) far ∙ omega arith in
        let moves = moves_between measure v m.at x.at (omega arith) (omega arith) in
        let read : SizedTokensFrom way p x.place w.tokens = subst (λ (y : ℕ). SizedTokensFrom way p y w.tokens) (sym moved.same) w.read in
        record {
          tokens = w.tokens;
          read = read;
          rest = cost measure way v w.tokens (next_component way v x.at) + move measure * places_left v x.at;
          crossing = record { tokens = w.tokens; read = read; inside = inside; enough = omega arith };
          later = omega arith;
          here = omega (arith, moves, w.enough, o.enough);
          local = tt;
        }

  pub dirs_stuck_counts : {m : Mark} {after spent limit : ℕ}
      → (m.at ≤ length v → after ≤ spent + move measure * (length v + 1 - m.at)) → AllowsLeft measure way p v (crossing.Dirs m) spent limit → after ≤ limit
  dirs_stuck_counts {m} {after} {spent} {limit} taken a = sized-settle way p after limit (λ xs read. owes (a.all xs read)) where
    owes : OwesLeft measure way p v (crossing.Dirs m) spent limit → after ≤ limit
    owes o =
        let w : DirsRest measure way p v m.place m.at o.rest = o.crossing in
        let rest : move measure * places_left v m.at ≡ move measure * (length v + 1 - m.at) = ap (λ (y : ℕ). move measure * y) (places_left-is v m.at) in
        omega (arith, taken w.inside, w.enough, o.enough)
