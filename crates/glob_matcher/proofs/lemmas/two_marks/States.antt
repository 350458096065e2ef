-- The engine with two marks: what its state means. A match is found here, or at a later place of a mark.
use Rattle.std.proofs.Common.{◌≡◌, inl, inr, ℕ, ◌+◌, ◌-◌, ◌<◌, ◌≤◌, true, List, length, get_or, Option, Some, None, sym, ◌∙◌, ap, subst, arith}
use Rattle.glob_matcher.specs.declared.wildmatch.way.Way.{Way}
use Rattle.glob_matcher.specs.declared.wildmatch.marks.Mark.{Mark}
use Rattle.glob_matcher.specs.declared.wildmatch.state.Crossing.{Crossing}
use Rattle.glob_matcher.specs.declared.wildmatch.state.Crossing.TheVariants as crossing
use Rattle.glob_matcher.specs.declared.wildmatch.state.State.{State}
use Rattle.glob_matcher.specs.Tokens.{Nothing, TokenAt}
use Rattle.glob_matcher.specs.Private.Spelling.{IsAfterSlash}
use Rattle.glob_matcher.specs.Matching.{SplitsBy, SplitsFrom}
use Rattle.glob_matcher.specs.Private.Components.{ends, next_component}
use Rattle.glob_matcher.specs.Private.States.{LaterDirs, LaterLocalIfSet, SuccessAhead, SuccessFar, SuccessNear, LocalKnownIfSet, StandsAt, IsLeft, IsMiss}
use Rattle.glob_matcher.proofs.lemmas.cutting.CutLemmas.{nothing_out, end_in, end_out}
use Rattle.glob_matcher.proofs.lemmas.two_marks.Components.{ends-at_slash, next-above, next-before_end}

abbrev pub mark_of : ℕ → ℕ → Mark
mark_of place at = record { place = place; at = at }

pub mark_eq : (m : Mark) (place at : ℕ) → m.place ≡ place → m.at ≡ at → mark_of place at ≡ m
mark_eq m place at same_place same_at = sym (ap (λ (n : ℕ). mark_of n m.at) same_place ∙ ap (λ (n : ℕ). mark_of place n) same_at)

abbrev pub state_of : ℕ → ℕ → Crossing → Option Mark → State
state_of place at c l = record { place = place; at = at; crossing = c; local = l }

-- the engine at its start
pub stands_start : (way : Way) (p v : List ℕ) → StandsAt way p v (state_of 0 0 crossing.Unmet None)
stands_start way p v = record {
  low = omega arith;
  inside = omega arith;
  sound = λ all. all;
  sound_local = λ none. absurd none;
  sound_crossing = λ none. absurd none;
  complete = λ all. inl all;
  ahead = λ none. absurd none;
  crossing = tt;
  local = tt;
}

-- the pattern's end, where the value goes on
pub end_missed : (way : Way) (p v : List ℕ) (i k : ℕ) → i ≡ length p → (length v ≤ k → ⊥) → ¬ SplitsFrom v k p i way
end_missed way p v i k at_end short all = short (end_out way p v i k at_end all)

module _ {way : Way} {p v : List ℕ} where
  -- a later success of the local mark, seen from here
  near_of : {i k : ℕ} (c : Crossing) (l : Option Mark) → LocalKnownIfSet way p v i k c l → LaterLocalIfSet way p v l
      → SuccessNear way p v i k
  near_of c None known later = absurd later
  near_of c (Some m) known later = known.near later

  pub local_near : {state : State} → StandsAt way p v state → LaterLocalIfSet way p v state.local
      → SuccessNear way p v state.place state.at
  local_near {state} st later = near_of state.crossing state.local st.local later

  -- a later success of a mark, seen from the mark itself
  pub dirs_ahead : {i k : ℕ} → LaterDirs way p v i k → SuccessAhead way p v i k
  dirs_ahead {k = k} later =
      let past : k < later.e = later.after.past in
      let inside : later.e ≤ length v = later.after.inside in
      let end : ends way (get_or v (later.e - 1) 0) ≡ true = ends-at_slash way (get_or v (later.e - 1) 0) later.after.slash in
      let far : next_component way v k ≤ later.e - 1 + 1 = next-before_end way v k (later.e - 1) (omega arith) (omega arith) end in
      record {
        e = later.e;
        past = past;
        inside = inside;
        far = λ t n token apart. omega arith;
        after = λ after. later.after.slash;
        splits = later.splits;
      }

  pub far_ahead : {i k : ℕ} → ¬ IsAfterSlash p i → SuccessFar way p v i k → SuccessAhead way p v i k
  far_ahead {k = k} start f =
      let past : k < next_component way v k = next-above way v k in
      record {
        e = f.e;
        past = omega (arith, f.far);
        inside = f.inside;
        far = λ t n token apart. f.far;
        after = λ after. absurd (start after);
        splits = f.splits;
      }

  -- A match comes through here, where each later success of a mark does.
  pub comes_here : {state : State} → StandsAt way p v state
      → (SuccessNear way p v state.place state.at → SplitsFrom v state.at p state.place way)
      → (SuccessAhead way p v state.place state.at → SplitsFrom v state.at p state.place way)
      → SplitsBy v p way → SplitsFrom v state.at p state.place way
  comes_here st near ahead whole = elim (st.complete whole) [
    | inl all ↦ all
    | inr (inl later) ↦ near (local_near st later)
    | inr (inr later) ↦ ahead (st.ahead later)
  ]

  -- What matches nothing ends the search.
  pub nothing_met : {state : State} (j : ℕ) → StandsAt way p v state → TokenAt way p state.place Nothing j → ¬ SplitsBy v p way
  nothing_met {state} j st here whole = elim (st.complete whole) [
    | inl all ↦ nothing_out way p v state.place j state.at here st.inside all
    | inr (inl later) ↦ let n = local_near st later in nothing_out way p v state.place j n.e here n.inside n.splits
    | inr (inr later) ↦ let a = st.ahead later in nothing_out way p v state.place j a.e here a.inside a.splits
  ]

  -- the pattern's end, and the value's
  pub end_met : {state : State} → StandsAt way p v state → state.place ≡ length p → length v ≤ state.at → SplitsBy v p way
  end_met {state} st at_end past = st.sound (end_in way p v state.place state.at at_end past)

  -- the token does not fit where the engine stands
  pub miss_of : {state : State} → StandsAt way p v state → ¬ SplitsFrom v state.at p state.place way → IsMiss way p v state
  miss_of st missed = record { stands = st; missed = missed }

  -- the same state, where parts of it are known by equations
  pub Stands-local : {state : State} {l : Option Mark} → StandsAt way p v state → state.local ≡ l
      → StandsAt way p v (record state { local = l })
  Stands-local {state} st same = subst (λ (l : Option Mark). StandsAt way p v (record state { local = l })) same st

  pub Stands-places : {state : State} {i k : ℕ} → StandsAt way p v state → i ≡ state.place → k ≡ state.at
      → StandsAt way p v (record state { place = i; at = k })
  Stands-places {state} {i} st same_place same_at =
      subst (λ (k : ℕ). StandsAt way p v (record state { place = i; at = k })) (sym same_at)
      (subst (λ (i : ℕ). StandsAt way p v (record state { place = i })) (sym same_place) st)

  pub IsLeft-crossing : {c d : Crossing} → c ≡ d → IsLeft way p v c → IsLeft way p v d
  IsLeft-crossing same left = subst (λ (x : Crossing). IsLeft way p v x) same left
