-- The engine with two marks at a star token that is newly met: its mark is set where the engine stands.
use Rattle.std.proofs.Common.{◌≡◌, ◌≢◌, ◌⊎◌, inl, inr, ℕ, ◌+◌, ◌-◌, ◌<◌, ◌≤◌, Bool, true, false, IsTrue, List, length, Option, Some, None, refl, sym, ◌∙◌, subst, arith}
use Rattle.std.proofs.lemmas.Bool.{cases_lt}
use Rattle.glob_matcher.specs.declared.wildmatch.way.Way.{Way}
use Rattle.glob_matcher.specs.declared.wildmatch.marks.Mark.{Mark}
use Rattle.glob_matcher.specs.declared.wildmatch.state.Crossing.{Crossing}
use Rattle.glob_matcher.specs.declared.wildmatch.state.Crossing.TheVariants as crossing
use Rattle.glob_matcher.specs.declared.wildmatch.state.State.{State}
use Rattle.glob_matcher.specs.Bytes.{NoSlash, is_path, slash, star}
use Rattle.glob_matcher.specs.Tokens.{Token, Byte, Free, Local, Dirs, TokenAt, IsRun}
use Rattle.glob_matcher.specs.Private.Spelling.{IsAfterSlash, IsBeforeSlash}
use Rattle.glob_matcher.specs.Matching.{SplitsBy, SplitsFrom}
use Rattle.glob_matcher.specs.Private.Fitting.{AfterSlash}
use Rattle.glob_matcher.specs.Private.Components.{separates, next_component}
use Rattle.glob_matcher.specs.Private.States.{LaterFree, LaterDirs, LaterLocal, LaterLocalIfSet, LaterCrossing, SuccessFar, SuccessNear, FreeKnown, LocalKnownIfSet, StandsAt}
use Rattle.glob_matcher.proofs.lemmas.reading.WayLemmas.{slash_lives}
use Rattle.glob_matcher.proofs.lemmas.reading.SetLemmas.{two_bytes}
use Rattle.glob_matcher.proofs.lemmas.reading.TokenLemmas.{TokenAt-unique}
use Rattle.glob_matcher.proofs.lemmas.cutting.CutLemmas.{free_in, free_out, local_in, local_out, dirs_in_empty, dirs_in, dirs_out, end_in}
use Rattle.glob_matcher.proofs.lemmas.cutting.SplitLemmas.{dirs_before, free_before, no_slash_join}
use Rattle.glob_matcher.proofs.lemmas.two_marks.Components.{ends-at_slash, next-plain}
use Rattle.glob_matcher.proofs.lemmas.two_marks.States.{comes_here, dirs_ahead, far_ahead, local_near, mark_eq, mark_of, state_of}

-- a run of stars does not end in a slash
run_end_not_after : {p : List ℕ} {i j : ℕ} → IsRun p i j → ¬ IsAfterSlash p j
run_end_not_after {i} {j} run (inl zero_place) = let some : i < j = run.some in omega arith
run_end_not_after {p} {i} {j} run (inr h) =
    let some : i < j = run.some in
    two_bytes p (j - 1) star slash (run.stars (j - 1) (omega arith) (omega arith)) h (λ same. omega arith)

-- a later success of a local mark would need a slash before it
no_local_by : (way : Way) (p v : List ℕ) (i k : ℕ) (c : Crossing) (l : Option Mark) → LocalKnownIfSet way p v i k c l
    → IsAfterSlash p i → LaterLocalIfSet way p v l → ⊥
no_local_by way p v i k c None known after later = later
no_local_by way p v i k c (Some m) known after later = known.here after

-- in path mode a slash follows a run of stars that crosses slashes
pub free_known : {way : Way} {p : List ℕ} (v : List ℕ) {i j : ℕ} → TokenAt way p i Free j → j ≤ length p → j ≢ length p
    → FreeKnown way p v j
free_known {way} {p} v {j} here j_low more = record {
  low = j_low;
  start = run_end_not_after here.0;
  far = λ k e past t n token apart. far (is_path way) refl k e past t n token apart;
} where
  slash_follows : IsTrue (is_path way) → IsBeforeSlash p j → (t : Token) (n : ℕ) → TokenAt way p j t n → separates way t ≡ true
  slash_follows path (inl last) t n token = absurd (more last)
  slash_follows path (inr (inl bare)) t n token = absurd ((here.1 path).1 bare)
  slash_follows path (inr (inr escaped)) t n token =
      let same = TokenAt-unique way p j t (Byte slash) n (j + 2) token (inl (escaped, refl, slash_lives way)) in
      subst (λ (u : Token). separates way u ≡ true) (sym same.0) (ends-at_slash way slash refl)

  far : (path : Bool) → is_path way ≡ path → (k e : ℕ) → k < e → (t : Token) (n : ℕ) → TokenAt way p j t n
      → separates way t ≡ false → next_component way v k ≤ e
  far true path k e past t n token apart =
      let yes : separates way t ≡ true = slash_follows path ((here.1 path).0.after) t n token in
      let wrong : true ≡ false = sym yes ∙ apart in cc
  far false plain k e past t n token apart =
      let one : next_component way v k ≡ k + 1 = next-plain way v k plain in omega arith

module _ {way : Way} {p v : List ℕ} where
  -- A run of stars that ends the pattern takes the rest of the value.
  pub free_last : {state : State} {j : ℕ} → StandsAt way p v state → TokenAt way p state.place Free j → j ≡ length p → SplitsBy v p way
  free_last {state} {j} st here last =
      st.sound (free_in way p v state.place j state.at (length v) here st.inside (omega arith) (end_in way p v j (length v) last (omega arith)))

  -- A run of stars that crosses slashes: both marks are forgotten, and one is set.
  pub stands_free_met : {state : State} {j : ℕ} (m : Mark) → StandsAt way p v state → TokenAt way p state.place Free j
      → j ≤ length p → j ≢ length p → m.place ≡ j → m.at ≡ state.at → StandsAt way p v (state_of j state.at (crossing.Free m) None)
  stands_free_met {state} {j} m st here j_low more same_place same_at =
      subst (λ (n : Mark). StandsAt way p v (state_of j state.at (crossing.Free n) None)) (mark_eq m j state.at same_place same_at)
      (made (free_known v here j_low more)) where
        through : SplitsBy v p way → SplitsFrom v state.at p state.place way
        through = comes_here st
            (λ n. free_before here n.low n.inside n.splits)
            (λ a. free_before here (omega (arith, a.past)) a.inside a.splits)

        split : (e : ℕ) → state.at ≤ e → e ≤ length v → SplitsFrom v e p j way
            → SplitsFrom v state.at p j way ⊎ (⊥ ⊎ LaterFree way p v j state.at)
        split e low inside all = elim (cases_lt state.at e) [
          | inl past ↦ inr (inr (record { e = e; past = past; inside = inside; splits = all }))
          | inr same ↦ let at : e ≡ state.at = omega arith in inl (subst (λ (n : ℕ). SplitsFrom v n p j way) at all)
        ]

        made : FreeKnown way p v j → StandsAt way p v (state_of j state.at (crossing.Free (mark_of j state.at)) None)
        made known = record {
          low = j_low;
          inside = st.inside;
          sound = λ all. st.sound (free_in way p v state.place j state.at state.at here (omega arith) st.inside all);
          sound_local = λ none. absurd none;
          sound_crossing = λ later.
              st.sound (free_in way p v state.place j state.at later.e here (omega (arith, later.past)) later.inside later.splits);
          complete = λ whole.
              let out = free_out way p v state.place j state.at here st.inside (through whole) in split out.0 out.1 out.2 out.3;
          ahead = λ later. record {
            e = later.e;
            past = later.past;
            inside = later.inside;
            far = λ t n token apart. known.far state.at later.e later.past t n token apart;
            after = λ after. absurd (known.start after);
            splits = later.splits;
          };
          crossing = known;
          local = tt;
        }

  -- A double star with its slash: both marks are forgotten, and one is set.
  pub stands_dirs_met : {state : State} {j : ℕ} (m : Mark) → StandsAt way p v state → TokenAt way p state.place Dirs j
      → j ≤ length p → m.place ≡ j → m.at ≡ state.at → StandsAt way p v (state_of j state.at (crossing.Dirs m) None)
  stands_dirs_met {state} {j} m st here j_low same_place same_at =
      subst (λ (n : Mark). StandsAt way p v (state_of j state.at (crossing.Dirs n) None)) (mark_eq m j state.at same_place same_at) made where
        after_slash : IsAfterSlash p state.place
        after_slash = here.bounded.before

        through : SplitsBy v p way → SplitsFrom v state.at p state.place way
        through whole = elim (st.complete whole) [
          | inl all ↦ all
          | inr (inl later) ↦
              absurd (no_local_by way p v state.place state.at state.crossing state.local st.local after_slash later)
          | inr (inr later) ↦
              let a = st.ahead later in
              dirs_before here a.past a.inside (a.after after_slash) a.splits
        ]

        split : (e : ℕ) → (e ≡ state.at) ⊎ AfterSlash v state.at e → SplitsFrom v e p j way
            → SplitsFrom v state.at p j way ⊎ (⊥ ⊎ LaterDirs way p v j state.at)
        split e (inl same) all = inl (subst (λ (n : ℕ). SplitsFrom v n p j way) same all)
        split e (inr after) all = inr (inr (record { e = e; after = after; splits = all }))

        made : StandsAt way p v (state_of j state.at (crossing.Dirs (mark_of j state.at)) None)
        made = record {
          low = j_low;
          inside = st.inside;
          sound = λ all. st.sound (dirs_in_empty way p v state.place j state.at here st.inside all);
          sound_local = λ none. absurd none;
          sound_crossing = λ later. st.sound (dirs_in way p v state.place j state.at later.e here later.after later.splits);
          complete = λ whole.
              let out = dirs_out way p v state.place j state.at here st.inside (through whole) in split out.0 out.1 out.2;
          ahead = λ later. dirs_ahead later;
          crossing = j_low;
          local = tt;
        }

  -- A run of stars within a component: its mark is set, and the crossing mark stays.
  pub stands_local_met : {state : State} {j : ℕ} (m : Mark) → StandsAt way p v state → TokenAt way p state.place Local j
      → j ≤ length p → m.place ≡ j → m.at ≡ state.at → StandsAt way p v (record state { place = j; local = Some m })
  stands_local_met {state} {j} m st here j_low same_place same_at =
      subst (λ (n : Mark). StandsAt way p v (record state { place = j; local = Some n })) (mark_eq m j state.at same_place same_at) made where
        split : (e : ℕ) → state.at ≤ e → e ≤ length v → NoSlash v state.at e → SplitsFrom v e p j way
            → SplitsFrom v state.at p j way ⊎ (LaterLocal way p v j state.at ⊎ LaterCrossing way p v state.crossing)
        split e low inside bare all = elim (cases_lt state.at e) [
          | inl past ↦ inr (inl (record { e = e; past = past; inside = inside; bare = bare; splits = all }))
          | inr same ↦ let at : e ≡ state.at = omega arith in inl (subst (λ (n : ℕ). SplitsFrom v n p j way) at all)
        ]

        from_near : SuccessNear way p v state.place state.at
            → SplitsFrom v state.at p j way ⊎ (LaterLocal way p v j state.at ⊎ LaterCrossing way p v state.crossing)
        from_near n =
            let out = local_out way p v state.place j n.e here n.inside n.splits in
            split out.0 (omega (arith, n.low, out.1)) out.2 (no_slash_join n.bare out.3) out.4

        far : LaterCrossing way p v state.crossing → SuccessFar way p v j state.at
        far later =
            let a = st.ahead later in
            let out = local_out way p v state.place j a.e here a.inside a.splits in
            let next : next_component way v state.at ≤ a.e = a.far Local j here refl in
            record { e = out.0; far = omega (arith, out.1); inside = out.2; splits = out.4 }

        start : ¬ IsAfterSlash p j
        start = run_end_not_after here.0

        made : StandsAt way p v (record state { place = j; local = Some (mark_of j state.at) })
        made = record {
          low = j_low;
          inside = st.inside;
          sound = λ all.
              st.sound (local_in way p v state.place j state.at state.at here (omega arith) st.inside (record { at = λ n from below. absurd (omega arith) }) all);
          sound_local = λ later.
              st.sound (local_in way p v state.place j state.at later.e here (omega (arith, later.past)) later.inside later.bare later.splits);
          sound_crossing = st.sound_crossing;
          complete = λ whole. elim (st.complete whole) [
            | inl all ↦ let out = local_out way p v state.place j state.at here st.inside all in split out.0 out.1 out.2 out.3 out.4
            | inr (inl later) ↦ from_near (local_near st later)
            | inr (inr later) ↦ inr (inr later)
          ];
          ahead = λ later. far_ahead start (far later);
          crossing = st.crossing;
          local = record {
            path = here.1;
            low = j_low;
            here = start;
            start = start;
            near = λ later. record { e = later.e; low = omega (arith, later.past); inside = later.inside; bare = later.bare; splits = later.splits };
            far = far;
          };
        }
