-- The engine with two marks goes back to a mark that moves to its next place.
use Rattle.std.proofs.Common.{◌≡◌, ◌≢◌, ◌⊎◌, inl, inr, ℕ, ◌+◌, ◌-◌, ◌<◌, List, length, get_or, Some, None, refl, subst, arith}
use Rattle.std.proofs.lemmas.Bool.{cases_lt}
use Rattle.glob_matcher.specs.declared.wildmatch.way.Way.{Way}
use Rattle.glob_matcher.specs.declared.wildmatch.marks.Mark.{Mark}
use Rattle.glob_matcher.specs.declared.wildmatch.state.Crossing.TheVariants as crossing
use Rattle.glob_matcher.specs.declared.wildmatch.state.State.{State}
use Rattle.glob_matcher.specs.Bytes.{NoSlash, slash}
use Rattle.glob_matcher.specs.Matching.{SplitsFrom}
use Rattle.glob_matcher.specs.Private.Components.{next_component}
use Rattle.glob_matcher.specs.Private.States.{LaterFree, LaterDirs, LaterLocal, LaterCrossing, SuccessFar, FreeKnown, LocalKnown, StandsAt, IsLeft, IsMiss, IsNextDirectory}
use Rattle.glob_matcher.proofs.lemmas.cutting.SplitLemmas.{no_slash_join}
use Rattle.glob_matcher.proofs.lemmas.two_marks.Components.{ends-inner, next-inner}
use Rattle.glob_matcher.proofs.lemmas.two_marks.States.{Stands-local, dirs_ahead, far_ahead, mark_eq, mark_of, state_of}

module _ {way : Way} {p v : List ℕ} where
  -- The local mark moves by one byte that is no slash.
  pub stands_local_moved : {state : State} {m : Mark} (n : Mark) → IsMiss way p v state → state.local ≡ Some m → m.at < length v
      → get_or v m.at 0 ≢ slash → n.place ≡ m.place → n.at ≡ m.at + 1 → StandsAt way p v (state_of n.place n.at state.crossing (Some n))
  stands_local_moved {state} {m} n miss is inside other same_place same_at =
      subst (λ (x : Mark). StandsAt way p v (state_of x.place x.at state.crossing (Some x))) (mark_eq n m.place (m.at + 1) same_place same_at) made where
        st : StandsAt way p v (record state { local = Some m })
        st = Stands-local miss.stands is

        known : LocalKnown way p v state.place state.at state.crossing m.place m.at
        known = st.local

        bare_one : NoSlash v m.at (m.at + 1)
        bare_one = record { at = λ x from below. let same : m.at ≡ x = omega arith in subst (λ (y : ℕ). get_or v y 0 ≢ slash) same other }

        wider : LaterLocal way p v m.place (m.at + 1) → LaterLocal way p v m.place m.at
        wider later = record {
          e = later.e;
          past = omega (arith, later.past);
          inside = later.inside;
          bare = no_slash_join bare_one later.bare;
          splits = later.splits;
        }

        far : LaterCrossing way p v state.crossing → SuccessFar way p v m.place (m.at + 1)
        far later =
            let f = known.far later in
            let same : next_component way v (m.at + 1) ≡ next_component way v m.at =
            next-inner way v m.at inside (ends-inner way (get_or v m.at 0) known.path other) in
            record { e = f.e; far = omega (arith, f.far); inside = f.inside; splits = f.splits }

        split : LaterLocal way p v m.place m.at
            → SplitsFrom v (m.at + 1) p m.place way ⊎ (LaterLocal way p v m.place (m.at + 1) ⊎ LaterCrossing way p v state.crossing)
        split later = elim (cases_lt (m.at + 1) later.e) [
          | inl past ↦ inr (inl (record {
            e = later.e;
            past = past;
            inside = later.inside;
            bare = record { at = λ x from below. later.bare.at x (omega arith) below };
            splits = later.splits;
          }))
          | inr same ↦
              let past : m.at < later.e = later.past in
              let at : later.e ≡ m.at + 1 = omega arith in inl (subst (λ (x : ℕ). SplitsFrom v x p m.place way) at later.splits)
        ]

        made : StandsAt way p v (state_of m.place (m.at + 1) state.crossing (Some (mark_of m.place (m.at + 1))))
        made = record {
          low = known.low;
          inside = omega arith;
          sound = λ all. st.sound_local (record { e = m.at + 1; past = omega arith; inside = omega arith; bare = bare_one; splits = all });
          sound_local = λ later. st.sound_local (wider later);
          sound_crossing = st.sound_crossing;
          complete = λ whole. elim (st.complete whole) [
            | inl all ↦ absurd (miss.missed all)
            | inr (inl later) ↦ split later
            | inr (inr later) ↦ inr (inr later)
          ];
          ahead = λ later. far_ahead known.start (far later);
          crossing = st.crossing;
          local = record {
            path = known.path;
            low = known.low;
            here = known.start;
            start = known.start;
            near = λ later. record { e = later.e; low = omega (arith, later.past); inside = later.inside; bare = later.bare; splits = later.splits };
            far = far;
          };
        }

  -- The mark of a run of stars that crosses slashes moves by one byte.
  pub stands_free_moved : {m : Mark} (n : Mark) → IsLeft way p v (crossing.Free m) → m.at < length v → n.place ≡ m.place
      → n.at ≡ m.at + 1 → StandsAt way p v (state_of n.place n.at (crossing.Free n) None)
  stands_free_moved {m} n left inside same_place same_at =
      subst (λ (x : Mark). StandsAt way p v (state_of x.place x.at (crossing.Free x) None)) (mark_eq n m.place (m.at + 1) same_place same_at) made where
        known : FreeKnown way p v m.place
        known = left.crossing

        wider : LaterFree way p v m.place (m.at + 1) → LaterFree way p v m.place m.at
        wider later = record { e = later.e; past = omega (arith, later.past); inside = later.inside; splits = later.splits }

        split : LaterFree way p v m.place m.at → SplitsFrom v (m.at + 1) p m.place way ⊎ (⊥ ⊎ LaterFree way p v m.place (m.at + 1))
        split later = elim (cases_lt (m.at + 1) later.e) [
          | inl past ↦ inr (inr (record { e = later.e; past = past; inside = later.inside; splits = later.splits }))
          | inr same ↦
              let past : m.at < later.e = later.past in
              let at : later.e ≡ m.at + 1 = omega arith in inl (subst (λ (x : ℕ). SplitsFrom v x p m.place way) at later.splits)
        ]

        made : StandsAt way p v (state_of m.place (m.at + 1) (crossing.Free (mark_of m.place (m.at + 1))) None)
        made = record {
          low = known.low;
          inside = omega arith;
          sound = λ all. left.sound (record { e = m.at + 1; past = omega arith; inside = omega arith; splits = all });
          sound_local = λ none. absurd none;
          sound_crossing = λ later. left.sound (wider later);
          complete = λ whole. split (left.complete whole);
          ahead = λ later. record {
            e = later.e;
            past = later.past;
            inside = later.inside;
            far = λ t j token apart. known.far (m.at + 1) later.e later.past t j token apart;
            after = λ after. absurd (known.start after);
            splits = later.splits;
          };
          crossing = known;
          local = tt;
        }

  -- The mark of a double star moves to the next place after a slash.
  pub stands_dirs_moved : {m n : Mark} → IsLeft way p v (crossing.Dirs m) → IsNextDirectory v m n
      → StandsAt way p v (state_of n.place n.at (crossing.Dirs n) None)
  stands_dirs_moved {m} {n} left next =
      subst (λ (x : Mark). StandsAt way p v (state_of x.place x.at (crossing.Dirs x) None)) (mark_eq n m.place n.at next.same refl) made where
        n_past : m.at < n.at
        n_past = next.after.past

        wider : LaterDirs way p v m.place n.at → LaterDirs way p v m.place m.at
        wider later = record {
          e = later.e;
          after = record { past = omega (arith, n_past, later.after.past); inside = later.after.inside; slash = later.after.slash };
          splits = later.splits;
        }

        split : LaterDirs way p v m.place m.at → SplitsFrom v n.at p m.place way ⊎ (⊥ ⊎ LaterDirs way p v m.place n.at)
        split later = elim (cases_lt n.at later.e) [
          | inl past ↦ inr (inr (record {
            e = later.e;
            after = record { past = past; inside = later.after.inside; slash = later.after.slash };
            splits = later.splits;
          }))
          | inr low ↦ elim (cases_lt later.e n.at) [
            | inl before ↦ absurd (next.bare.at (later.e - 1) (omega (arith, later.after.past)) (omega (arith, later.after.past)) later.after.slash)
            | inr high ↦ let at : later.e ≡ n.at = omega arith in inl (subst (λ (x : ℕ). SplitsFrom v x p m.place way) at later.splits)
          ]
        ]

        made : StandsAt way p v (state_of m.place n.at (crossing.Dirs (mark_of m.place n.at)) None)
        made = record {
          low = left.crossing;
          inside = next.after.inside;
          sound = λ all. left.sound (record { e = n.at; after = next.after; splits = all });
          sound_local = λ none. absurd none;
          sound_crossing = λ later. left.sound (wider later);
          complete = λ whole. split (left.complete whole);
          ahead = λ later. dirs_ahead later;
          crossing = left.crossing;
          local = tt;
        }
