-- The engine with two marks where a mark is missing or cannot move: the crossing mark alone is left, or the match is lost.
use Rattle.std.proofs.Common.{◌≡◌, ◌⊎◌, inl, inr, ℕ, ◌-◌, ◌<◌, ◌≤◌, List, length, get_or, Some, None, arith}
use Rattle.glob_matcher.specs.declared.wildmatch.way.Way.{Way}
use Rattle.glob_matcher.specs.declared.wildmatch.marks.Mark.{Mark}
use Rattle.glob_matcher.specs.declared.wildmatch.state.Crossing.TheVariants as crossing
use Rattle.glob_matcher.specs.declared.wildmatch.state.State.{State}
use Rattle.glob_matcher.specs.Bytes.{NoSlash, slash}
use Rattle.glob_matcher.specs.Matching.{SplitsBy}
use Rattle.glob_matcher.specs.Private.States.{LaterLocal, StandsAt, IsLeft, IsMiss}
use Rattle.glob_matcher.proofs.lemmas.two_marks.States.{Stands-local}

module _ {way : Way} {p v : List ℕ} where
  -- Without a local mark, or where it cannot move, the crossing mark alone is left.
  pub left_without : {state : State} → IsMiss way p v state → state.local ≡ None → IsLeft way p v state.crossing
  left_without {state} miss is =
      let st : StandsAt way p v (record state { local = None }) = Stands-local miss.stands is in
      record {
        sound = st.sound_crossing;
        complete = λ whole. elim (st.complete whole) [
          | inl all ↦ absurd (miss.missed all)
          | inr (inl later) ↦ absurd later
          | inr (inr later) ↦ later
        ];
        crossing = st.crossing;
      }

  pub left_stuck : {state : State} {m : Mark} → IsMiss way p v state → state.local ≡ Some m
      → (length v ≤ m.at) ⊎ (get_or v m.at 0 ≡ slash) → IsLeft way p v state.crossing
  left_stuck {state} {m} miss is stuck =
      let st : StandsAt way p v (record state { local = Some m }) = Stands-local miss.stands is in
      record {
        sound = st.sound_crossing;
        complete = λ whole. elim (st.complete whole) [
          | inl all ↦ absurd (miss.missed all)
          | inr (inl later) ↦ absurd (none later stuck)
          | inr (inr later) ↦ later
        ];
        crossing = st.crossing;
      } where
        none : LaterLocal way p v m.place m.at → (length v ≤ m.at) ⊎ (get_or v m.at 0 ≡ slash) → ⊥
        none later (inl past) = let x : m.at < later.e = later.past in let y : later.e ≤ length v = later.inside in omega arith
        none later (inr is) = later.bare.at m.at (omega arith) later.past is

  -- No crossing token was met, and nothing fits.
  pub unmet_left : IsLeft way p v crossing.Unmet → ¬ SplitsBy v p way
  unmet_left left whole = left.complete whole

  pub free_stuck : {m : Mark} → IsLeft way p v (crossing.Free m) → length v ≤ m.at → ¬ SplitsBy v p way
  free_stuck {m} left past whole =
      let later = left.complete whole in
      let x : m.at < later.e = later.past in let y : later.e ≤ length v = later.inside in omega arith

  pub dirs_stuck : {m : Mark} → IsLeft way p v (crossing.Dirs m) → NoSlash v m.at (length v) → ¬ SplitsBy v p way
  dirs_stuck {m} left bare whole =
      let later = left.complete whole in
      let x : m.at < later.e = later.after.past in
      let y : later.e ≤ length v = later.after.inside in
      bare.at (later.e - 1) (omega arith) (omega arith) later.after.slash
