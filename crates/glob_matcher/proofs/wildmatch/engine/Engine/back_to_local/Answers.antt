use Rattle.std.proofs.Common.{◌+◌, ◌-◌, ◌*◌, ℕ, Some, inr, ap, refl, arith}
use Rattle.glob_matcher.proofs.lemmas.two_marks.States.{Stands-places, miss_of}
use Rattle.glob_matcher.proofs.lemmas.two_marks.StuckMarks.{left_stuck, left_without}
use Rattle.glob_matcher.proofs.lemmas.two_marks.Prices.{NeverFall-same, Takes-both, Takes-grows, TakesExactly-at_most, amount-same, move-over, move-price, scan-price}
use Rattle.glob_matcher.proofs.lemmas.two_marks.Budget.{Allows-places, allows_less, allows_missed, left_less}
use Rattle.glob_matcher.proofs.lemmas.two_marks.MovedMarkCosts.{left_missed, left_stuck_counts}
use Rattle.glob_matcher.proofs.lemmas.two_marks.Scans.{IsLocalPast, allows_found, local_scanned, local_scanned_counts, none_of, stands_found}
use Rattle.glob_matcher.proofs.wildmatch.engine.Engine.back_to_local.Goals as goal

pub returns-in_default : goal.returns-in_default
returns-in_default g c =
    record {
      meaning = left_without c.requires (none_of c.args.state.local c.in_default.not-Some);
      allows = λ measure n a. left_missed c.requires.stands.inside a;
      progress = tt;
      grows = NeverFall-same;
    }

pub returns-in_default-pass_within_or_end : goal.returns-in_default-pass_within_or_end
returns-in_default-pass_within_or_end g c =
    let stuck = c.in_default-pass_within_or_end.ensures.unable in
    let pass = TakesExactly-at_most c.pass_within_or_end.ensures.count in
    record {
      meaning = left_stuck c.requires c.in-Some.is stuck;
      allows = λ measure n a.
          left_less (move-price measure pass (omega arith) (omega arith)) (left_stuck_counts a c.in-Some.is stuck);
      progress = tt;
      grows = Takes-grows pass;
    }

pub returns-in-Blocked : goal.returns-in-Blocked
returns-in-Blocked g c =
    let moved = c.in-Some-pass_within_or_end.ensures.moved in
    let so = c.in-Blocked.ensures in
    let passed = 2 * (c.in-Blocked.field-0.at - c.in-Some-pass_within_or_end.moved.at) in
    let pass = TakesExactly-at_most c.pass_within_or_end.ensures.count in
    let reached = local_scanned c.requires c.in-Some.is moved.2 moved.3 moved.0 moved.1 so in
    record {
      meaning = left_stuck (miss_of reached so.met.2) refl (inr so.met.1);
      allows = λ measure n a.
          left_less (omega (arith, move-over measure, scan-price measure passed 2 5 (Takes-both pass so.takes) (omega arith) (omega arith)))
          (left_stuck_counts (allows_missed (local_scanned_counts c.requires c.in-Some.is moved.2 moved.3 moved.0 moved.1 so a)) refl
          (inr so.met.1));
      progress = tt;
      grows = Takes-grows (Takes-both pass so.takes);
    }

pub returns-in-Undecided : goal.returns-in-Undecided
returns-in-Undecided g c =
    let moved = c.in-Some-pass_within_or_end.ensures.moved in
    let so = c.in-Undecided.ensures in
    let passed = 2 * (c.in-Undecided.reached.at - c.in-Some-pass_within_or_end.moved.at) in
    let pass = TakesExactly-at_most c.pass_within_or_end.ensures.count in
    record {
      meaning =
          Stands-places (local_scanned c.requires c.in-Some.is moved.2 moved.3 moved.0 moved.1 so) c.place.ensures c.at.ensures;
      allows = λ measure n a.
          Allows-places
          (allows_less (omega (arith, amount-same measure 0, scan-price measure passed 0 0 (Takes-both pass so.takes) (omega arith) (omega arith)))
          (local_scanned_counts c.requires c.in-Some.is moved.2 moved.3 moved.0 moved.1 so a))
          c.place.ensures c.at.ensures;
      progress = omega (arith, so.takes.steps, pass.steps);
      grows = Takes-grows (Takes-both pass so.takes);
    }

pub returns-in-Found : goal.returns-in-Found
returns-in-Found g c =
    let moved = c.in-Some-pass_within_or_end.ensures.moved in
    let so = c.in-Found.ensures in
    let passed = 2 * (c.in-Found.found.at - c.in-Some-pass_within_or_end.moved.at) in
    let pass = TakesExactly-at_most c.pass_within_or_end.ensures.count in
    let past : IsLocalPast g.M.Texts.pattern c.in-Found.found.place (Some c.in-Found.found) c.local_past.result = record { at_slash = c.local_past.ensures.at_slash; at_other = c.local_past.ensures.at_other } in
    let all = Takes-both (Takes-both pass so.takes) c.local_past.ensures.count in
    let reached = local_scanned c.requires c.in-Some.is moved.2 moved.3 moved.0 moved.1 so in
    let place = ap (λ (x : ℕ). x + 1) c.place-in-Found.ensures in
    let at = ap (λ (x : ℕ). x + 1) c.at-in-Found.ensures in
    record {
      meaning = Stands-places (stands_found reached so.met past) place at;
      allows = λ measure n a.
          Allows-places
          (allows_less (scan-price measure passed 1 8 all (omega arith) (omega arith))
          (allows_found reached (local_scanned_counts c.requires c.in-Some.is moved.2 moved.3 moved.0 moved.1 so a) so.met past))
          place at;
      progress = omega (arith, so.takes.steps, pass.steps, c.local_past.ensures.count.steps);
      grows = Takes-grows all;
    }
