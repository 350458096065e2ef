use Rattle.std.proofs.Common.{◌+◌, ◌-◌, ◌*◌, ℕ, ap, arith}
use Rattle.glob_matcher.proofs.lemmas.two_marks.States.{Stands-places}
use Rattle.glob_matcher.proofs.lemmas.two_marks.MovedMarks.{stands_free_moved}
use Rattle.glob_matcher.proofs.lemmas.two_marks.StuckMarks.{free_stuck}
use Rattle.glob_matcher.proofs.lemmas.two_marks.Prices.{Takes-both, Takes-grows, TakesExactly-at_most, amount-same, move-price, scan-price}
use Rattle.glob_matcher.proofs.lemmas.two_marks.Budget.{Allows-places, allows_less}
use Rattle.glob_matcher.proofs.lemmas.two_marks.MovedMarkCosts.{allows_free_moved, free_stuck_counts}
use Rattle.glob_matcher.proofs.lemmas.two_marks.Scans.{allows_found, allows_free_skipped, stands_found, stands_free_skipped, unset_past}
use Rattle.glob_matcher.proofs.wildmatch.engine.Engine.back_to_free.Goals as goal

pub returns-in_default : goal.returns-in_default
returns-in_default g c =
    record {
      meaning = free_stuck c.requires c.in_default.ensures.unable;
      allows = λ measure n a. omega (arith, free_stuck_counts a, move-price measure (TakesExactly-at_most c.pass.ensures.count) (omega arith) (omega arith));
      progress = tt;
      grows = Takes-grows (TakesExactly-at_most c.pass.ensures.count);
    }

pub returns-in-Blocked : goal.returns-in-Blocked
returns-in-Blocked g c = absurd c.in-Blocked.ensures.met.1

pub returns-in-Undecided : goal.returns-in-Undecided
returns-in-Undecided g c =
    let moved = c.in-Some.ensures.moved in
    let so = c.in-Undecided.ensures in
    let x = c.in-Some.moved in
    let to = c.in-Undecided.reached in
    let passed = 2 * (to.at - x.at) in
    record {
      meaning =
          Stands-places (stands_free_skipped to (stands_free_moved x c.requires moved.2 moved.0 moved.1) so.same so.low so.inside so.missed)
          c.place.ensures c.at.ensures;
      allows = λ measure n a.
          Allows-places
          (allows_less (omega (arith, amount-same measure 0, scan-price measure passed 0 0 (Takes-both (TakesExactly-at_most c.pass.ensures.count) so.takes) (omega arith) (omega arith)))
          (allows_free_skipped to (allows_free_moved x moved.2 moved.0 moved.1 a) so.same so.low so.inside))
          c.place.ensures c.at.ensures;
      progress = omega (arith, so.takes.steps, c.pass.ensures.count.steps);
      grows = Takes-grows (Takes-both (TakesExactly-at_most c.pass.ensures.count) so.takes);
    }

pub returns-in-Found : goal.returns-in-Found
returns-in-Found g c =
    let moved = c.in-Some.ensures.moved in
    let so = c.in-Found.ensures in
    let x = c.in-Some.moved in
    let to = c.in-Found.found in
    let passed = 2 * (to.at - x.at) in
    let reached = stands_free_skipped to (stands_free_moved x c.requires moved.2 moved.0 moved.1) so.same so.low so.inside so.missed in
    record {
      meaning =
          Stands-places (stands_found reached so.met unset_past)
          (ap (λ (n : ℕ). n + 1) c.place-in-Found.ensures) (ap (λ (n : ℕ). n + 1) c.at-in-Found.ensures);
      allows = λ measure n a.
          Allows-places
          (allows_less (scan-price measure passed 1 8 (Takes-both (TakesExactly-at_most c.pass.ensures.count) so.takes) (omega arith) (omega arith))
          (allows_found reached (allows_free_skipped to (allows_free_moved x moved.2 moved.0 moved.1 a) so.same so.low so.inside) so.met unset_past))
          (ap (λ (n : ℕ). n + 1) c.place-in-Found.ensures) (ap (λ (n : ℕ). n + 1) c.at-in-Found.ensures);
      progress = omega (arith, so.takes.steps, c.pass.ensures.count.steps);
      grows = Takes-grows (Takes-both (TakesExactly-at_most c.pass.ensures.count) so.takes);
    }
