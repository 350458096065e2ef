-- Rows without an end are passed over as long as they come after all others.
use Rattle.std.proofs.Common.{◌≡◌, ◌∙◌, ◌-◌, ◌<◌, get_or, length, refl, arith}
use Rattle.std.proofs.lemmas.Bool.{iff_false}
use Rattle.std.proofs.lemmas.Option.{slice_get-get_or}
use Rattle.glob_lists.specs.declared.asks.row.Row.{Row}
use Rattle.glob_lists.specs.declared.list.walk.Walk.{Walk}
use Rattle.glob_lists.proofs.lemmas.Lists.WalkLemmas.{HasPassedTo-more, met_before, met_passes, met_walk, none_above_met, none_above_rest, rest_walk}
use Rattle.glob_lists.proofs.list.walk.Walk.next_other.Goals as goal

-- what stands for a row that isn't there
abbrev blank : Row
blank = record { asked = 0; before = record { 0 = 0 }; spare = 0; part = 0 }

pub others-init : goal.others-init
others-init g c = record {
  same = refl;
  passed = record {
    from = c.args.self.now.passed_from;
    low = omega arith;
    near = c.requires.other;
    above = c.requires.own;
    looks = record { steps = refl; from = omega arith; to = omega arith };
    at = λ heads probe chained start is. start;
    none = λ heads probe chained start is m row low below. absurd (omega (arith, low, below));
  };
}

pub back_to-before-requires-clause-low : goal.back_to-before-requires-clause-low
back_to-before-requires-clause-low g c = λ is.
    let believed = c.requires.believed is in
    let rows = c.args.rows.now in
    let place = c.in_ok-place.place in
    let near = c.others.invariant.passed.near in
    let far = c.others.invariant.passed.low in
    let there = slice_get-get_or rows place blank (omega (arith, c.in_ok-place.ensures, c.requires.within)) in
    let first = c.is_after.ensures.0 c.others-test.true in
    rw c.before-in-others.ensures (met_before rows c.args.own c.args.self.now c.args.counts.now c.others.counts c.others.other c.others.invariant.passed c.requires.latest
    believed.1.heads believed.0 believed.1.chained believed.1.at (c.requires.own_is is) place _ there first c.in_ok-place.ensures)

pub returns-then-needs_none_of-clause-chained : goal.returns-then-needs_none_of-clause-chained
returns-then-needs_none_of-clause-chained g c = λ heads probe chained at is_own.
    let rows = c.args.rows.now in
    let walk : Walk = c.args.self.now in
    let place = c.in_ok-place.place in
    let passed = c.others.invariant.passed in
    let near = passed.near in
    let far = passed.low in
    let within : place < length rows = omega (arith, c.in_ok-place.ensures, c.requires.within) in
    let there = slice_get-get_or rows place blank within in
    let first = c.is_after.ensures.0 c.others-test.true in
    let anew : place ≡ c.number-met.result - 1 = omega (arith, c.in_ok-place.ensures, c.number-met.ensures) in
    let low = met_before rows c.args.own walk c.args.counts.now c.others.counts c.others.other passed c.requires.latest heads probe chained at is_own place _ there first c.in_ok-place.ensures in
    let same : c.back_to-before.result ≡ (get_or rows place blank).before = c.back_to-before.ensures.same (rw c.before-in-others.ensures low) ∙ c.before-in-others.ensures in
    let has = (c.needs_none_of.ensures probe (rw c.others.invariant.same at.lacking)).0 c.if-needs_none_of.true in
    rw c.others.invariant.same (rw (← anew) (rw same (
      met_walk rows c.args.own walk c.args.counts.now c.others.counts c.others.other passed c.requires.latest heads probe chained at is_own place _ there first c.in_ok-place.ensures,
      (
        met_passes rows c.args.own walk c.args.counts.now c.others.counts c.others.other passed c.requires.latest heads probe chained at is_own place _ there first c.in_ok-place.ensures has,
        none_above_met rows c.args.own walk c.args.counts.now c.others.counts c.others.other passed c.requires.latest heads probe chained at is_own place _ there first c.in_ok-place.ensures,
      ),
    )))

pub others-preserved : goal.others-preserved
others-preserved g c =
    let rows = c.args.rows.now in
    let walk : Walk = c.args.self.now in
    let place = c.in_ok-place.place in
    let passed = c.others.invariant.passed in
    let near = passed.near in
    let far = passed.low in
    let within : place < length rows = omega (arith, c.in_ok-place.ensures, c.requires.within) in
    let first = c.is_after.ensures.0 c.others-test.true in record {
      same = c.others.invariant.same;
      passed = HasPassedTo-more rows c.args.own walk c.args.counts.now c.others.counts c.others.other passed c.requires.latest place _ c.back_to-before.result c.looks.new.self
          (slice_get-get_or rows place blank within) first c.in_ok-place.ensures c.back_to-before.ensures.below
          (λ low. c.back_to-before.ensures.same (rw c.before-in-others.ensures low) ∙ c.before-in-others.ensures)
          (λ probe lacks. iff_false (c.needs_none_of.ensures probe (rw c.others.invariant.same lacks)) c.if-needs_none_of.false)
          c.looks.ensures.steps c.looks.ensures.looks;
    }

pub returns-clause-chained : goal.returns-clause-chained
returns-clause-chained g c = λ heads probe chained at is_own.
    let walk : Walk = c.args.self.now in
    let not_first = iff_false c.is_after.ensures c.others-test.false in
    rw c.others.invariant.same (rw c.number-self.ensures (
      rest_walk c.args.rows.now c.args.own walk c.args.counts.now c.others.counts c.others.other c.others.invariant.passed c.requires.latest heads probe chained at is_own (omega (arith, not_first)),
      none_above_rest c.args.rows.now c.args.own walk c.args.counts.now c.others.counts c.others.other c.others.invariant.passed c.requires.latest heads probe chained at is_own (omega (arith, not_first)),
    ))
