use Rattle.std.proofs.Common.{arith}
use Rattle.glob_matcher.specs.Private.Prices.{Steps, amount, amount_of}
use Rattle.glob_matcher.proofs.lemmas.two_marks.Budget.{allows_one, allows_start, within_limits}
use Rattle.glob_matcher.proofs.wildmatch.engine.Engine.search.Goals as goal

pub turns-init : goal.turns-init
turns-init g c =
    let m = g.M.Texts in
    record {
      stands = c.front-front.ensures.meaning;
      allows = λ measure. c.front-front.ensures.allows measure _ (allows_start measure m.way m.pattern m.value c.args.self.now);
      grows = c.front-front.ensures.grows;
    }

pub turns-smaller-in-On : goal.turns-smaller-in-On
unfolding amount_of amount
turns-smaller-in-On g c =
    let allows = c.in-On.ensures.allows Steps _ _ (omega arith) (c.turns.invariant.allows Steps) in
    let one = allows_one c.in-On.ensures.meaning.inside allows in
    omega (arith, one, c.in-On.ensures.progress)

pub turns-smaller : goal.turns-smaller
unfolding amount_of amount
turns-smaller g c =
    let missed = c.in-Miss.ensures.allows Steps _ _ (omega arith) (c.turns.invariant.allows Steps) in
    let one = allows_one c.in-Some.ensures.meaning.inside (c.in-Some.ensures.allows Steps _ missed) in
    omega (arith, one, c.in-Some.ensures.progress, c.in-Miss.ensures.progress)

pub returns-in-Match-clause-limits : goal.returns-in-Match-clause-limits
returns-in-Match-clause-limits g c =
    let m = g.M.Texts in
    within_limits m.pattern m.value c.args.self.now c.take_turn.new.self
    (λ measure. c.in-Match.ensures.allows measure _ _ (omega arith) (c.turns.invariant.allows measure))

pub returns-in-NoMatch-clause-limits : goal.returns-in-NoMatch-clause-limits
returns-in-NoMatch-clause-limits g c =
    let m = g.M.Texts in
    within_limits m.pattern m.value c.args.self.now c.take_turn.new.self
    (λ measure. c.in-NoMatch.ensures.allows measure _ _ (omega arith) (c.turns.invariant.allows measure))

pub returns-in-None-clause-limits : goal.returns-in-None-clause-limits
returns-in-None-clause-limits g c =
    let m = g.M.Texts in
    within_limits m.pattern m.value c.args.self.now c.backtrack.new.self
    (λ measure. c.in-None.ensures.allows measure _ (c.in-Miss.ensures.allows measure _ _ (omega arith) (c.turns.invariant.allows measure)))
