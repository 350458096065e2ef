use Rattle.std.proofs.Common.{ℕ, ap, subst, arith}
use Rattle.glob_matcher.specs.declared.wildmatch.way.Way.{Way}
use Rattle.glob_matcher.specs.Sets.{item_holds}
use Rattle.glob_matcher.specs.Private.Looks.{LookedOver, read_end}
use Rattle.glob_matcher.specs.Private.Reader.{IsSetRead}
use Rattle.glob_matcher.proofs.lemmas.reading.LookLemmas.{paid_less}
use Rattle.glob_matcher.proofs.wildmatch.engine.Engine.set_by_items.Goals as goal

pub rest_of_set-requires-clause-read : goal.rest_of_set-requires-clause-read
rest_of_set-requires-clause-read g c = c.set_opening-opening.ensures.read c.args.byte

pub rest_of_set-requires-clause-alike : goal.rest_of_set-requires-clause-alike
rest_of_set-requires-clause-alike g c = λ item. ap (λ (w : Way). item_holds w c.args.byte item) c.way.ensures

pub returns-clause-read : goal.returns-clause-read
returns-clause-read g c =
    subst (λ (n : ℕ). IsSetRead g.M.Texts.way g.M.Texts.pattern n c.args.byte c.rest_of_set.result)
    c.set_opening-opening.ensures.place c.rest_of_set.ensures.read

pub returns-clause-count : goal.returns-clause-count
returns-clause-count g c =
    let paid =
    paid_less {spare = 0} {n = 3} c.set_opening-opening.ensures.count (record { steps = omega arith; looks = omega arith; low = omega arith }) in
    subst (λ (n : ℕ). LookedOver 4 c.args.self.now c.rest_of_set.new.self n (read_end g.M.Texts.pattern c.rest_of_set.result))
    c.set_opening-opening.ensures.place (c.rest_of_set.ensures.count c.args.self.now paid)
