use Rattle.std.proofs.Common.{◌≡◌, ◌∙◌, ℕ, ◌+◌, Bool, false, ap, refl, subst, sym, arith, rules}
use Rattle.glob_matcher.specs.Bytes.{folds}
use Rattle.glob_matcher.specs.declared.wildmatch.way.Way.{Way}
use Rattle.glob_matcher.specs.Private.Looks.{LookedOver, read_end}
use Rattle.glob_matcher.specs.Private.Reader.{IsSetRead, IsSetThatHolds, part_holds}
use Rattle.glob_matcher.proofs.lemmas.reading.LookLemmas.{item_of_plain, paid_less, part_read, search_front_here}
use Rattle.glob_matcher.proofs.wildmatch.engine.Engine.set_at.Goals as goal

pub plain_part-part-requires-clause-read : goal.plain_part-part-requires-clause-read
plain_part-part-requires-clause-read g c = c.set_opening-opening.ensures.read c.args.byte

pub rest_of_set-requires-clause-alike : goal.rest_of_set-requires-clause-alike
rest_of_set-requires-clause-alike g c =
    let off : folds g.M.Texts.way ≡ false = search rules in
    λ item. item_of_plain g.M.Texts.way off c.args.byte item

pub returns-then-closes_at-clause-read : goal.returns-then-closes_at-clause-read
returns-then-closes_at-clause-read g c =
    let part = c.plain_part-part.result in
    let closed = c.if-closes_at.ensures.answer.0 refl in
    let held = c.holds.ensures ∙ ap (λ (w : Way). part_holds w c.args.byte part) c.way.ensures in
    subst (λ (n : ℕ). IsSetThatHolds g.M.Texts.way g.M.Texts.pattern n c.args.byte (part.cursor.place + 1) c.holds.result)
    (c.plain_part-part.ensures.place ∙ c.set_opening-opening.ensures.place)
    (subst (λ (h : Bool). IsSetThatHolds g.M.Texts.way g.M.Texts.pattern part.place c.args.byte (part.cursor.place + 1) h) (sym held)
    (part_read c.plain_part-part.ensures.read (closed.0, closed.1, refl) closed.1.inside))

pub returns-then-closes_at-clause-count : goal.returns-then-closes_at-clause-count
returns-then-closes_at-clause-count g c =
    let part = c.plain_part-part.result in
    let paid =
    paid_less {spare = 0} (c.plain_part-part.ensures.count c.args.self.now c.set_opening-opening.ensures.count) c.closes_at.ensures.count in
    let closed = c.if-closes_at.ensures.answer.0 refl in
    let ahead = search_front_here g.M.Texts.pattern part.cursor.place part.cursor.close c.plain_part-part.ensures.read.known closed.1 in
    record {
      steps = paid.steps;
      looks = omega (arith, paid.looks, ahead, c.plain_part-part.ensures.place, c.set_opening-opening.ensures.place);
      low = paid.low;
    }

pub returns-clause-read : goal.returns-clause-read
returns-clause-read g c =
    subst (λ (n : ℕ). IsSetRead g.M.Texts.way g.M.Texts.pattern n c.args.byte c.rest_of_set.result)
    (c.plain_part-part.ensures.place ∙ c.set_opening-opening.ensures.place) c.rest_of_set.ensures.read

pub returns-clause-count : goal.returns-clause-count
returns-clause-count g c =
    let paid =
    paid_less {spare = 0} (c.plain_part-part.ensures.count c.args.self.now c.set_opening-opening.ensures.count) c.closes_at.ensures.count in
    subst (λ (n : ℕ). LookedOver 4 c.args.self.now c.rest_of_set.new.self n (read_end g.M.Texts.pattern c.rest_of_set.result))
    (c.plain_part-part.ensures.place ∙ c.set_opening-opening.ensures.place) (c.rest_of_set.ensures.count c.args.self.now paid)
