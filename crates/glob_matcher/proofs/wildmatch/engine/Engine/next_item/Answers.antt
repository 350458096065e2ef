use Rattle.std.proofs.Common.{◌≡◌, ◌∙◌, false, true, sym}
use Rattle.glob_matcher.proofs.lemmas.reading.Walks.{no_items_outside, no_items_here}
use Rattle.glob_matcher.proofs.wildmatch.engine.Engine.next_item.Goals as goal

pub returns-in_default-clause-item : goal.returns-in_default-clause-item
returns-in_default-clause-item g c =
    no_items_outside g.M.Texts.pattern c.args.cursor.is_first c.args.cursor.low c.args.cursor.place c.in_default.ensures.byte

pub returns-in-None-clause-item : goal.returns-in-None-clause-item
returns-in-None-clause-item g c =
    no_items_here g.M.Texts.pattern c.args.cursor.is_first c.args.cursor.low c.args.cursor.place
    (λ later here. let wrong : false ≡ true = c.if-closes.ensures.1 (later, sym c.in-Some.ensures.byte.is ∙ here.is) in cc)
    c.in-None.ensures.answer
