use Rattle.std.proofs.Common.{◌∙◌, arith}
use Rattle.glob_matcher.proofs.lemmas.reading.LookLemmas.{paid_less}
use Rattle.glob_matcher.proofs.wildmatch.engine.Engine.plain_part.Goals as goal

pub items-preserved : goal.items-preserved
items-preserved g c =
    let so_far = c.items.invariant in
    let next = c.in-Some.ensures in
    record { read = next.read; place = next.place ∙ so_far.place; paid = λ before first. next.paid before (so_far.paid before first) }

pub items-smaller : goal.items-smaller
items-smaller g c = omega (arith, c.in-Some.ensures.onward, c.in-Some.ensures.read.inside)

pub returns-clause-count : goal.returns-clause-count
returns-clause-count g c = λ before first. paid_less {spare = 1} (c.items.invariant.paid before first) c.in_default.ensures.count
