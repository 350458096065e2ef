use Rattle.std.proofs.Common.{sym, ◌∙◌, arith}
use Rattle.git_index.proofs.lemmas.Folding.{lengths_decide}
use Rattle.git_index.proofs.folding.compare.Goals as goal

pub returns : goal.returns
returns c = c.cmp.ensures ∙ sym (c.loop-place.invariant ∙ lengths_decide c.args.path.now c.args.other.now c.loop-place.place (omega (arith, c.min-most.ensures)))
