use Rattle.std.proofs.Common.{ℕ, List, subst, sym}
use Rattle.glob_matcher.specs.declared.wildmatch.way.Way.{Way}
use Rattle.glob_matcher.specs.Private.Reader.{IsSetRead}
use Rattle.glob_matcher.proofs.wildmatch.slices.set_over.Goals as goal

pub returns : goal.returns
returns g c =
    subst (λ (way : Way). IsSetRead way c.args.pattern.now c.args.place c.args.byte c.set_by_items-set.result) (sym c.requires.way)
    (subst (λ (text : List ℕ). IsSetRead g.M.Texts.way text c.args.place c.args.byte c.set_by_items-set.result) (sym c.requires.pattern)
    c.set_by_items-set.ensures.read)
