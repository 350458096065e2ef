use Rattle.std.proofs.Common.{false, true, refl, subst, sym, arith}
use Rattle.glob_matcher.specs.declared.wildmatch.sets.SetPart.{SetPart}
use Rattle.glob_matcher.specs.Private.Reader.{IsPartRead}
use Rattle.glob_matcher.proofs.lemmas.reading.LookLemmas.{part_first, sign_inside}
use Rattle.glob_matcher.proofs.wildmatch.engine.Engine.set_opening.Goals as goal

pub returns-then-has_sign-clause-read : goal.returns-then-has_sign-clause-read
returns-then-has_sign-clause-read g c = λ b.
    let sign = c.if-has_sign.ensures.answer in
    subst (λ (x : SetPart). IsPartRead g.M.Texts.way g.M.Texts.pattern b x) (sym c.opened.ensures)
    (part_first c.args.place true c.requires sign (sign_inside c.args.place (sign.0 refl)))

pub returns-clause-read : goal.returns-clause-read
returns-clause-read g c = λ b.
    subst (λ (x : SetPart). IsPartRead g.M.Texts.way g.M.Texts.pattern b x) (sym c.opened-2.ensures)
    (part_first c.args.place false c.requires c.if-has_sign.ensures.answer (let inside = c.requires.inside in omega arith))
