use Rattle.std.proofs.Common.{◌∙◌, ◌∷◌, length, arith, ap}
use Rattle.std.proofs.lemmas.Grind.{common_steps}
use Rattle.gix_glob.proofs.lemmas.PathParts.{parts-by_piece, parts-by_slash}
use Rattle.gix_glob.proofs.search.parts.PartsIterator.next.Goals as goal

pub returns-then-first-ne47-clause-steps : goal.returns-then-first-ne47-clause-steps
returns-then-first-ne47-clause-steps c =
    let front = parts-by_piece c.args.self.now.rest.now c.in-Some.first.now c.in-Some.others.now c.in-Some.ensures.cases.0 c.if-first-ne47.true in
    grind (arith, common_steps, front)

pub returns-then-first-ne47-clause-goes : goal.returns-then-first-ne47-clause-goes
returns-then-first-ne47-clause-goes c =
    let shorter = ap length (returns-then-first-ne47-clause-steps c) in
    search (arith, shorter)

pub returns-in-Some-clause-steps : goal.returns-in-Some-clause-steps
returns-in-Some-clause-steps c =
    let front = parts-by_slash c.args.self.now.rest.now c.in-Some.others.now (c.in-Some.ensures.cases.0 ∙ ap (λ b. b ∷ c.in-Some.others.now) c.if-first-ne47.false) in
    grind (arith, common_steps, front)

pub returns-in-Some-clause-goes : goal.returns-in-Some-clause-goes
returns-in-Some-clause-goes c =
    let shorter = ap length (returns-in-Some-clause-steps c) in
    search (arith, shorter)
