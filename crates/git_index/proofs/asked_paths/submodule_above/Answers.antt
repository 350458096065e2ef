use Rattle.std.proofs.Common.{length-take, sym, ◌∙◌, arith}
use Rattle.std.proofs.lemmas.Bool.{false≢true}
use Rattle.git_index.proofs.lemmas.AskedPaths.{goes_on, lies_in, lies_within}
use Rattle.git_index.proofs.asked_paths.submodule_above.Goals as goal

pub returns-then-ends_submodule-clause-some : goal.returns-then-ends_submodule-clause-some
returns-then-ends_submodule-clause-some c =
    let ends = c.ends_submodule.ensures.0 c.if-ends_submodule.true in
    (lies_in c.args.index.now c.args.asked.now c.loop-place.place 0 (omega arith) ends.0 ends.1, λ other lies. omega (arith, c.loop-place.invariant other lies, length-take c.loop-place.place c.args.asked.now))

pub loop-place-preserved : goal.loop-place-preserved
loop-place-preserved c =
    goes_on c.args.index.now c.args.asked.now c.loop-place.place 0 (λ slash submodule. false≢true (sym c.if-ends_submodule.false ∙ c.ends_submodule.ensures.1 (slash, submodule))) c.loop-place.invariant

pub returns-clause-none : goal.returns-clause-none
returns-clause-none c = λ path lies. absurd (omega (arith, lies_within c.args.index.now c.args.asked.now path lies, c.loop-place.invariant path lies))
