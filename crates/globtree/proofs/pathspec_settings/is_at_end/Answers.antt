use Rattle.std.proofs.lemmas.Bool.{eqb-true}
use Rattle.globtree.proofs.pathspec_settings.is_at_end.Goals as goal

pub returns-clause-kept : goal.returns-clause-kept
returns-clause-kept g c = λ yes.
    let none = eqb-true c.in_ok-read.field-0 0 yes in
    rw none at c.in_ok-read.ensures.bytes.0
