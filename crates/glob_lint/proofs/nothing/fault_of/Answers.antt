-- The tokens of the line match no path.
use Rattle.glob_lint.specs.Private.Rows.{row_of}
use Rattle.glob_lint.proofs.lemmas.Coverings.{none_met}
use Rattle.glob_lint.proofs.nothing.fault_of.Goals as goal

pub returns-in-Some : goal.returns-in-Some
returns-in-Some c = λ yes.
    none_met c.args.line.now (row_of c.in-Some.tokens) c.args.rules c.in-Git.is c.in-Some.ensures c.way_of.result c.way_of.ensures (c.fault_in.ensures yes)
