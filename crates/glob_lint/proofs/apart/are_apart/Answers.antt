-- The ends of both lines differ.
use Rattle.glob_lint.specs.Private.Rows.{row_of}
use Rattle.glob_lint.proofs.lemmas.Beginning.{begun_apart}
use Rattle.glob_lint.proofs.lemmas.Coverings.{apart}
use Rattle.glob_lint.proofs.apart.are_apart.Goals as goal

pub returns-in-Some-Some : goal.returns-in-Some-Some
returns-in-Some-Some c = λ yes.
    let both = c.in-Some-Some in
    apart c.args.left.now c.args.right.now (row_of both.left) (row_of both.right) c.args.rules c.in-Git.is both.ensures both.ensures' c.way_of-way.result c.way_of-way.ensures
    c.literal_end.result.now c.literal_end-in-Some-Some.result.now c.literal_end.ensures c.literal_end-in-Some-Some.ensures (c.ends_differ.ensures yes)

pub returns-then-begin_apart : goal.returns-then-begin_apart
returns-then-begin_apart c = λ yes. begun_apart c.args.rules c.args.left.now c.args.right.now c.in-Git.is c.way_of-way.result c.way_of-way.ensures (c.begin_apart.ensures c.if-begin_apart.true)
