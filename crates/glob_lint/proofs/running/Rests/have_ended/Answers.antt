-- Both lines are at their ends.
use Rattle.std.proofs.lemmas.Bool.{false≢true}
use Rattle.glob_lint.specs.Private.Rows.{row_of}
use Rattle.glob_lint.proofs.lemmas.Running.{both_ended}
use Rattle.glob_lint.proofs.running.Rests.have_ended.Goals as goal

pub returns-in-None-None : goal.returns-in-None-None
returns-in-None-None c = λ yes.
    both_ended c.args.way (row_of c.args.self.now.left) (row_of c.args.self.now.right) c.in-None-None.ensures c.in-None-None.ensures'

pub returns-in_default : goal.returns-in_default
returns-in_default c = λ no. absurd (false≢true no)

pub returns-in_default-2 : goal.returns-in_default-2
returns-in_default-2 c = λ no. absurd (false≢true no)
