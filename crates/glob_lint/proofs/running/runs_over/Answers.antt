-- At the ends of both lines the search has come to a yes.
use Rattle.glob_lint.proofs.running.runs_over.Goals as goal

pub returns-then-have_ended : goal.returns-then-have_ended
returns-then-have_ended c = λ yes. c.turns.invariant.at (c.have_ended.ensures c.if-have_ended.true)
