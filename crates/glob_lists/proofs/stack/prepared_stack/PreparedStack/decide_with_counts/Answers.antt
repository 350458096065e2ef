-- The lists are those of the stack.
use Rattle.glob_lists.proofs.lemmas.Stack.StackLemmas.{Decides-asked}
use Rattle.glob_lists.proofs.stack.prepared_stack.PreparedStack.decide_with_counts.Goals as goal

pub returns-clause-exact : goal.returns-clause-exact
returns-clause-exact g c =
    Decides-asked g.T.Pattern.seen _ _ c.self.view_is c.question-question.result.path.now c.args.path.now c.question-question.result.rules c.decide.result c.question-question.ensures.path.0 c.question-question.ensures.path.1 c.decide.ensures.exact
