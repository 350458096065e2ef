-- The lists are those of the stack.
use Rattle.glob_lists.proofs.lemmas.Stack.StackLemmas.{Decides-asked}
use Rattle.glob_lists.proofs.stack.prepared_stack.PreparedStack.decide_and_count_with_new_counts.Goals as goal

pub returns-clause-decides : goal.returns-clause-decides
returns-clause-decides g c =
    Decides-asked g.T.Pattern.seen _ _ c.self.view_is c.question-question.result.path.now c.args.path.now c.question-question.result.rules c.decide-pair.result c.question-question.ensures.path.0 c.question-question.ensures.path.1 c.decide-pair.ensures.exact
