use Rattle.tree_answers.proofs.lemmas.PlainNames.{names_are_plain}
use Rattle.tree_answers.proofs.records.ToldPath.of_word.Goals as goal

pub invariant_of-result : goal.invariant_of-result
invariant_of-result c = record {
  plain = λ is. names_are_plain c.args.word.now (c.are_usual_names.ensures.names is);
  usual = λ is. c.are_usual_names.ensures.usual is;
  leads = λ is. c.are_usual_names.ensures.lead is;
}
