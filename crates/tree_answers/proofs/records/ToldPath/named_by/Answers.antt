use Rattle.std.proofs.Common.{refl}
use Rattle.tree_answers.proofs.lemmas.PlainNames.{names_are_plain}
use Rattle.tree_answers.proofs.lemmas.RecordLemmas.{names_usual}
use Rattle.tree_answers.proofs.records.ToldPath.named_by.Goals as goal

pub invariant_of-result : goal.invariant_of-result
invariant_of-result c = record {
  plain = λ _. names_are_plain c.args.bytes.now (c.if-are_usual_names.ensures.names refl);
  usual = λ _. c.if-are_usual_names.ensures.usual refl;
  leads = λ _. c.if-are_usual_names.ensures.lead refl;
}

pub returns-then-are_usual_names : goal.returns-then-are_usual_names
returns-then-are_usual_names c = names_usual c.args.form c.args.bytes.now (c.if-are_usual_names.ensures.usual refl)
