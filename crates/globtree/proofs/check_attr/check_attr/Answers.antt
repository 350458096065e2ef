use Rattle.std.proofs.Common.{◌≡◌, List, OnOk, ℕ, ap, if◌then◌else◌, map, sym, subst, ◌∙◌}
use Rattle.std.proofs.lemmas.Bool.{false≢true}
use Rattle.std.specs.Borrow.{Bor}
use Rattle.byte_streams.specs.Watched.{inner}
use Rattle.tree_commands.specs.CheckAttr as attributes
use Rattle.globtree.specs.Answers.{ReadsStates, TellsStates}
use Rattle.globtree.proofs.check_attr.check_attr.Goals as goal

pub returns-then-asked-clause-answered : goal.returns-then-asked-clause-answered
returns-then-asked-clause-answered g c answered =
    let see : Bor (List ℕ) → List ℕ = λ word. word.now in
    record {
      query = c.question_of-question.result;
      folds = _;
      quoting = _;
      cased = c.question_of-question.ensures.case;
      form = c.question_of-question.ensures.form;
      asks = c.question_of-question.ensures.asks ∙ ap (λ names. if c.args.asked.all then attributes.all else attributes.named names) (ap (map see) c.deref-3.ensures.value ∙ (c.in_ok-names.ensures ∙ ap (map see) c.deref-2.ensures.value));
      read = λ _. subst (λ r. OnOk r (ReadsStates c.question_of-question.result (g.I.Read.remaining (inner c.args.input.now)) (g.I.Read.remaining (inner c.run_check_attr-outcome.new.records)) (g.O.Write.contents (inner c.args.output.now)) (g.O.Write.contents (inner c.run_check_attr-outcome.new.writer)))) c.in_ok-answer_of.ensures c.run_check_attr-outcome.ensures.ok;
      told = λ is. absurd (false≢true (sym is ∙ c.if-asked.true));
    }

pub returns-clause-answered : goal.returns-clause-answered
returns-clause-answered g c answered =
    let see : Bor (List ℕ) → List ℕ = λ word. word.now in
    record {
      query = c.question_of-question.result;
      folds = _;
      quoting = _;
      cased = c.question_of-question.ensures.case;
      form = c.question_of-question.ensures.form;
      asks = c.question_of-question.ensures.asks ∙ ap (λ names. if c.args.asked.all then attributes.all else attributes.named names) (ap (map see) c.deref-3.ensures.value ∙ (c.in_ok-names.ensures ∙ ap (map see) c.deref-2.ensures.value));
      read = λ is. absurd (false≢true (sym c.if-asked.false ∙ is));
      told = λ _. subst (λ paths. TellsStates c.question_of-question.result paths (g.O.Write.contents (inner c.args.output.now)) (g.O.Write.contents (inner c.check_attr_paths-outcome.new.writer))) (ap (map see) c.deref-5.ensures.value ∙ (c.in_ok-paths.ensures ∙ ap (map see) c.deref-4.ensures.value))
          (subst (λ r. OnOk r (TellsStates c.question_of-question.result (map see c.deref-5.result.now) (g.O.Write.contents (inner c.args.output.now)) (g.O.Write.contents (inner c.check_attr_paths-outcome.new.writer)))) c.in_ok-answer_of-2.ensures c.check_attr_paths-outcome.ensures.ok);
    }
