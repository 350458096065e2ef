-- Each record goes on what was read, answered and written before it.
use Rattle.std.proofs.Common.{◌≡◌, ◌∙◌, sym, subst, take, arith, rules, refl}
use Rattle.std.proofs.lemmas.Grind.{common_steps}
use Rattle.byte_streams.proofs.lemmas.ProgressLemmas.{IsRunning-answered, IsRunning-failed, IsRunning-finished, IsRunning-first, IsRunning-stopped}
use Rattle.tree_answers.specs.Records.{IsTextOf}
use Rattle.tree_commands.specs.Private.Answering.{Adds}
use Rattle.tree_commands.proofs.lemmas.AnswerLemmas.{text_more}
use Rattle.tree_commands.proofs.lemmas.AttributeRuns.{none_answered}
use Rattle.tree_commands.proofs.check_attr.answering.AttributeAsker.answer_records.Goals as goal

pub records-init : goal.records-init
records-init g c = record {
  readable = c.requires.readable;
  writable = c.requires.writable;
  ready = c.requires.ready;
  form = refl;
  running = IsRunning-first _ _ _ c.end.ensures c.new-records.result c.new-text.result.items c.new-text.ensures.items c.new-records.ensures (none_answered _) _ _;
}

pub next-requires-clause-under_way : goal.next-requires-clause-under_way
next-requires-clause-under_way g c = let running = c.records.invariant.running in (_, _, _, running.given, running.all, running.way)

pub returns-in_err-next : goal.returns-in_err-next
returns-in_err-next g c =
    IsRunning-failed _ _ _ _ _ _ _ _ c.records.invariant.running _ _ _ _ _ _ c.from_residual.result c.in_err-next.field-0.0 c.from_residual.ensures.1 (λ given all told. told) c.in_err-next.ensures.fails

pub returns-in-Err : goal.returns-in-Err
returns-in-Err g c =
    let same : take c.len-answered.result c.answer_record.new.text.items ≡ c.next.new.text.items = grind (arith, common_steps) in
    IsRunning-stopped _ _ _ _ _ _ _ _ c.records.invariant.running _ _ c.next.new.bytes.items _ _ (c.in_ok-next.ensures.gives c.if-branch.true) _ _ c.stop.result _ _ _ _
    (λ given all told. told) same (sym c.in_ok-next.ensures.read) c.stop.ensures.ends

pub records-preserved : goal.records-preserved
records-preserved g c =
    let form = c.records.invariant.form in
    let allowed = IsTextOf g.Q.Question.allows c.args.self.now.form in
    let written = rw c.deref.ensures.value at c.in_default.ensures.written in
    let adds = subst (λ f. Adds (IsTextOf g.Q.Question.allows f c.next.new.bytes.items) c.next.new.text.items c.answer_record.new.text.items) form written in
    record {
      readable = search rules;
      writable = search rules;
      ready = c.answer_record.ensures.ready;
      form = c.answer_record.ensures.form ∙ form;
      running = IsRunning-answered _ _ _ _ _ _ _ _ c.records.invariant.running _ _ _ _ _ (c.in_ok-next.ensures.gives c.if-branch.true) _ _ _ adds.grown
          (λ given all told. text_more allowed allowed (λ _ _ same. same) given all told c.next.new.bytes.items adds.added adds.allowed);
    }

pub returns : goal.returns
returns g c =
    IsRunning-finished _ _ _ _ _ _ _ _ c.records.invariant.running _ _ _ _ _ _ _ (λ given all told. told) (sym c.in_ok-next.ensures.read) (sym c.in_ok-next.ensures.write) (c.in_ok-next.ensures.finished c.if-branch.false)
