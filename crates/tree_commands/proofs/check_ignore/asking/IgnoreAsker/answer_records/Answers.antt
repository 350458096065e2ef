-- Each record goes on what was read, answered and written before it.
use Rattle.std.proofs.Common.{◌≡◌, ◌∙◌, Bool, sym, subst, take, arith, rules}
use Rattle.std.proofs.lemmas.Grind.{common_steps}
use Rattle.byte_streams.proofs.lemmas.ProgressLemmas.{IsRunning-answered, IsRunning-failed, IsRunning-finished, IsRunning-first, IsRunning-stopped, all_weaker, none_refused}
use Rattle.tree_answers.specs.Records.{NamesPath}
use Rattle.tree_commands.specs.CheckIgnore.{Question}
use Rattle.tree_commands.specs.Private.Asking.{IsRecordFault, TellsLine, asked_by}
use Rattle.tree_commands.proofs.lemmas.IgnoreLemmas.{no_record_told, record_told, records_stay}
use Rattle.tree_commands.proofs.check_ignore.asking.IgnoreAsker.answer_records.Goals as goal

pub records-init : goal.records-init
records-init g c = record {
  readable = c.requires.readable;
  writable = c.requires.writable;
  asks = search rules;
  running = IsRunning-first _ _ _ c.end.ensures c.new-records.result c.new-text.result.items c.new-text.ensures.items c.new-records.ensures (no_record_told (asked_by g.K.PathKinds.known c.args.self.now) (g.S.FolderLists.shows (Unit {0}) c.args.self.now.finder.tree.source) c.args.self.now.flags.form c.args.self.now.is_any c.requires.none) _ _;
}

pub next-requires-clause-under_way : goal.next-requires-clause-under_way
next-requires-clause-under_way g c = let running = c.records.invariant.running in (_, _, _, running.given, running.all, running.way)

pub returns-in_err-next-clause-ends : goal.returns-in_err-next-clause-ends
returns-in_err-next-clause-ends g c =
    let shows = g.S.FolderLists.shows (Unit {0}) c.records.self.finder.tree.source in
    IsRunning-failed _ _ _ _ _ _ _ _ c.records.invariant.running _ _ _ _ _ _ c.from_residual.result c.in_err-next.field-0.0 c.from_residual.ensures.1
    (records_stay shows shows (λ _ _ same. same) (asked_by g.K.PathKinds.known c.args.self.now) c.records.self.is_any c.args.self.now.flags.form) c.in_err-next.ensures.fails

pub returns-in_err-next-clause-refused : goal.returns-in_err-next-clause-refused
returns-in_err-next-clause-refused g c = none_refused Bool (IsRecordFault (asked_by g.K.PathKinds.known c.args.self.now)) c.from_residual.result c.in_err-next.field-0.0 c.from_residual.ensures.1 c.in_err-next.ensures.none

pub returns-in-Err-clause-ends : goal.returns-in-Err-clause-ends
returns-in-Err-clause-ends g c =
    let before = g.S.FolderLists.shows (Unit {0}) c.records.self.finder.tree.source in
    let after = g.S.FolderLists.shows (Unit {0}) c.answer_record.new.self.finder.tree.source in
    let question = asked_by g.K.PathKinds.known c.args.self.now in
    let same : take c.len-answered.result c.answer_record.new.text.items ≡ c.next.new.text.items = grind (arith, common_steps) in
    IsRunning-stopped _ _ _ _ _ _ _ _ c.records.invariant.running _ _ c.next.new.bytes.items _ _ (c.in_ok-next.ensures.gives c.if-branch.true) _ _ c.stop.result _ _ _ _
    (records_stay before after c.answer_record.ensures.goes_on question c.records.self.is_any c.args.self.now.flags.form) same (sym c.in_ok-next.ensures.read) c.stop.ensures.ends

pub returns-in-Err-clause-refused : goal.returns-in-Err-clause-refused
returns-in-Err-clause-refused g c =
    let question = asked_by g.K.PathKinds.known c.args.self.now in
    all_weaker _ (IsRecordFault question) (λ told same. subst (IsRecordFault question) (sym same) (subst (λ (q : Question). IsRecordFault q c.in-Err.fault) c.records.invariant.asks c.in-Err.ensures.faults)) _ c.stop.ensures.fault

pub returns-in-Err-clause-asks : goal.returns-in-Err-clause-asks
returns-in-Err-clause-asks g c = c.answer_record.ensures.asks ∙ c.records.invariant.asks

pub records-preserved : goal.records-preserved
records-preserved g c =
    let before = g.S.FolderLists.shows (Unit {0}) c.records.self.finder.tree.source in
    let after = g.S.FolderLists.shows (Unit {0}) c.answer_record.new.self.finder.tree.source in
    let question = asked_by g.K.PathKinds.known c.args.self.now in
    let asks = c.records.invariant.asks in
    let step = rw c.deref.ensures.value at c.in_default.ensures.answered in
    let names = subst (λ (q : Question). NamesPath q.flags.form c.next.new.bytes.items step.0) asks step.1 in
    let tells = subst (λ (q : Question). TellsLine q after step.0 c.records.self.is_any c.answer_record.new.self.is_any c.next.new.text.items c.answer_record.new.text.items) asks step.2 in
    record {
      readable = search rules;
      writable = search rules;
      asks = c.answer_record.ensures.asks ∙ asks;
      running = IsRunning-answered _ _ _ _ _ _ _ _ c.records.invariant.running _ _ _ _ _ (c.in_ok-next.ensures.gives c.if-branch.true) _ _ _ tells.written
          (record_told before after c.answer_record.ensures.goes_on question c.records.self.is_any c.answer_record.new.self.is_any tells.is_counted step.0 tells.added tells.any tells.allowed c.args.self.now.flags.form c.next.new.bytes.items names);
    }

pub returns-clause-ends : goal.returns-clause-ends
returns-clause-ends g c =
    IsRunning-finished _ _ _ _ _ _ _ _ c.records.invariant.running _ _ _ _ _ _ _ (λ given all told. told) (sym c.in_ok-next.ensures.read) (sym c.in_ok-next.ensures.write) (c.in_ok-next.ensures.finished c.if-branch.false)
