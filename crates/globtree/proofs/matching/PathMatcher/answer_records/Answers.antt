-- Each record goes on what was read, answered and written before it.
use Rattle.std.proofs.Common.{◌≡◌, Bool, ap, sym, take, arith, rules, length}
use Rattle.std.specs.Prelude.{◌||◌}
use Rattle.std.proofs.lemmas.Grind.{common_steps}
use Rattle.byte_streams.proofs.lemmas.ProgressLemmas.{IsRunning-answered, IsRunning-failed, IsRunning-finished, IsRunning-first, IsRunning-stopped}
use Rattle.globtree.proofs.lemmas.MatchLemmas.{longer_by, no_record_told, record_told}
use Rattle.globtree.proofs.matching.PathMatcher.answer_records.Goals as goal

pub records-init : goal.records-init
records-init g c = record {
  readable = c.requires.readable;
  writable = c.requires.writable;
  running = IsRunning-first _ _ _ c.end.ensures c.new-records.result c.new-text.result.items c.new-text.ensures.items c.new-records.ensures (no_record_told c.args.self.now) _ _;
}

pub next-requires-clause-under_way : goal.next-requires-clause-under_way
next-requires-clause-under_way g c = let running = c.records.invariant.running in (_, _, _, running.given, running.all, running.way)

pub returns-in_err-next : goal.returns-in_err-next
returns-in_err-next g c =
    IsRunning-failed _ _ _ _ _ _ _ _ c.records.invariant.running _ _ _ _ _ _ c.from_residual.result c.in_err-next.field-0.0 c.from_residual.ensures.1 (λ given all told. told.0) c.in_err-next.ensures.fails

pub returns-in-Err : goal.returns-in-Err
returns-in-Err g c =
    let same : take c.len-answered.result c.answer_record.new.text.items ≡ c.next.new.text.items = grind (arith, common_steps) in
    IsRunning-stopped _ _ _ _ _ _ _ _ c.records.invariant.running _ _ c.next.new.bytes.items _ _ (c.in_ok-next.ensures.gives c.if-branch.true) _ _ c.stop.result _ _ _ _
    (λ given all told. told.0) same (sym c.in_ok-next.ensures.read) c.stop.ensures.ends

pub records-preserved : goal.records-preserved
records-preserved g c =
    let step = rw c.deref.ensures.value at c.in_default.ensures.answered in
    let before : c.len-answered.result ≡ length c.next.new.text.items = search rules in
    let after : c.len.result ≡ length c.answer_record.new.text.items = search rules in
    let longer = longer_by c.next.new.text.items step.1 c.answer_record.new.text.items c.len-answered.result c.len.result step.4 before after in
    record {
      readable = search rules;
      writable = search rules;
      running = IsRunning-answered _ _ _ _ _ _ _ _ c.records.invariant.running _ _ _ _ _ (c.in_ok-next.ensures.gives c.if-branch.true) _ _ _ step.4
          (record_told c.args.self.now c.records.is_any _ c.next.new.bytes.items step.0 step.1 step.2 step.3 (ap (λ (b : Bool). c.records.is_any || b) longer));
    }

pub returns : goal.returns
returns g c =
    IsRunning-finished _ _ _ _ _ _ _ _ c.records.invariant.running _ _ _ _ _ _ _ (λ given all told. told) (sym c.in_ok-next.ensures.read) (sym c.in_ok-next.ensures.write) (c.in_ok-next.ensures.finished c.if-branch.false)
