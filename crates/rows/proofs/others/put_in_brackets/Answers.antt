-- Each record goes on what was read, written and put in brackets before it.
use Rattle.std.proofs.Common.{◌≡◌, ◌++◌, codes, refl, rules}
use Rattle.byte_streams.proofs.lemmas.ProgressLemmas.{IsRunning-answered, IsRunning-first}
use Rattle.rows.proofs.others.put_in_brackets.Goals as goal

pub records-init : goal.records-init
records-init g c = record {
  readable = c.requires.readable;
  writable = c.requires.writable;
  running = IsRunning-first _ _ _ refl c.new-records.result c.new-text.result.items c.new-text.ensures.items c.new-records.ensures tt _ _;
}

pub next-requires-clause-under_way : goal.next-requires-clause-under_way
next-requires-clause-under_way g c = let running = c.records.invariant.running in (_, _, _, running.given, running.all, running.way)

pub records-preserved : goal.records-preserved
records-preserved g c = record {
  readable = search rules;
  writable = search rules;
  running = IsRunning-answered _ _ _ _ _ _ _ _ c.records.invariant.running _ _ c.next.new.bytes.items _ _ (c.in_ok-next.ensures.gives c.if-branch.true) (λ _ _. Unit {0}) (codes "<" ++ (c.next.new.bytes.items ++ codes ">")) _ (rw c.deref.ensures.value at c.in_ok-append_in_brackets.ensures) (λ _ _ _. tt);
}
