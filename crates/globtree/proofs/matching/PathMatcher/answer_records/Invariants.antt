-- The records so far were answered, and no call failed.
use Rattle.std.proofs.Common.{◌≡◌, false}
use Rattle.byte_streams.specs.Progress.{fuel}
use Rattle.byte_streams.specs.Watched.{has_failed, inner}
use Rattle.byte_streams.proofs.lemmas.ProgressLemmas.{IsRunning}
use Rattle.tree_answers.specs.Lines.{behind}
use Rattle.globtree.specs.Matching.{IsWholeText}
use Rattle.globtree.proofs.matching.PathMatcher.answer_records.Given as goal

abbrev pub invariant-records : goal.invariant-records
invariant-records g l = record {
  readable : has_failed l.reader ≡ false;
  writable : has_failed l.writer ≡ false;
  running : IsRunning (IsWholeText l.fn.self l.is_any) (behind l.fn.self.form 10) l.records l.text.items
      (g.R.Read.remaining (inner l.fn.reader)) (g.R.Read.remaining (inner l.reader)) (g.W.Write.contents (inner l.fn.writer)) (g.W.Write.contents (inner l.writer));
}

abbrev pub decreases-records : goal.decreases-records
decreases-records g l = fuel l.records
