-- The records so far were answered, and no call failed.
use Rattle.std.proofs.Common.{◌≡◌, false}
use Rattle.byte_streams.specs.Progress.{fuel}
use Rattle.byte_streams.specs.Watched.{has_failed, inner}
use Rattle.byte_streams.proofs.lemmas.ProgressLemmas.{IsRunning}
use Rattle.tree_answers.specs.Lines.{behind}
use Rattle.tree_commands.specs.Answering.{TextOfNamed}
use Rattle.tree_commands.specs.CheckIgnore.{IsIgnoreText}
use Rattle.tree_commands.specs.Private.Asking.{asked_by}
use Rattle.tree_commands.proofs.check_ignore.asking.IgnoreAsker.answer_records.Given as goal

abbrev pub invariant-records : goal.invariant-records
invariant-records g l = record {
  readable : has_failed l.reader ≡ false;
  writable : has_failed l.writer ≡ false;
  asks : asked_by g.K.PathKinds.known l.self ≡ asked_by g.K.PathKinds.known l.fn.self;
  running : IsRunning (TextOfNamed (IsIgnoreText (asked_by g.K.PathKinds.known l.fn.self) (g.S.FolderLists.shows (Unit {0}) l.self.finder.tree.source) l.self.is_any) l.fn.self.flags.form)
      (behind l.fn.self.flags.form 10) l.records l.text.items
      (g.R.Read.remaining (inner l.fn.reader)) (g.R.Read.remaining (inner l.reader)) (g.W.Write.contents (inner l.fn.writer)) (g.W.Write.contents (inner l.writer));
}

abbrev pub decreases-records : goal.decreases-records
decreases-records g l = fuel l.records
