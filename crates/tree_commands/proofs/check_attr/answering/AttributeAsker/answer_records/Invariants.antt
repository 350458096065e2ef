-- The records so far were answered, and no call failed.
use Rattle.std.proofs.Common.{◌≡◌, false}
use Rattle.byte_streams.specs.Progress.{fuel}
use Rattle.byte_streams.specs.Records.{TextOf}
use Rattle.byte_streams.specs.Watched.{has_failed, inner}
use Rattle.byte_streams.proofs.lemmas.ProgressLemmas.{IsRunning}
use Rattle.tree_answers.specs.Lines.{behind}
use Rattle.tree_answers.specs.Records.{IsTextOf}
use Rattle.tree_commands.specs.Private.AttributeAnswers.{IsReady}
use Rattle.tree_commands.proofs.check_attr.answering.AttributeAsker.answer_records.Given as goal

abbrev pub invariant-records : goal.invariant-records
invariant-records g l = record {
  readable : has_failed l.reader ≡ false;
  writable : has_failed l.writer ≡ false;
  ready : IsReady g.Q.Question.files g.Q.Question.asked g.Q.Question.case g.Q.Question.shows g.Q.Question.allows g.S.AttributeFolders.shows l.self;
  form : l.self.form ≡ l.fn.self.form;
  running : IsRunning (TextOf (IsTextOf g.Q.Question.allows l.fn.self.form)) (behind l.fn.self.form 10) l.records l.text.items
      (g.R.Read.remaining (inner l.fn.reader)) (g.R.Read.remaining (inner l.reader)) (g.W.Write.contents (inner l.fn.writer)) (g.W.Write.contents (inner l.writer));
}

abbrev pub decreases-records : goal.decreases-records
decreases-records g l = fuel l.records
