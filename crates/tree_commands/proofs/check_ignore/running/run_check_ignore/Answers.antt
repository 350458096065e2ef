use Rattle.std.proofs.Common.{subst}
use Rattle.std.specs.List.{AllByRecursion}
use Rattle.byte_streams.specs.Faults.{told_refusal}
use Rattle.byte_streams.specs.Records.{TextOf}
use Rattle.byte_streams.specs.Runs.{EndsRun}
use Rattle.byte_streams.specs.Watched.{has_failed, inner}
use Rattle.tree_answers.specs.Lines.{behind}
use Rattle.tree_answers.specs.Records.{IsTextOf}
use Rattle.tree_commands.specs.Answering.{TextOfNamed}
use Rattle.tree_commands.specs.CheckIgnore.{IsIgnoreAnswer, IsIgnoreText, Question}
use Rattle.tree_commands.specs.Private.Asking.{IsRecordFault}
use Rattle.tree_commands.proofs.check_ignore.running.run_check_ignore.Goals as goal

pub returns-clause-ends : goal.returns-clause-ends
returns-clause-ends g c =
    let shows = g.S.FolderLists.shows (Unit {0}) c.answer_records-outcome.new.self.finder.tree.source in
    rw c.into_sources.ensures
    (subst (λ (q : Question). EndsRun (λ is_any. TextOfNamed (IsIgnoreText q shows is_any) q.flags.form) (TextOf (IsTextOf (IsIgnoreAnswer q shows) q.flags.form)) (behind q.flags.form 10) c.answer_records-outcome.result
    (g.R.Read.remaining (inner c.args.records.now)) (g.R.Read.remaining (inner c.answer_records-outcome.new.reader)) (g.W.Write.contents (inner c.args.writer.now)) (g.W.Write.contents (inner c.answer_records-outcome.new.writer))
    (has_failed c.answer_records-outcome.new.reader) (has_failed c.answer_records-outcome.new.writer)) c.new-asker.ensures.asks c.answer_records-outcome.ensures.ends)

pub returns-clause-refused : goal.returns-clause-refused
returns-clause-refused g c = subst (λ (q : Question). AllByRecursion (IsRecordFault q) (told_refusal c.answer_records-outcome.result)) c.new-asker.ensures.asks c.answer_records-outcome.ensures.refused
