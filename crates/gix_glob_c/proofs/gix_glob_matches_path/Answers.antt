-- The line was read, and has no other reading.
use Rattle.std.proofs.Common.{None, refl}
use Rattle.glob_lists.proofs.lemmas.Deciding.Answering.{AnswersUnder-tested}
use Rattle.gix_glob_c.proofs.gix_glob_matches_path.Goals as goal

pub returns-clause-exact : goal.returns-clause-exact
returns-clause-exact c = λ entry read path.
    let view = c.in-Some.view in
    let asked = c.in-Some-path_of_file.path in
    let same = c.line_has_one_reading.ensures _ _ _ _ _ _ _ _ c.in-Some.ensures.reads read in
    rw c.rules_of.ensures at (rw c.in-Some-path_of_file.ensures.1 at
    (AnswersUnder-tested None asked.bytes asked.is_dir c.rules_of.result entry asked.bytes refl view.text.now view.mode asked.is_dir c.is_matched_by.result same.0 same.1 refl
    (c.is_matched_by.ensures c.in-Some.ensures.lawful)))
