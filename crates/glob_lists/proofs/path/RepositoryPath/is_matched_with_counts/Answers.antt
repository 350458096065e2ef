-- The place that is kept is where the last part begins.
use Rattle.glob_lists.proofs.lemmas.Deciding.Answering.{AnswersAs-told, AnswersFor-tested}
use Rattle.glob_lists.proofs.path.RepositoryPath.is_matched_with_counts.Goals as goal

pub returns-clause-exact : goal.returns-clause-exact
returns-clause-exact g c lawful =
    let told = AnswersAs-told c.args.rules.reading _ _ _ _ _ _ _ _ c.is_git.ensures (c.matches_path_by_reading_with_counts.ensures.by_crate lawful) (c.matches_path_by_reading_with_counts.ensures.by_git lawful) in
    rw (← c.self.view_is) (AnswersFor-tested _ _ _ _ c.args.rules _ c.self.invariant.basename _ told)
