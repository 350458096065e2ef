-- Each candidate is a line of the lists.
use Rattle.std.proofs.lemmas.Option.{slice_get-get_or}
use Rattle.glob_lint.proofs.why.best_cover.Goals as goal

pub rank_of-rank-requires-clause-there : goal.rank_of-rank-requires-clause-there
rank_of-rank-requires-clause-there c = c.requires.there c.candidates.x _ (slice_get-get_or c.args.candidates.now c.candidates.x (0, 0) c.candidates-test.true)

pub is_covered-requires-clause-there : goal.is_covered-requires-clause-there
is_covered-requires-clause-there c = c.requires.there c.candidates.x _ (slice_get-get_or c.args.candidates.now c.candidates.x (0, 0) c.candidates-test.true)
