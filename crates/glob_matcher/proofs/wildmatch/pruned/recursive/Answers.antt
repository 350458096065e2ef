use Rattle.glob_matcher.proofs.lemmas.reading.WayLemmas.{modes_are_inexact}
use Rattle.glob_matcher.proofs.lemmas.pruned.AttemptLemmas.{whole_match, whole_no_match}
use Rattle.glob_matcher.proofs.wildmatch.pruned.recursive.Goals as goal

pub returns-in-Match : goal.returns-in-Match
returns-in-Match c = whole_match (c.attempt.ensures.split c.in-Match.is)

pub returns-in_default : goal.returns-in_default
returns-in_default c =
    whole_no_match (modes_are_inexact c.args.mode) c.attempt.ensures c.in_default.not-Match
