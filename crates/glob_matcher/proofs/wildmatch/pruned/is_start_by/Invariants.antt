-- Tokens spell the pattern up to here, and an attempt's start lies ahead, if it is one.
use Rattle.std.proofs.Common.{◌-◌, length}
use Rattle.glob_matcher.proofs.lemmas.reading.Starts.{Scan}
use Rattle.glob_matcher.proofs.wildmatch.pruned.is_start_by.Given as goal

abbrev pub invariant-tokens : goal.invariant-tokens
invariant-tokens l = Scan l.way l.pattern l.place l.start

abbrev pub decreases-tokens : goal.decreases-tokens
decreases-tokens l = length l.pattern - l.start
