-- The counts are kept in the ledger that the blank one becomes.
use Rattle.glob_matcher.proofs.wildmatch.wildmatch.Given as goal

abbrev pub ghosts-with_new_counts : goal.ghosts-with_new_counts
ghosts-with_new_counts a = record { name = a.blank.name; parts = a.blank.parts }
