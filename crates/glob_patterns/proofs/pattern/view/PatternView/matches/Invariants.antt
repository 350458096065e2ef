-- The counts are kept in the ledger that the blank one becomes.
use Rattle.glob_patterns.proofs.pattern.view.PatternView.matches.Given as goal

abbrev pub ghosts-matches_with_new_counts : goal.ghosts-matches_with_new_counts
ghosts-matches_with_new_counts a = record { name = a.blank.name; parts = a.blank.parts }
