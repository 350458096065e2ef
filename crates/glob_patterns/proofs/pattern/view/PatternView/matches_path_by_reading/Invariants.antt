-- The counts are kept in the ledger that the blank one becomes.
use Rattle.glob_patterns.proofs.pattern.view.PatternView.matches_path_by_reading.Given as goal

abbrev pub ghosts-answers_with_new_counts : goal.ghosts-answers_with_new_counts
ghosts-answers_with_new_counts a = record { name = a.blank.name; parts = a.blank.parts }
