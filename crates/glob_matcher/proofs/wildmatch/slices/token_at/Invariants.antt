-- The counts are kept in the ledger that the blank one becomes.
use Rattle.glob_matcher.proofs.wildmatch.slices.token_at.Given as goal

abbrev pub ghosts-token_with_counts : goal.ghosts-token_with_counts
ghosts-token_with_counts a = record { name = a.blank.name; parts = a.blank.parts }

abbrev pub ghosts-set_with_counts : goal.ghosts-set_with_counts
ghosts-set_with_counts a = record { name = a.blank.name; parts = a.blank.parts }
