-- The counts are kept in the ledger that the blank one becomes.
use Rattle.glob_lists.proofs.stack.prepared_stack.PreparedStack.matches_into.Given as goal

abbrev pub ghosts-matches_with_new_counts : goal.ghosts-matches_with_new_counts
ghosts-matches_with_new_counts g a = record { name = a.blank.name; parts = a.blank.parts }
