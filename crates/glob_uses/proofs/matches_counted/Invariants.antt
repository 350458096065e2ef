-- The counts are kept in the ledger that the blank one becomes.
use Rattle.glob_uses.proofs.matches_counted.Given as goal

abbrev pub ghosts-matches_in_steps : goal.ghosts-matches_in_steps
ghosts-matches_in_steps a = record { name = a.blank.name; parts = a.blank.parts }
