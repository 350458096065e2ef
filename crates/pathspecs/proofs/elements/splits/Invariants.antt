-- The counts are kept in the ledger that the blank one becomes.
use Rattle.pathspecs.proofs.elements.splits.Given as goal

abbrev pub ghosts-splits_counted : goal.ghosts-splits_counted
ghosts-splits_counted a = record { name = a.blank.name; parts = a.blank.parts }
