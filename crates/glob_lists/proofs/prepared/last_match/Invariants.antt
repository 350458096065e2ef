use Rattle.glob_lists.proofs.prepared.last_match.Given as goal

-- the counts are kept in the ledger that the blank one becomes
abbrev pub ghosts-last_match_with : goal.ghosts-last_match_with
ghosts-last_match_with g a = record { name = a.blank.name; parts = a.blank.parts }
