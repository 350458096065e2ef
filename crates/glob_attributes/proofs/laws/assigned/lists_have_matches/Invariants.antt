use Rattle.std.proofs.Common.{map}
use Rattle.gix_glob.specs.EntryLists.{entry_list_of}
use Rattle.glob_attributes.specs.Views.{seen_assignments}
use Rattle.glob_attributes.proofs.lemmas.MatchedLemmas.{HasMatches}
use Rattle.glob_attributes.proofs.laws.assigned.lists_have_matches.Given as goal

-- the pairs of the mappings so far that match are there, where those of the lists before are
abbrev pub invariant-mappings : goal.invariant-mappings
invariant-mappings l =
    HasMatches (map (entry_list_of seen_assignments) l.lists) l.path.bytes l.path.is_dir l.rules l.place 0
    → HasMatches (map (entry_list_of seen_assignments) l.lists) l.path.bytes l.path.is_dir l.rules l.place l.m
