use Rattle.std.proofs.Common.{map}
use Rattle.gix_glob.specs.EntryLists.{entry_list_of}
use Rattle.glob_attributes.specs.Views.{seen_assignments}
use Rattle.glob_attributes.proofs.lemmas.MatchedLemmas.{HasMatches}
use Rattle.glob_attributes.proofs.laws.assigned.paths_are_assigned_something.Given as goal

-- the pairs of the lists so far that match are there
abbrev pub invariant-lists : goal.invariant-lists
invariant-lists l = HasMatches (map (entry_list_of seen_assignments) l.lists) l.path.bytes l.path.is_dir l.rules l.place 0
