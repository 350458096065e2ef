use Rattle.std.proofs.Common.{map, arith}
use Rattle.std.proofs.lemmas.List.{length-map}
use Rattle.gix_glob.specs.EntryLists.{entry_list_of}
use Rattle.glob_attributes.specs.Views.{seen_assignments}
use Rattle.glob_attributes.proofs.lemmas.MatchedLemmas.{matched-assigned, none-yet}
use Rattle.glob_attributes.proofs.laws.assigned.paths_are_assigned_something.Goals as goal

pub lists-init : goal.lists-init
lists-init c = none-yet (map (entry_list_of seen_assignments) c.args.lists.now) c.args.path.now.bytes c.args.path.now.is_dir c.args.rules

pub lists-preserved : goal.lists-preserved
lists-preserved c = c.lists_have_matches.ensures c.lists.invariant.0 c.lists.invariant.1

pub returns : goal.returns
returns c =
    matched-assigned (map (entry_list_of seen_assignments) c.args.lists.now) c.args.path.now c.args.rules c.lists.place
    (omega (arith, length-map c.args.lists.now (entry_list_of seen_assignments), c.lists-test.false)) c.lists.invariant
