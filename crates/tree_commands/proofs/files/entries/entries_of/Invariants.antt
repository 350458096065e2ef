use Rattle.std.proofs.Common.{length, map}
use Rattle.std.specs.Option.{option_copied}
use Rattle.std.specs.Vec.{vec_items}
use Rattle.glob_trees.specs.Ways.{GivesOnly}
use Rattle.tree_commands.specs.FileTrees.{StaysKnown, names_in}
use Rattle.tree_commands.specs.Private.Listing.{names_left, seen_lists, terms_of}
use Rattle.tree_commands.proofs.lemmas.EntryLemmas.{IsGoingOver}
use Rattle.tree_commands.proofs.files.entries.entries_of.Given as goal

-- what is found by the names so far
abbrev pub invariant-names : goal.invariant-names
invariant-names g l = record {
  over : IsGoingOver (g.S.FileSource.shows l.fn.source) (seen_lists l.fn.on_way.lists.items) (terms_of l.fn.on_way.terms) l.fn.start (names_in l.fn.names) (names_left (option_copied l.rest)) (map vec_items l.paths.items);
  stays : StaysKnown g.S.FileSource.shows l.fn.source l.source;
  asks : GivesOnly (λ _. ⊥) (g.S.FileSource.asked l.fn.source) (g.S.FileSource.asked l.source);
}

abbrev pub decreases-names : goal.decreases-names
decreases-names g l = length (names_left (option_copied l.rest))
