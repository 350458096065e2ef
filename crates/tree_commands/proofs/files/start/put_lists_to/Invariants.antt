use Rattle.std.proofs.Common.{◌≡◌, ℕ, List, ◌<◌, length, take, true}
use Rattle.glob_lists.specs.Deciding.{BasesAreFolders}
use Rattle.glob_trees.specs.Trees.{IsAbove}
use Rattle.glob_trees.specs.Ways.{Folder, GivesOnly}
use Rattle.tree_commands.specs.FileTrees.{FileTree, StaysKnown}
use Rattle.tree_commands.specs.Files.{Basis, lists_to}
use Rattle.tree_commands.specs.Ignoring.{IsIgnored}
use Rattle.tree_commands.specs.Private.Listing.{seen_lists, terms_of}
use Rattle.tree_commands.proofs.lemmas.StartLemmas.{IsOnWayTo}
use Rattle.tree_commands.proofs.files.start.put_lists_to.Given as goal

-- the lists are those to the place, and no folder above it is ignored
abbrev pub invariant-bytes : goal.invariant-bytes
invariant-bytes g l = record {
  on_way : (tree : FileTree) → g.S.FileSource.shows l.fn.source tree → IsOnWayTo (record { fronts = seen_lists l.fn.on_way.lists.items; terms = terms_of l.fn.on_way.terms }) tree l.fn.path l.place (seen_lists l.on_way.lists.items);
  folders : BasesAreFolders (seen_lists l.on_way.lists.items);
  terms : l.on_way.terms ≡ l.fn.on_way.terms;
  stays : StaysKnown g.S.FileSource.shows l.fn.source l.source;
  asks : GivesOnly (λ _. ⊥) (g.S.FileSource.asked l.fn.source) (g.S.FileSource.asked l.source);
}
