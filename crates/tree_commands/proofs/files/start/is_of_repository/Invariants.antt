use Rattle.std.proofs.Common.{ℕ, List, ◌<◌, length}
use Rattle.glob_trees.specs.Trees.{IsAbove}
use Rattle.glob_trees.specs.Ways.{Folder, GivesOnly}
use Rattle.tree_commands.specs.FileTrees.{FileTree, StaysKnown}
use Rattle.tree_commands.specs.Files.{LetsPass}
use Rattle.tree_commands.specs.Private.Listing.{terms_of}
use Rattle.tree_commands.proofs.files.start.is_of_repository.Given as goal

-- the folders so far are passed
abbrev pub invariant-bytes : goal.invariant-bytes
invariant-bytes g l = record {
  passed : (tree : FileTree) → g.S.FileSource.shows l.fn.source tree → (folder : Folder) → IsAbove folder l.fn.path → length folder < l.place → LetsPass (terms_of l.fn.terms) tree folder;
  stays : StaysKnown g.S.FileSource.shows l.fn.source l.source;
  asks : GivesOnly (λ _. ⊥) (g.S.FileSource.asked l.fn.source) (g.S.FileSource.asked l.source);
}
