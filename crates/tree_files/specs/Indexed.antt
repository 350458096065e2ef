-- Folders whose file of patterns lies in the index.
use Rattle.std.specs.Prelude.{Bool}
use Rattle.std.specs.BTreeSet.{contains_by}
use Rattle.std.specs.Cmp.Lexicographic.{slice_cmp}
use Rattle.std.specs.Ordering.{nat_cmp}
use Rattle.glob_trees.specs.Ways.{Folder}
use Rattle.tree_files.specs.declared.indexed_files.IndexedFiles.{IndexedFiles}

-- whether a folder is one of them
abbrev pub is_indexed : IndexedFiles → Folder → Bool
is_indexed files folder = contains_by (λ key. slice_cmp nat_cmp folder key.items) files.folders
