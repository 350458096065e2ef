use Rattle.std.proofs.Common.{◌↔◌, ℕ, List, IsTrue, map, take}
use Rattle.git_index.specs.Entries.{tracked}
use Rattle.tree_files.specs.Indexed.{is_indexed}
use Rattle.globtree.specs.Tracked.{IsGiven}
use Rattle.globtree.proofs.index_use.folders_in.Given as goal

-- the folders that the entries so far give
abbrev pub invariant-entries : goal.invariant-entries
invariant-entries l = (folder : List ℕ) → IsTrue (is_indexed l.indexed folder) ↔ IsGiven l.index (map tracked (take l.entry-index l.entries)) folder
