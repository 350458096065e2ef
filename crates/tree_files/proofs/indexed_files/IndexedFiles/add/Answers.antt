use Rattle.std.proofs.Common.{◌≡◌, ◌⊎◌, IsTrue, ◌↔◌, subst}
use Rattle.tree_files.specs.Indexed.{is_indexed}
use Rattle.tree_files.proofs.lemmas.KeyLemmas.{is_inserted}
use Rattle.tree_files.proofs.indexed_files.IndexedFiles.add.Goals as goal

pub returns : goal.returns
returns c other =
    subst (λ text. IsTrue (is_indexed (record c.args.self.now { folders = c.insert.new.self }) other) ↔ (IsTrue (is_indexed c.args.self.now other) ⊎ (other ≡ text))) c.in_ok-folder.ensures.items
    (is_inserted other c.in_ok-folder.folder c.args.self.now.folders.keys c.insert.new.self.keys c.in_ok-insert.ensures.keys)
