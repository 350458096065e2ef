use Rattle.std.proofs.Common.{◌≡◌, ◌⊎◌, IsTrue, ◌↔◌, subst, nat_cmp}
use Rattle.std.specs.BTreeSet.{contains_by}
use Rattle.std.specs.Cmp.Lexicographic.{slice_cmp}
use Rattle.tree_files.specs.Closed.{is_shut}
use Rattle.tree_files.proofs.lemmas.KeyLemmas.{is_inserted}
use Rattle.tree_files.proofs.closed_folders.ClosedFolders.shut.Goals as goal

pub returns-clause-shut : goal.returns-clause-shut
returns-clause-shut c other =
    let new = contains_by (λ key. slice_cmp nat_cmp other key.items) c.insert.new.self in
    let put = is_inserted other c.in_ok-folder.folder c.miss.new.self.shut.keys c.insert.new.self.keys c.in_ok-insert.ensures.keys in
    let named = subst (λ text. IsTrue new ↔ (IsTrue (is_shut c.miss.new.self other) ⊎ (other ≡ text))) c.in_ok-folder.ensures.items put in
    subst (λ shut. IsTrue new ↔ (IsTrue (contains_by (λ key. slice_cmp nat_cmp other key.items) shut) ⊎ (other ≡ c.args.folder.now))) c.miss.ensures.shut named
