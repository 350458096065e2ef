-- A base that is no folder's is that of a list.
use Rattle.std.proofs.Common.{◌≡◌, true, map, refl, subst, take_all}
use Rattle.glob_lists.specs.Deciding.{BasesAreFolders, HasFolder}
use Rattle.gix_glob.specs.EntryLists.{entry_list_of}
use Rattle.gix_glob.proofs.lemmas.Elements.{All-map_at}
use Rattle.tree_commands.proofs.files.ignoring.are_of_folders.Goals as goal

pub returns-then-not-has_folder : goal.returns-then-not-has_folder
returns-then-not-has_folder g c = (
  λ no. absurd (cc),
  λ (all : BasesAreFolders (map (entry_list_of g.T.Pattern.seen) c.args.lists.now)).
      let folder : HasFolder (entry_list_of g.T.Pattern.seen c.list-item.result) =
      All-map_at (entry_list_of g.T.Pattern.seen) HasFolder c.args.lists.now c.loop-list.list-index c.list-item.result all c.loop-list-test.true c.list-item.is in
      let yes : c.has_folder.result ≡ true = c.has_folder.ensures.1 folder in
      absurd (cc),
)

pub returns : goal.returns
returns g c =
    (λ yes. subst (λ l. BasesAreFolders (map (entry_list_of g.T.Pattern.seen) l)) (take_all _ _ c.loop-list-test.false) c.loop-list.invariant, λ all. refl)
