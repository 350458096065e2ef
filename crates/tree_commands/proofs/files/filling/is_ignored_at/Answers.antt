use Rattle.std.proofs.Common.{◌≡◌, [], refl, sym, subst, ◌∙◌}
use Rattle.gix_glob.specs.Bytes.{EndsInSlash}
use Rattle.glob_trees.specs.Ways.{Folder}
use Rattle.tree_commands.specs.Private.Listing.{FlagsFolder, seen_lists, terms_of}
use Rattle.tree_commands.proofs.lemmas.PathLemmas.{one_folder, start_ends}
use Rattle.tree_commands.proofs.files.filling.is_ignored_at.Goals as goal

pub returns-in-Some : goal.returns-in-Some
returns-in-Some c folder is =
    let same : c.in-Some.folder.now ≡ folder = one_folder c.in-Some.folder.now folder (sym (sym c.deref.ensures.value ∙ c.in-Some.ensures) ∙ is) in
    subst (λ (f : Folder). FlagsFolder (terms_of c.args.on_way.now.terms) (seen_lists c.args.on_way.now.lists.items) c.args.place.now f c.is_ignored_folder.result) same c.is_ignored_folder.ensures

pub returns-in-None : goal.returns-in-None
returns-in-None c folder is =
    let file = rw c.deref.ensures.value at c.in-None.ensures in
    absurd (file.1 (subst EndsInSlash (sym is) (start_ends folder (λ none. file.0 (is ∙ none)))))
