use Rattle.std.proofs.Common.{◌≡◌, refl, sym, subst, ◌∙◌}
use Rattle.std.specs.Prelude.{Option, Some}
use Rattle.tree_commands.specs.Files.{is_folder}
use Rattle.tree_commands.specs.Ignoring.{IsIgnored}
use Rattle.tree_commands.specs.Private.Listing.{seen_lists}
use Rattle.tree_commands.proofs.lemmas.EntryLemmas.{stands_as}
use Rattle.tree_commands.proofs.files.entries.kept_by_kind.Goals as goal

pub returns-then-is_ignored_by-clause-found : goal.returns-then-is_ignored_by-clause-found
returns-then-is_ignored_by-clause-found g c =
    let lists = seen_lists c.args.on_way.now.lists.items in
    let ignored : IsIgnored lists c.args.on_way.now.terms.case c.args.path.now (is_folder c.in-Some.kind) = rw (c.deref.ensures.value, c.is_folder.ensures) at (c.if-is_ignored_by.ensures.0 refl) in
    λ tree known. stands_as lists c.args.on_way.now.terms.case tree c.args.path.now c.in-Some.kind (sym c.in-Some.is ∙ c.in_ok-kind.ensures.found tree known) ignored
