use Rattle.std.proofs.Common.{◌≡◌, ◌∷◌, [], ◌++◌, sym, subst, map, rules}
use Rattle.std.specs.Prelude.{Option, if◌then◌else◌}
use Rattle.std.specs.Vec.{vec_items}
use Rattle.gix_glob.specs.Bytes.{slash}
use Rattle.tree_commands.specs.declared.files.source.EntryKind.{EntryKind}
use Rattle.tree_commands.specs.Files.{is_folder}
use Rattle.tree_commands.specs.Private.Listing.{AddsFound, IsMetThere, seen_lists, terms_of}
use Rattle.tree_commands.proofs.lemmas.EntryLemmas.{adds_none, adds_one}
use Rattle.tree_commands.proofs.files.entries.push_found.Goals as goal

pub returns-in_default-clause-adds : goal.returns-in_default-clause-adds
returns-in_default-clause-adds g c =
    let lists = seen_lists c.args.on_way.now.lists.items in
    let path = c.args.start.now ++ c.args.name.now in
    let is : c.deref.result.now ≡ c.args.start.now ++ c.args.name.now = search rules in
    adds_none (g.S.FileSource.shows c.args.source.now) lists (terms_of c.args.on_way.now.terms) path (map vec_items c.args.paths.now.items)
    (λ tree known. subst (λ (found : Option EntryKind). IsMetThere lists (terms_of c.args.on_way.now.terms) tree path found) c.in_default.is (subst (λ p. IsMetThere lists (terms_of c.args.on_way.now.terms) tree p c.in_ok-kind.field-0) is (c.in_ok-kind.ensures.found tree known)))

pub returns-clause-adds : goal.returns-clause-adds
returns-clause-adds g c =
    let lists = seen_lists c.args.on_way.now.lists.items in
    let path = c.args.start.now ++ c.args.name.now in
    let is : c.deref.result.now ≡ c.args.start.now ++ c.args.name.now = search rules in
    let made : map vec_items c.push_marked.new.paths.items ≡ map vec_items c.args.paths.now.items ++ (path ++ (if is_folder c.in-Some.kind then slash ∷ [] else [])) ∷ [] = search rules in
    subst (AddsFound (g.S.FileSource.shows c.args.source.now) lists (terms_of c.args.on_way.now.terms) path (map vec_items c.args.paths.now.items)) (sym made)
    (adds_one (g.S.FileSource.shows c.args.source.now) lists (terms_of c.args.on_way.now.terms) path (map vec_items c.args.paths.now.items) c.in-Some.kind
    (λ tree known. subst (λ (found : Option EntryKind). IsMetThere lists (terms_of c.args.on_way.now.terms) tree path found) c.in-Some.is (subst (λ p. IsMetThere lists (terms_of c.args.on_way.now.terms) tree p c.in_ok-kind.field-0) is (c.in_ok-kind.ensures.found tree known))))
