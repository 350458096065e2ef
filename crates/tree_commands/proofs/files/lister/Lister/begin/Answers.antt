use Rattle.std.proofs.Common.{◌≡◌, [], ◌∷◌, ◌++◌, List, length, false, refl, sym, ap, subst, ◌∙◌, arith}
use Rattle.std.proofs.lemmas.List.{nil_from_length}
use Rattle.tree_commands.specs.declared.files.entries.ListsOnWay.{ListsOnWay}
use Rattle.tree_commands.specs.declared.files.pending.Pending.{Pending}
use Rattle.tree_commands.specs.Files.{Basis}
use Rattle.tree_commands.specs.Private.Listing.{Begins, seen_lists, terms_of}
use Rattle.tree_commands.proofs.lemmas.BeginLemmas.{begins_top}
use Rattle.tree_commands.proofs.lemmas.ListsLemmas.{seen_length}
use Rattle.tree_commands.proofs.files.lister.Lister.begin.Goals as goal

pub returns-clause-begins : goal.returns-clause-begins
returns-clause-begins g c =
    let known = g.S.FileSource.shows c.args.source.now in
    let basis : Basis = record { fronts = seen_lists c.args.self.now.on_way.lists.items; terms = terms_of c.args.self.now.on_way.terms } in
    let none : length c.args.path.items ≡ 0 = grind (arith, c.is_empty.ensures, c.if-not-is_empty.false) in
    let empty = nil_from_length c.args.path.items none in
    let next : Pending = record { path = c.args.path; list_count = length c.args.self.now.on_way.lists.items; is_below = false } in
    let one : c.put_start.new.self.pending.items ≡ next ∷ [] = c.in_ok-put_start.ensures.pending ∙ ap (λ (ps : List Pending). ps ++ next ∷ []) c.requires.none in
    subst (λ (way : ListsOnWay). Begins known basis c.args.path.items c.args.is_told_folder (seen_lists way.lists.items) c.put_start.new.self.pending.items) (sym c.put_start.ensures.on_way)
    (subst (λ p. Begins known basis p c.args.is_told_folder (seen_lists c.args.self.now.on_way.lists.items) c.put_start.new.self.pending.items) (sym empty)
    (begins_top known basis c.args.is_told_folder (seen_lists c.args.self.now.on_way.lists.items) c.put_start.new.self.pending.items next one empty (sym (seen_length c.args.self.now.on_way.lists.items)) refl))
