use Rattle.std.proofs.Common.{◌≢◌, false, true, inl, refl, sym, subst, ◌∙◌}
use Rattle.std.specs.Prelude.{ℕ, List, Option}
use Rattle.std.proofs.lemmas.Bool.{false≢true}
use Rattle.tree_commands.specs.FileTrees.{AreFoundIn, FileTree}
use Rattle.tree_commands.specs.Private.Listing.{Visits, seen_lists, terms_of}
use Rattle.tree_commands.proofs.lemmas.VisitLemmas.{enters_weaker, file_ends, file_listed, folder_ends, folder_listed, not_shut, shut_by_itself, shut_by_name, visit_ends}
use Rattle.tree_commands.proofs.files.lister.Lister.visit.Goals as goal

pub returns-in_default-clause-visits : goal.returns-in_default-clause-visits
returns-in_default-clause-visits g c =
    let known = g.S.FileSource.shows c.args.source.now in
    let terms = terms_of c.args.self.now.on_way.terms in
    let lists = seen_lists c.args.self.now.on_way.lists.items in
    let pending = c.args.self.now.pending.items in
    let next = c.args.next in
    let file = rw c.deref.ensures.value at c.in_default.ensures in
    subst (λ (o : Option (List ℕ)). Visits known terms next lists lists pending pending o) (sym c.only_if.ensures)
    (visit_ends known terms next lists pending c.lists_file-is_listed.result next.path.items refl (λ tree it. file_ends known terms next lists pending file.0 file.1 tree)
    (λ tree it. file_listed known terms next lists pending file.0 file.1 c.lists_file-is_listed.result c.lists_file-is_listed.ensures tree))

pub returns-then-is_told-clause-visits : goal.returns-then-is_told-clause-visits
returns-then-is_told-clause-visits g c =
    let known = g.S.FileSource.shows c.args.source.now in
    let terms = terms_of c.args.self.now.on_way.terms in
    let lists = seen_lists c.args.self.now.on_way.lists.items in
    let pending = c.args.self.now.pending.items in
    let next = c.args.next in
    let start = sym c.deref.ensures.value ∙ c.in-Some.ensures in
    let told = c.is_told.ensures.0 c.if-is_told.true in
    let ignored = c.is_ignored_folder-is_ignored.result in
    subst (λ (o : Option (List ℕ)). Visits known terms next lists lists pending pending o) (sym c.only_if-then-is_told.ensures)
    (visit_ends known terms next lists pending c.lists_folder-is_listed.result next.path.items refl
    (λ tree it. folder_ends known terms next lists pending c.in-Some.folder.now start told.1.0 ignored c.is_ignored_folder-is_ignored.ensures tree (shut_by_name terms tree c.in-Some.folder.now ignored told))
    (λ tree it. folder_listed known terms next lists pending c.in-Some.folder.now start told.1.0 ignored c.is_ignored_folder-is_ignored.ensures c.lists_folder-is_listed.result c.lists_folder-is_listed.ensures tree (shut_by_name terms tree c.in-Some.folder.now ignored told)))

pub is_shut-requires : goal.is_shut-requires
is_shut-requires g c = c.deref-2.ensures.value ∙ sym c.deref.ensures.value ∙ c.in-Some.ensures

pub returns-then-is_shut-clause-visits : goal.returns-then-is_shut-clause-visits
returns-then-is_shut-clause-visits g c =
    let known = g.S.FileSource.shows c.args.source.now in
    let terms = terms_of c.args.self.now.on_way.terms in
    let lists = seen_lists c.args.self.now.on_way.lists.items in
    let pending = c.args.self.now.pending.items in
    let next = c.args.next in
    let folder = c.in-Some.folder.now in
    let start = sym c.deref.ensures.value ∙ c.in-Some.ensures in
    let free = c.in_ok-is_shut.ensures.free c.if-is_shut.true in
    let ignored = c.is_ignored_folder-is_ignored.result in
    let shut = λ (tree : FileTree) (it : known tree). shut_by_itself terms tree folder ignored
    (let says = c.in_ok-is_shut.ensures.shut tree (c.names_in.ensures.stays tree it) (c.in_ok-names.ensures.found tree it) in says.0 c.if-is_shut.true) in
    subst (λ (o : Option (List ℕ)). Visits known terms next lists lists pending pending o) (sym c.only_if-then-is_shut.ensures)
    (visit_ends known terms next lists pending c.lists_folder-is_listed-then-is_shut.result next.path.items refl
    (λ tree it. folder_ends known terms next lists pending folder start free.0 ignored c.is_ignored_folder-is_ignored.ensures tree (shut tree it))
    (λ tree it. folder_listed known terms next lists pending folder start free.0 ignored c.is_ignored_folder-is_ignored.ensures c.lists_folder-is_listed-then-is_shut.result c.lists_folder-is_listed-then-is_shut.ensures tree (shut tree it)))

pub returns-clause-visits : goal.returns-clause-visits
returns-clause-visits g c =
    let terms = terms_of c.args.self.now.on_way.terms in
    let folder = c.in-Some.folder.now in
    let ignored = c.is_ignored_folder-is_ignored.result in
    inl (record {
      folder = folder;
      start = sym c.deref.ensures.value ∙ c.in-Some.ensures;
      is_ignored = ignored;
      flag = c.is_ignored_folder-is_ignored.ensures;
      may = λ tree known. (let says = c.in_ok-is_shut.ensures.shut tree (c.names_in.ensures.stays tree known) (c.in_ok-names.ensures.found tree known) in
          not_shut terms tree folder ignored (λ told. false≢true (sym c.if-is_told.false ∙ c.is_told.ensures.1 told)) (λ itself. false≢true (sym c.if-is_shut.false ∙ says.1 itself)));
      enters = enters_weaker (λ tree. g.S.FileSource.shows c.is_shut.new.source tree × AreFoundIn tree folder c.in_ok-names.names) (g.S.FileSource.shows c.args.source.now)
          (λ tree known. (c.is_shut.ensures.stays tree (c.names_in.ensures.stays tree known), c.in_ok-names.ensures.found tree known)) _ _ _ _ _ _ _ _ c.in_ok-enter.ensures.enters;
    })
