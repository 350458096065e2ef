use Rattle.std.proofs.Common.{take, refl, sym, ap, subst, ◌∙◌}
use Rattle.tree_commands.specs.Files.{AsksSearches, Terms}
use Rattle.tree_commands.specs.Private.Listing.{terms_of}
use Rattle.tree_commands.proofs.lemmas.ListsLemmas.{seen_cut, seen_length}
use Rattle.tree_commands.proofs.lemmas.SearchLemmas.{search_asks_here, search_begins, search_keeps, search_may, search_says}
use Rattle.tree_commands.proofs.files.lister.Lister.has_listed.Goals as goal

pub lists_any-requires-clause-under_way : goal.lists_any-requires-clause-under_way
lists_any-requires-clause-under_way g c =
    let search = search_begins c.args.self.now c.new-search.result c.put_start.new.self c.args.place.now _ (c.new-search.ensures.lists ∙ ap (λ v. v.items) c.replace-lists.ensures.value) c.new-search.ensures.terms c.new-search.ensures.none
    c.in_ok-put_start.ensures.on_way c.in_ok-put_start.ensures.pending c.in_ok-path.ensures refl refl c.requires.count in
    search_may search c.requires.may (c.requires.count ∙ sym (seen_length c.args.self.now.on_way.lists.items))

pub lists_any-requires-clause-plain : goal.lists_any-requires-clause-plain
lists_any-requires-clause-plain g c =
    subst (λ (t : Terms). ¬ AsksSearches t.folders) (sym (ap (λ w. terms_of w.terms) c.in_ok-put_start.ensures.on_way ∙ c.new-search.ensures.terms)) c.requires.plain

pub returns-in_err-is_any-clause-asks : goal.returns-in_err-is_any-clause-asks
returns-in_err-is_any-clause-asks g c =
    let search = search_begins c.args.self.now c.new-search.result c.put_start.new.self c.args.place.now _ (c.new-search.ensures.lists ∙ ap (λ v. v.items) c.replace-lists.ensures.value) c.new-search.ensures.terms c.new-search.ensures.none
    c.in_ok-put_start.ensures.on_way c.in_ok-put_start.ensures.pending c.in_ok-path.ensures refl refl c.requires.count in
    search_asks_here search c.requires.standing c.lists_any.ensures.asks

pub returns-clause-any : goal.returns-clause-any
returns-clause-any g c =
    let search = search_begins c.args.self.now c.new-search.result c.put_start.new.self c.args.place.now _ (c.new-search.ensures.lists ∙ ap (λ v. v.items) c.replace-lists.ensures.value) c.new-search.ensures.terms c.new-search.ensures.none
    c.in_ok-put_start.ensures.on_way c.in_ok-put_start.ensures.pending c.in_ok-path.ensures refl refl c.requires.count in
    search_says search c.requires.standing c.requires.plain c.in_ok-is_any.is_any c.in_ok-is_any.ensures.any

pub returns-clause-lists : goal.returns-clause-lists
returns-clause-lists g c =
    let search = search_begins c.args.self.now c.new-search.result c.put_start.new.self c.args.place.now _ (c.new-search.ensures.lists ∙ ap (λ v. v.items) c.replace-lists.ensures.value) c.new-search.ensures.terms c.new-search.ensures.none
    c.in_ok-put_start.ensures.on_way c.in_ok-put_start.ensures.pending c.in_ok-path.ensures refl refl c.requires.count in
    seen_cut c.args.place.now.list_count _ _ (c.truncate.ensures.items ∙ ap (take c.args.place.now.list_count) c.into_lists-lists.ensures) ∙ search_keeps search (c.requires.count ∙ sym (seen_length c.args.self.now.on_way.lists.items)) c.in_ok-is_any.ensures.lists

pub returns-clause-asks : goal.returns-clause-asks
returns-clause-asks g c =
    let search = search_begins c.args.self.now c.new-search.result c.put_start.new.self c.args.place.now _ (c.new-search.ensures.lists ∙ ap (λ v. v.items) c.replace-lists.ensures.value) c.new-search.ensures.terms c.new-search.ensures.none
    c.in_ok-put_start.ensures.on_way c.in_ok-put_start.ensures.pending c.in_ok-path.ensures refl refl c.requires.count in
    search_asks_here search c.requires.standing c.lists_any.ensures.asks
