use Rattle.std.proofs.Common.{◌≡◌, ◌≤◌, ℕ, [], refl, sym, subst, ◌∙◌, arith}
use Rattle.std.specs.Prelude.{List, Option}
use Rattle.std.specs.Vec.{vec_items}
use Rattle.std.proofs.lemmas.Bool.{false≢true}
use Rattle.std.proofs.lemmas.List.{nil_from_length}
use Rattle.tree_commands.specs.Private.Listing.{Visits, seen_lists, terms_of}
use Rattle.tree_commands.proofs.lemmas.FillingLemmas.{found_by_some, kept_by_visit, none_by_none, search_asks, search_ends, search_finds, search_goes_on}
use Rattle.tree_commands.proofs.lemmas.ListingLemmas.{count_next, may_next}
use Rattle.tree_commands.proofs.lemmas.ListsLemmas.{seen_length}
use Rattle.tree_commands.proofs.lemmas.SourceLemmas.{stays_further}
use Rattle.tree_commands.proofs.files.filling.lists_any.Goals as goal

pub returns-in_default-clause-any : goal.returns-in_default-clause-any
returns-in_default-clause-any g c =
    let none : c.paths.search.pending.items ≡ [] = nil_from_length c.paths.search.pending.items (omega (arith, c.in_default.ensures.cases.0, c.paths.search.pending.ok.0)) in
    let nothing = search_ends _ _ _ _ (rw none at c.paths.invariant.searching) in
    λ tree it basis same start halfway. ((λ yes. absurd (false≢true yes)), λ found. absurd (nothing tree it basis same start halfway found))

pub visit-requires-clause-may : goal.visit-requires-clause-may
visit-requires-clause-may g c =
    let under = rw c.in-Some.ensures.items at c.paths.invariant.searching.under_way in
    rw c.paths.invariant.terms (may_next (terms_of c.args.search.now.on_way.terms) _ c.pop.new.self.items c.in-Some.next _ under)

pub visit-requires-clause-count : goal.visit-requires-clause-count
visit-requires-clause-count g c =
    let under = rw c.in-Some.ensures.items at c.paths.invariant.searching.under_way in
    subst (λ n. c.in-Some.next.list_count ≤ n) (seen_length c.paths.search.on_way.lists.items) (count_next (terms_of c.args.search.now.on_way.terms) _ c.pop.new.self.items c.in-Some.next _ under)

pub returns-in_err-listed-clause-asks : goal.returns-in_err-listed-clause-asks
returns-in_err-listed-clause-asks g c =
    search_asks _ (terms_of c.args.search.now.on_way.terms) _ c.requires.plain _ c.paths.invariant.stays c.in-Some.next c.pop.new.self.items [] _ [] (rw c.in-Some.ensures.items at c.paths.invariant.searching) _ _ _ c.paths.invariant.asks c.visit.ensures.asks

pub returns-then-is_some-clause-any : goal.returns-then-is_some-clause-any
returns-then-is_some-clause-any g c =
    let now = g.S.FileSource.shows c.paths.source in
    let terms = terms_of c.args.search.now.on_way.terms in
    let lists = seen_lists c.paths.search.on_way.lists.items in
    let new_lists = seen_lists c.visit.new.self.on_way.lists.items in
    let one = found_by_some vec_items c.in_ok-listed.listed (λ (o : Option (List ℕ)). Visits now terms c.in-Some.next lists new_lists c.pop.new.self.items c.visit.new.self.pending.items o) (sym c.is_some.ensures ∙ c.if-is_some.true)
    (rw c.paths.invariant.terms at c.in_ok-listed.ensures.visits) in
    let found = search_finds _ terms _ c.requires.plain now c.paths.invariant.stays c.in-Some.next c.pop.new.self.items _ lists new_lists (rw c.in-Some.ensures.items at c.paths.invariant.searching) one.0 one.1 in
    λ tree is basis same start halfway. ((λ yes. found tree is basis same start halfway), λ met. refl)

pub returns-then-is_some-clause-asks : goal.returns-then-is_some-clause-asks
returns-then-is_some-clause-asks g c =
    search_asks _ (terms_of c.args.search.now.on_way.terms) _ c.requires.plain _ c.paths.invariant.stays c.in-Some.next c.pop.new.self.items [] _ [] (rw c.in-Some.ensures.items at c.paths.invariant.searching) _ _ _ c.paths.invariant.asks c.visit.ensures.asks

pub paths-preserved : goal.paths-preserved
paths-preserved g c =
    let now = g.S.FileSource.shows c.paths.source in
    let terms = terms_of c.args.search.now.on_way.terms in
    let lists = seen_lists c.paths.search.on_way.lists.items in
    let new_lists = seen_lists c.visit.new.self.on_way.lists.items in
    let pending = c.pop.new.self.items in
    let it = rw c.in-Some.ensures.items at c.paths.invariant.searching in
    let none = none_by_none vec_items c.in_ok-listed.listed (λ (o : Option (List ℕ)). Visits now terms c.in-Some.next lists new_lists pending c.visit.new.self.pending.items o) (sym c.is_some.ensures ∙ c.if-is_some.false)
    (rw c.paths.invariant.terms at c.in_ok-listed.ensures.visits) in
    let few = count_next terms it.listed pending c.in-Some.next lists it.under_way in
    record {
      searching = search_goes_on _ terms _ c.requires.plain now c.paths.invariant.stays c.in-Some.next pending _ lists new_lists it none;
      folders = c.in_ok-listed.ensures.folders;
      terms = c.visit.ensures.terms ∙ c.paths.invariant.terms;
      kept = λ count fits each. kept_by_visit now terms c.in-Some.next count _ lists new_lists pending _ few (rw c.in-Some.ensures.items at (c.paths.invariant.kept count fits each)) none;
      stays = stays_further g.S.FileSource.shows c.args.source.now c.paths.source c.visit.new.source c.paths.invariant.stays c.visit.ensures.stays;
      asks = search_asks _ terms _ c.requires.plain now c.paths.invariant.stays c.in-Some.next pending [] _ [] it _ _ _ c.paths.invariant.asks c.visit.ensures.asks;
    }
