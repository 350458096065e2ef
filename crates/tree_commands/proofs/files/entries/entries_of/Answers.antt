use Rattle.std.proofs.Common.{◌≡◌, [], ◌∷◌, ◌++◌, ℕ, List, map, sym, ap, subst, ◌∙◌}
use Rattle.std.specs.Prelude.{Option}
use Rattle.std.specs.Borrow.{Bor}
use Rattle.std.specs.Option.{option_copied}
use Rattle.std.specs.Vec.{vec_items}
use Rattle.std.proofs.lemmas.Bool.{false≢true}
use Rattle.tree_commands.specs.FileTrees.{names_in}
use Rattle.tree_commands.specs.Private.Listing.{names_left, seen_lists, terms_of}
use Rattle.tree_commands.proofs.lemmas.EntryLemmas.{IsGoingOver, going_ends, going_on, going_past}
use Rattle.tree_commands.proofs.lemmas.SourceLemmas.{gives_none, stays_further}
use Rattle.tree_commands.proofs.files.entries.entries_of.Goals as goal

pub names-preserved-in_ok-push_found : goal.names-preserved-in_ok-push_found
names-preserved-in_ok-push_found g c =
    let known = g.S.FileSource.shows c.args.source.now in
    let lists = seen_lists c.args.on_way.now.lists.items in
    let left : names_left (option_copied c.names.rest) ≡ c.first_name.result.0.now ∷ names_left (option_copied c.first_name.result.1) = ap (λ (r : Option (Bor (List ℕ))). names_left (option_copied r)) c.in-Some.is ∙ c.first_name.ensures in
    let over = subst (λ ns. IsGoingOver known lists (terms_of c.args.on_way.now.terms) c.args.start.now (names_in c.args.names.now) ns (map vec_items c.names.paths.items)) left c.names.invariant.over in
    record {
      over = going_on known lists (terms_of c.args.on_way.now.terms) c.args.start.now (names_in c.args.names.now) c.first_name.result.0.now (names_left (option_copied c.first_name.result.1)) (map vec_items c.names.paths.items) over
          (c.is_entry_name.ensures.0 c.if-is_entry_name.true) (g.S.FileSource.shows c.names.source) c.names.invariant.stays (map vec_items c.push_found.new.paths.items) c.in_ok-push_found.ensures.adds;
      stays = stays_further g.S.FileSource.shows c.args.source.now c.names.source c.push_found.new.source c.names.invariant.stays c.push_found.ensures.stays;
      asks = gives_none (λ _. ⊥) (g.S.FileSource.asked c.args.source.now) (g.S.FileSource.asked c.names.source) (g.S.FileSource.asked c.push_found.new.source) c.names.invariant.asks c.push_found.ensures.asks;
    }

pub names-preserved : goal.names-preserved
names-preserved g c =
    let known = g.S.FileSource.shows c.args.source.now in
    let lists = seen_lists c.args.on_way.now.lists.items in
    let left : names_left (option_copied c.names.rest) ≡ c.first_name.result.0.now ∷ names_left (option_copied c.first_name.result.1) = ap (λ (r : Option (Bor (List ℕ))). names_left (option_copied r)) c.in-Some.is ∙ c.first_name.ensures in
    let over = subst (λ ns. IsGoingOver known lists (terms_of c.args.on_way.now.terms) c.args.start.now (names_in c.args.names.now) ns (map vec_items c.names.paths.items)) left c.names.invariant.over in
    record {
      over = going_past known lists (terms_of c.args.on_way.now.terms) c.args.start.now (names_in c.args.names.now) c.first_name.result.0.now (names_left (option_copied c.first_name.result.1)) (map vec_items c.names.paths.items) over
          (λ may. false≢true (sym c.if-is_entry_name.false ∙ c.is_entry_name.ensures.1 may));
      stays = c.names.invariant.stays;
      asks = c.names.invariant.asks;
    }

pub returns-clause-found : goal.returns-clause-found
returns-clause-found g c =
    let known = g.S.FileSource.shows c.args.source.now in
    let lists = seen_lists c.args.on_way.now.lists.items in
    let left : names_left (option_copied c.names.rest) ≡ [] = ap (λ (r : Option (Bor (List ℕ))). names_left (option_copied r)) c.in_default.is in
    let over = subst (λ ns. IsGoingOver known lists (terms_of c.args.on_way.now.terms) c.args.start.now (names_in c.args.names.now) ns (map vec_items c.names.paths.items)) left c.names.invariant.over in
    λ tree it path. going_ends known lists (terms_of c.args.on_way.now.terms) c.args.start.now (names_in c.args.names.now) (map vec_items c.names.paths.items) over tree it path
