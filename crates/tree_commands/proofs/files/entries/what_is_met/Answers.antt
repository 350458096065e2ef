use Rattle.std.proofs.Common.{sym, subst, ◌∙◌}
use Rattle.std.specs.Prelude.{Option}
use Rattle.std.proofs.lemmas.Bool.{false≢true}
use Rattle.tree_commands.specs.declared.files.source.EntryKind.{EntryKind}
use Rattle.tree_commands.specs.Private.Listing.{IsChosenThere, seen_lists, terms_of}
use Rattle.tree_commands.proofs.lemmas.EntryLemmas.{met_hidden, met_kept, met_none}
use Rattle.tree_commands.proofs.files.entries.what_is_met.Goals as goal

pub returns-in_default-clause-found : goal.returns-in_default-clause-found
returns-in_default-clause-found g c =
    let lists = seen_lists c.args.on_way.now.lists.items in
    let terms = terms_of c.args.on_way.now.terms in
    λ tree known. met_none lists terms tree c.args.path.now (subst (λ (k : Option EntryKind). IsChosenThere lists terms tree c.args.path.now k) c.in_default.is (c.in_ok-kind.ensures.found tree known))

pub returns-then-is_hidden-clause-found : goal.returns-then-is_hidden-clause-found
returns-then-is_hidden-clause-found g c =
    let lists = seen_lists c.args.on_way.now.lists.items in
    let terms = terms_of c.args.on_way.now.terms in
    λ tree known. met_hidden lists terms tree c.args.path.now c.in-Some.kind (subst (λ (k : Option EntryKind). IsChosenThere lists terms tree c.args.path.now k) c.in-Some.is (c.in_ok-kind.ensures.found tree known)) (c.is_hidden.ensures.0 c.if-is_hidden.true)

pub returns-clause-found : goal.returns-clause-found
returns-clause-found g c =
    let lists = seen_lists c.args.on_way.now.lists.items in
    let terms = terms_of c.args.on_way.now.terms in
    λ tree known. met_kept lists terms tree c.args.path.now c.in-Some.kind (subst (λ (k : Option EntryKind). IsChosenThere lists terms tree c.args.path.now k) c.in-Some.is (c.in_ok-kind.ensures.found tree known))
    (λ hidden. false≢true (sym c.if-is_hidden.false ∙ c.is_hidden.ensures.1 hidden))
