use Rattle.std.proofs.Common.{sym, ◌∙◌}
use Rattle.std.proofs.lemmas.Bool.{false≢true}
use Rattle.std.proofs.lemmas.Result.{IfOk-weaker}
use Rattle.tree_commands.specs.Private.Listing.{seen_lists, terms_of}
use Rattle.tree_commands.proofs.lemmas.EntryLemmas.{chosen_all, chosen_as}
use Rattle.tree_commands.proofs.files.entries.unignored_kind.Goals as goal

pub returns-then-leaves_out-clause-found : goal.returns-then-leaves_out-clause-found
returns-then-leaves_out-clause-found g c =
    IfOk-weaker c.what_stands.result _ _
    (λ found is tree known. chosen_as (seen_lists c.args.on_way.now.lists.items) (terms_of c.args.on_way.now.terms) tree c.args.path.now (c.leaves_out.ensures.0 c.if-leaves_out.true) found (is tree known))
    c.what_stands.ensures.found

pub returns-clause-found : goal.returns-clause-found
returns-clause-found g c =
    IfOk-weaker c.kind_at.result _ _
    (λ found is tree known. chosen_all (seen_lists c.args.on_way.now.lists.items) (terms_of c.args.on_way.now.terms) tree c.args.path.now (λ told. false≢true (sym c.if-leaves_out.false ∙ c.leaves_out.ensures.1 told)) found (is tree known))
    c.kind_at.ensures.found
