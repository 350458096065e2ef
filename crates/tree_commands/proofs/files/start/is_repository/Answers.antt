use Rattle.std.proofs.Common.{sym, ◌∙◌}
use Rattle.std.proofs.lemmas.Bool.{false≢true}
use Rattle.tree_commands.specs.Private.Listing.{terms_of}
use Rattle.tree_commands.proofs.lemmas.StartLemmas.{passed_by}
use Rattle.tree_commands.proofs.files.start.is_repository.Goals as goal

pub returns-clause-own : goal.returns-clause-own
returns-clause-own g c =
    λ tree known. passed_by (terms_of c.args.terms.now) tree c.args.folder.now c.last_name.result.now c.last_name.ensures (sym c.is_git.ensures ∙ c.if-is_git.false)
    (λ is. false≢true (sym c.if-is_submodule.false ∙ c.is_submodule.ensures.1 is)) c.in_ok-has_git.has_git (c.in_ok-has_git.ensures.found tree known) c.is_own.result c.is_own.ensures

pub returns-then-is_git-clause-own : goal.returns-then-is_git-clause-own
returns-then-is_git-clause-own g c =
    λ tree known passed. false≢true (sym (passed.other c.last_name.result.now c.last_name.ensures) ∙ sym c.is_git.ensures ∙ c.if-is_git.true)

pub returns-then-is_submodule-clause-own : goal.returns-then-is_submodule-clause-own
returns-then-is_submodule-clause-own g c = λ tree known passed. passed.shown (c.is_submodule.ensures.0 c.if-is_submodule.true)
