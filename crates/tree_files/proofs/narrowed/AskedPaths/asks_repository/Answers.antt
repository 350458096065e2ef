use Rattle.std.proofs.Common.{sym, ◌∙◌}
use Rattle.std.proofs.lemmas.Bool.{false≢true}
use Rattle.pathspecs.specs.Lists.{Matches}
use Rattle.tree_files.specs.Narrowing.{IsMetItself, LeadsFurther}
use Rattle.tree_files.proofs.lemmas.NarrowedLemmas.{second_unless}
use Rattle.tree_files.proofs.narrowed.AskedPaths.asks_repository.Goals as goal

pub returns-then-matches : goal.returns-then-matches
returns-then-matches c =
    let items = c.args.self.now.list.now in
    let folder = c.args.folder.now in
    second_unless (IsMetItself items folder) (Matches items folder) (LeadsFurther items folder) c.goes_on_in.result
    (λ met. false≢true (sym c.if-names.false ∙ c.names.ensures.1 met)) (c.matches.ensures.0 c.if-matches.true) c.goes_on_in.ensures
