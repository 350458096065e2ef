use Rattle.std.proofs.Common.{ap, subst, sym}
use Rattle.std.specs.Prelude.{Option}
use Rattle.std.proofs.lemmas.Bool.{false≢true}
use Rattle.std.proofs.Common.{◌∙◌}
use Rattle.tree_commands.specs.declared.files.source.EntryKind.{EntryKind}
use Rattle.tree_commands.specs.FileTrees.{FileTree}
use Rattle.tree_commands.specs.Files.{Terms}
use Rattle.tree_commands.specs.Private.Listing.{IsClear, StandsAtStart, terms_of}
use Rattle.tree_commands.proofs.lemmas.BeginLemmas.{begins_clear}
use Rattle.tree_commands.proofs.lemmas.SourceLemmas.{at_false, at_true}
use Rattle.tree_commands.proofs.lemmas.VisitLemmas.{hidden_begin, may_begin, may_not_begin}
use Rattle.tree_commands.proofs.files.start.kind_to_begin.Goals as goal

pub returns-then-branch-clause-may : goal.returns-then-branch-clause-may
returns-then-branch-clause-may g c = λ tree known basis same start below.
    at_true (¬ IsClear (terms_of c.args.terms.now) tree c.args.path.now) (IsClear (terms_of c.args.terms.now) tree c.args.path.now) c.in_ok-is_of_repository.field-0 c.if-branch.true (c.in_ok-is_of_repository.ensures.clear tree known)
    (subst (λ (t : Terms). IsClear t tree c.args.path.now) same (begins_clear basis tree c.args.path.now c.args.is_told_folder start below))

pub returns-in_default-clause-may : goal.returns-in_default-clause-may
returns-in_default-clause-may g c =
    may_not_begin (g.S.FileSource.shows c.args.source.now) (terms_of c.args.terms.now) c.args.path.now c.args.is_told_folder
    (λ tree known. subst (λ (k : Option EntryKind). StandsAtStart tree c.args.path.now c.args.is_told_folder k) c.in_default.is (c.in_ok-kind.ensures.found tree (c.is_of_repository.ensures.stays tree known)))

pub returns-then-is_hidden-clause-may : goal.returns-then-is_hidden-clause-may
returns-then-is_hidden-clause-may g c =
    hidden_begin (g.S.FileSource.shows c.args.source.now) (terms_of c.args.terms.now) c.args.path.now c.args.is_told_folder c.in-Some.kind (c.is_hidden.ensures.0 c.if-is_hidden.true)
    (λ tree known. subst (λ (k : Option EntryKind). StandsAtStart tree c.args.path.now c.args.is_told_folder k) c.in-Some.is (c.in_ok-kind.ensures.found tree (c.is_of_repository.ensures.stays tree known)))

pub returns-clause-may : goal.returns-clause-may
returns-clause-may g c =
    let whole = c.is_whole.ensures.0 c.if-not-is_whole.false in
    may_begin (g.S.FileSource.shows c.args.source.now) (terms_of c.args.terms.now) c.args.path.now c.args.is_told_folder c.in-Some.kind whole.0 whole.1
    (λ hidden. false≢true (sym c.if-is_hidden.false ∙ c.is_hidden.ensures.1 hidden))
    (λ tree known. subst (λ (k : Option EntryKind). StandsAtStart tree c.args.path.now c.args.is_told_folder k) c.in-Some.is (c.in_ok-kind.ensures.found tree (c.is_of_repository.ensures.stays tree known)))
    (λ tree known. at_false (¬ IsClear (terms_of c.args.terms.now) tree c.args.path.now) (IsClear (terms_of c.args.terms.now) tree c.args.path.now) c.in_ok-is_of_repository.field-0 c.if-branch.false (c.in_ok-is_of_repository.ensures.clear tree known))
