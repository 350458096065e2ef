use Rattle.std.proofs.Common.{sym, ◌∙◌, ⊎_elim}
use Rattle.std.proofs.lemmas.Bool.{false≢true}
use Rattle.tree_files.specs.Narrowing.{asked_of}
use Rattle.tree_files.proofs.lemmas.NarrowedLemmas.{missing, shown_if_asked, unasked}
use Rattle.tree_files.proofs.narrowed.NarrowedFileSource.kind.Goals as goal

pub returns-then-not-have_folder-clause-found : goal.returns-then-not-have_folder-clause-found
returns-then-not-have_folder-clause-found g c = λ tree known. unasked (asked_of c.args.self.now.asked) known.0 tree c.args.path.now known.2
    (⊎_elim
    (λ matched. false≢true (sym c.if-not-is_matched.true ∙ c.matches-is_matched.ensures.1 matched))
    (λ asks. false≢true (sym c.if-not-have_folder.true ∙ c.have_folder.ensures.1 (rw (c.deref.ensures.value, c.in_ok-folder.ensures) asks))))

pub returns-in_default-clause-found : goal.returns-in_default-clause-found
returns-in_default-clause-found g c = λ tree known. missing (asked_of c.args.self.now.asked) known.0 tree c.args.path.now known.2 (sym c.in_default.is ∙ c.in_ok-kind.ensures.found known.0 known.1)

pub returns-clause-found : goal.returns-clause-found
returns-clause-found g c =
    λ tree known. c.if_asked.ensures ∙ shown_if_asked (asked_of c.args.self.now.asked) known.0 tree c.args.path.now c.in-Some.kind c.in_ok-is_asked.is_asked known.2
    (sym c.in-Some.is ∙ c.in_ok-kind.ensures.found known.0 known.1)
    (c.in_ok-is_asked.ensures.asked known.0 (c.kind.ensures.stays known.0 known.1))
