use Rattle.std.proofs.Common.{ℕ, List, inl, inr, refl, sym, subst, true, ◌≡◌, ◌∙◌}
use Rattle.std.proofs.lemmas.Bool.{false≢true}
use Rattle.pathspecs.specs.Lists.{MayMatchIn}
use Rattle.tree_commands.specs.Lookups.{HasEntryBelow}
use Rattle.tree_files.specs.Narrowing.{AsksRepository, IsOpen, as_folder, asked_of}
use Rattle.tree_files.proofs.lemmas.NarrowedLemmas.{no_repository, none_may}
use Rattle.tree_files.proofs.narrowed.Narrowed.is_folder_asked.Goals as goal

pub returns-then-open_tracked-clause-asked : goal.returns-then-open_tracked-clause-asked
returns-then-open_tracked-clause-asked g c =
    let asked = asked_of c.args.self.now.asked in
    λ whole known. (λ _. inl (subst (λ (f : List ℕ). HasEntryBelow asked.tracked c.args.path.now × IsOpen asked.items f) c.requires (c.open_tracked.ensures.0 c.if-open_tracked.true)), λ _. refl)

pub returns-then-not-may_match_in-clause-asked : goal.returns-then-not-may_match_in-clause-asked
returns-then-not-may_match_in-clause-asked g c =
    let items = c.args.self.now.asked.list.now in
    let folder = as_folder c.args.path.now in
    let asked = asked_of c.args.self.now.asked in
    λ whole known. none_may (HasEntryBelow asked.tracked c.args.path.now × IsOpen asked.items folder) (MayMatchIn items folder) (whole.has_git c.args.path.now ≡ true → AsksRepository asked folder)
    (λ opens. false≢true (sym c.if-open_tracked.false ∙ c.open_tracked.ensures.1 (subst (λ (f : List ℕ). HasEntryBelow asked.tracked c.args.path.now × IsOpen asked.items f) (sym c.requires) opens)))
    (λ may. false≢true (sym c.if-not-may_match_in.true ∙ c.may_match_in.ensures.1 (subst (λ (f : List ℕ). MayMatchIn items f) (sym c.requires) may)))

pub returns-then-asks_repository-clause-asked : goal.returns-then-asks_repository-clause-asked
returns-then-asks_repository-clause-asked g c =
    let items = c.args.self.now.asked.list.now in
    let asked = asked_of c.args.self.now.asked in
    let may : MayMatchIn items (as_folder c.args.path.now) = subst (λ (f : List ℕ). MayMatchIn items f) c.requires (c.may_match_in.ensures.0 c.if-not-may_match_in.false) in
    let asks : AsksRepository asked (as_folder c.args.path.now) = subst (λ (f : List ℕ). AsksRepository asked f) c.requires (c.asks_repository.ensures.0 c.if-asks_repository.true) in
    λ whole known. (λ _. inr (may, λ _. asks), λ _. refl)

pub returns-clause-asked : goal.returns-clause-asked
returns-clause-asked g c =
    let items = c.args.self.now.asked.list.now in
    let folder = as_folder c.args.path.now in
    let asked = asked_of c.args.self.now.asked in
    let may : MayMatchIn items folder = subst (λ (f : List ℕ). MayMatchIn items f) c.requires (c.may_match_in.ensures.0 c.if-not-may_match_in.false) in
    λ whole known. no_repository (HasEntryBelow asked.tracked c.args.path.now × IsOpen asked.items folder) (MayMatchIn items folder) (AsksRepository asked folder) c.in_ok-has_git.has_git (whole.has_git c.args.path.now) (c.in_ok-has_git.ensures.found whole known)
    (λ opens. false≢true (sym c.if-open_tracked.false ∙ c.open_tracked.ensures.1 (subst (λ (f : List ℕ). HasEntryBelow asked.tracked c.args.path.now × IsOpen asked.items f) (sym c.requires) opens)))
    may
    (λ asks. false≢true (sym c.if-asks_repository.false ∙ c.asks_repository.ensures.1 (subst (λ (f : List ℕ). AsksRepository asked f) (sym c.requires) asks)))
