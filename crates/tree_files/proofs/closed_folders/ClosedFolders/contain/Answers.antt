use Rattle.std.proofs.Common.{◌≡◌, ◌==◌, inl, inr, false, true, IsTrue, nat_eq, refl, sym, subst, ◌∙◌}
use Rattle.std.specs.List.{starts_with}
use Rattle.std.proofs.lemmas.Bool.{false≢true}
use Rattle.tree_files.specs.Closed.{IsBelowLast, IsClosed}
use Rattle.tree_files.proofs.lemmas.ClosedLemmas.{empty_by, some_by}
use Rattle.tree_files.proofs.closed_folders.ClosedFolders.contain.Goals as goal
use Rattle.tree_files.proofs.closed_folders.ClosedFolders.contain.Goals.{else-not-is_empty-via-then-not-is_empty+else-starts_with, else-not-is_empty-via-else-not-is_empty}

pub returns-then-starts_with : goal.returns-then-starts_with
returns-then-starts_with c = (
  (λ _. inl (some_by c.args.self.now.last.items (subst (λ n. false ≡ (n == 0)) c.args.self.now.last.ok.0 c.if-not-is_empty.ensures), subst (λ last. IsTrue (starts_with nat_eq c.args.folder.now last)) c.deref.ensures.value (sym c.if-starts_with.ensures.value))),
  (λ _. refl),
)

pub returns : goal.returns
returns c = (
  (λ is. inr (c.has_shut.ensures.0 is)),
  by_case c,
)
  where
    not_last : (c : goal.After-has_shut) → ¬ IsBelowLast c.args.self.now c.args.folder.now
    not_last c below = elim c.else-not-is_empty.branch [
      | else-not-is_empty-via-then-not-is_empty+else-starts_with w ↦ false≢true (w.if-starts_with.ensures.value ∙ subst (λ last. IsTrue (starts_with nat_eq c.args.folder.now last)) (sym w.deref.ensures.value) below.1)
      | else-not-is_empty-via-else-not-is_empty w ↦ below.0 (empty_by c.args.self.now.last.items (subst (λ n. true ≡ (n == 0)) c.args.self.now.last.ok.0 w.if-not-is_empty.ensures))
    ]

    by_case : (c : goal.After-has_shut) → IsClosed c.args.self.now c.args.folder.now → IsTrue c.has_shut.result
    by_case c (inl below) = absurd (not_last c below)
    by_case c (inr has) = c.has_shut.ensures.1 has
