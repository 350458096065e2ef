use Rattle.std.proofs.Common.{List, refl, subst, sym, ◌∙◌, inl, inr}
use Rattle.std.proofs.lemmas.Bool.{eqb-true, false≢true}
use Rattle.git_index.specs.Entries.{Tracked}
use Rattle.git_index.specs.Holding.{IsHeld}
use Rattle.git_index.specs.Private.Parts.{IsHeldByPath, IsHeldByPattern}
use Rattle.git_index.proofs.lemmas.Holding.{held_by_path, held_by_pattern, held_top, no_bytes, none_in_none, parts, some_bytes}
use Rattle.git_index.proofs.tracked_paths.TrackedPaths.holds.Goals as goal

pub returns-then-is_empty : goal.returns-then-is_empty
returns-then-is_empty c = (
  λ f. absurd (false≢true f),
  λ held. absurd (none_in_none c.args.asked.now c.args.literal (subst (λ (es : List Tracked). IsHeld es c.args.asked.now c.args.literal) (c.is_empty.ensures.0 c.if-is_empty.true) held)),
)

pub returns-then-is_empty-2 : goal.returns-then-is_empty-2
returns-then-is_empty-2 c =
    (λ yes. held_top c.args.self.now c.args.asked.now c.args.literal (λ none. false≢true (sym c.if-is_empty.false ∙ c.is_empty.ensures.1 none)) (no_bytes c.args.asked.now (eqb-true _ _ (sym c.is_empty-2.ensures ∙ c.if-is_empty-2.true))), λ h. refl)

pub returns-then-holds_by_path : goal.returns-then-holds_by_path
returns-then-holds_by_path c = (λ yes. held_by_path c.args.self.now c.args.asked.now c.args.literal (subst (λ (es : List Tracked). IsHeldByPath es c.args.asked.now) c.self.view_is (c.holds_by_path.ensures.0 c.if-holds_by_path.true)), λ h. refl)

pub returns : goal.returns
returns c = (
  λ yes. held_by_pattern c.args.self.now c.args.asked.now c.args.literal (subst (λ (es : List Tracked). IsHeldByPattern es c.args.asked.now c.args.literal) (c.entries.ensures ∙ c.self.view_is) (c.holds_by_pattern.ensures.0 yes)),
  λ held. elim (parts c.args.self.now c.args.asked.now c.args.literal held) [
    | inl top ↦ absurd (some_bytes c.args.asked.now c.is_empty-2.result c.is_empty-2.ensures c.if-is_empty-2.false top)
    | inr (inl path) ↦ absurd (false≢true (sym c.if-holds_by_path.false ∙ c.holds_by_path.ensures.1 (subst (λ (es : List Tracked). IsHeldByPath es c.args.asked.now) (sym c.self.view_is) path)))
    | inr (inr fits) ↦ c.holds_by_pattern.ensures.1 (subst (λ (es : List Tracked). IsHeldByPattern es c.args.asked.now c.args.literal) (sym (c.entries.ensures ∙ c.self.view_is)) fits)
  ],
)
