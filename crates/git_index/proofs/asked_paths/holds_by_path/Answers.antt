use Rattle.std.proofs.Common.{refl, sym, ◌∙◌, inl, inr}
use Rattle.std.proofs.lemmas.Bool.{false≢true}
use Rattle.git_index.proofs.lemmas.AskedPaths.{held_above, held_itself, held_submodule, no_slash, slash_off, slash_parts, whole_parts}
use Rattle.git_index.proofs.asked_paths.holds_by_path.Goals as goal

pub returns-then-is_tracked : goal.returns-then-is_tracked
returns-then-is_tracked c = (λ yes. held_itself c.args.index.now c.args.asked.now (c.is_tracked.ensures.0 c.if-is_tracked.true), λ h. refl)

pub returns-in_default : goal.returns-in_default
returns-in_default c = (
  λ yes. held_above c.args.index.now c.args.asked.now c.args.asked.now (inl refl) (c.has_below.ensures.0 yes),
  λ held. elim (whole_parts c.args.index.now c.args.asked.now (no_slash c.args.asked.now c.in_default.ensures.cases) held) [
    | inl itself ↦ absurd (false≢true (sym c.if-is_tracked.false ∙ c.is_tracked.ensures.1 itself))
    | inr below ↦ c.has_below.ensures.1 below
  ],
)

pub returns-then-has_below : goal.returns-then-has_below
returns-then-has_below c =
    let ends = slash_off c.args.asked.now c.in-Some.folder.now c.in-Some.ensures.cases.0 c.in-Some.ensures.cases.1 in
    (λ yes. held_above c.args.index.now c.args.asked.now c.in-Some.folder.now (inr ends) (c.has_below-2.ensures.0 c.if-has_below.true), λ h. refl)

pub returns : goal.returns
returns c =
    let ends = slash_off c.args.asked.now c.in-Some.folder.now c.in-Some.ensures.cases.0 c.in-Some.ensures.cases.1 in (
      λ yes. held_submodule c.args.index.now c.args.asked.now c.in-Some.folder.now ends (c.is_submodule.ensures.0 yes),
      λ held. elim (slash_parts c.args.index.now c.args.asked.now c.in-Some.folder.now ends held) [
        | inl itself ↦ absurd (false≢true (sym c.if-is_tracked.false ∙ c.is_tracked.ensures.1 itself))
        | inr (inl below) ↦ absurd (false≢true (sym c.if-has_below.false ∙ c.has_below-2.ensures.1 below))
        | inr (inr submodule) ↦ c.is_submodule.ensures.1 submodule
      ],
    )
