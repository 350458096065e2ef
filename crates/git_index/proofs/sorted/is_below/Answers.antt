use Rattle.std.proofs.Common.{sym, ◌∙◌}
use Rattle.std.proofs.lemmas.Bool.{eqb-true}
use Rattle.git_index.proofs.lemmas.Folding.{alike_by_cmp, cmp_of_alike, front_below, goes_on_below, slash_below}
use Rattle.git_index.proofs.sorted.is_below.Goals as goal

pub returns-then-path-folder-eq47 : goal.returns-then-path-folder-eq47
returns-then-path-folder-eq47 c =
    let path = c.args.path.now in
    let folder = c.args.folder.now in
    let told = rw c.compare.ensures at c.is_eq.ensures in (
      λ yes. goes_on_below path folder 0 c.if-path-folder.false c.if-path-folder-eq47.true (alike_by_cmp _ _ (sym told ∙ yes)),
      λ below. told ∙ cmp_of_alike _ _ (front_below path folder below),
    )

pub returns-else-path-folder-eq47 : goal.returns-else-path-folder-eq47
returns-else-path-folder-eq47 c = (
  λ yes. absurd (c.if-path-folder-eq47.false (eqb-true _ _ yes)),
  λ below. absurd (c.if-path-folder-eq47.false (slash_below c.args.path.now c.args.folder.now 0 c.if-path-folder.false below)),
)
