use Rattle.std.proofs.Common.{◌≡◌, Bool, true, false, not, refl, sym, ◌∙◌}
use Rattle.std.proofs.lemmas.Bool.{false≢true}
use Rattle.tree_commands.proofs.files.lookup.Lookup.is_submodule.Goals as goal

not_both : (b : Bool) → not b ≡ true → b ≡ true → ⊥
not_both true turned is = false≢true turned
not_both false turned is = false≢true is

turned_by : (b : Bool) → (b ≡ true → ⊥) → not b ≡ true
turned_by true never = absurd (never refl)
turned_by false never = refl

pub returns-then-is_submodule : goal.returns-then-is_submodule
returns-then-is_submodule c =
    let fits = c.args.self.now.fits c.in-Some.folded c.in-Some.is in
    let submodule = c.is_submodule.ensures c.args.self.now.index.now fits in
    let below = c.has_below.ensures c.args.self.now.index.now fits in
    rw c.in-Some.is (
      λ free. (submodule.0 c.if-is_submodule.true, λ has. not_both c.has_below.result free (below.1 has)),
      λ is. turned_by c.has_below.result (λ has. is.1 (below.0 has)),
    )

pub returns-else-is_submodule : goal.returns-else-is_submodule
returns-else-is_submodule c =
    let submodule = c.is_submodule.ensures c.args.self.now.index.now (c.args.self.now.fits c.in-Some.folded c.in-Some.is) in
    rw c.in-Some.is (
      λ is. absurd (false≢true (sym c.if-is_submodule.false ∙ is)),
      λ is. submodule.1 is.0,
    )
