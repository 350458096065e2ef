-- The parts are such, and a slice has bytes.
use Rattle.std.proofs.Common.{◌<◌, sym, ◌∙◌, subst}
use Rattle.std.proofs.lemmas.List.{get_or_default}
use Rattle.glob_lint.proofs.real.is_real.Goals as goal

pub returns : goal.returns
returns c = (
  λ yes. record {
    bytes = λ k d inside. subst (λ b. b < 256) (sym (get_or_default c.args.path.now k d 0 inside)) (c.type_inv.path k).fits;
    parts = sym c.has_real_parts.ensures ∙ yes;
  },
  λ real. c.has_real_parts.ensures ∙ real.parts,
)
