-- A token of one byte that takes no slash, or a star within a part.
use Rattle.std.proofs.Common.{◌≡◌, inl, inr, true, not, sym, ◌∙◌, subst}
use Rattle.std.proofs.lemmas.Bool.{false≢true}
use Rattle.glob_lint.specs.Private.Running.{IsOfOneByte}
use Rattle.glob_lint.proofs.lemmas.Running.{any_is_one, byte_is_one, one_within, set_is_one}
use Rattle.glob_lint.proofs.tokens.LineTokens.keeps_within.Goals as goal

pub returns-in-Byte : goal.returns-in-Byte
returns-in-Byte c = λ after next none.
    let way = c.args.way in
    let one : IsOfOneByte way next.token = elim c.in-Byte.is [
      | inl byte ↦ byte_is_one way byte.0 next.token (sym byte.1 ∙ next.same_kind)
      | inr other ↦ elim other [
        | inl any ↦ any_is_one way next.token (sym any ∙ next.same_kind)
        | inr set ↦ set_is_one way next.token (sym set ∙ next.same_kind)
      ]
    ] in
    one_within way next.token one (λ fits. false≢true (subst (λ b. not b ≡ true) ((c.fits.ensures after next).1 fits) none))
