-- Texts that begin with a byte, or don't.
use Rattle.std.proofs.Common.{◌≡◌, ⊎_elim, ℕ, true, List, [], ◌∷◌, take, refl, sym, ap, ◌∙◌}
use Rattle.std.specs.Prelude.{◌&&◌, ◌==◌, nat_eq}
use Rattle.std.specs.List.{starts_with}
use Rattle.std.proofs.lemmas.Bool.{eq-eqb, ne_eqb}
use Rattle.std.proofs.lemmas.Bool.Decides.{eqb_tells}
use lib.Pointwise.{pointwise}

same : (b c : ℕ) → (b == c) ≡ (c == b)
same b c =
    ⊎_elim
    (λ is. is.0 ∙ sym (eq-eqb c b (sym is.1)))
    (λ is. is.0 ∙ sym (ne_eqb c b (λ e. is.1 (sym e))))
    (eqb_tells b c)

-- a text is compared with a byte from either side
pub starts_with-byte : (c : ℕ) (text : List ℕ) → starts_with nat_eq text (c ∷ []) ≡ pointwise nat_eq (take 1 text) (c ∷ [])
starts_with-byte c [] = refl
starts_with-byte c (b ∷ text) = ap (λ t. t && true) (same c b)
