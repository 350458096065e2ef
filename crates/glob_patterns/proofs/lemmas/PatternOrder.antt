-- Patterns are equal exactly where they agree in their three parts, and tie in the order exactly there.
use Rattle.std.proofs.Common.{◌≡◌, ◌↔◌, ℕ, Bool, true, ◌&&◌, IsTrue, Option, None, Some, refl, sym, ◌∙◌, ap, nat_eq}
use Rattle.std.specs.Cmp.Lexicographic.{pointwise}
use Rattle.std.specs.Option.{option_eq}
use Rattle.std.proofs.lemmas.Bool.{and_parts, and_from, eqb-true, eq-eqb}
use Rattle.std.proofs.lemmas.Slice.Eq.{bytes_eq-Decides}
use Rattle.glob_patterns.specs.declared.mode.Mode.{Mode}
use Rattle.glob_patterns.specs.declared.pattern.Pattern.{Pattern}
use Rattle.glob_patterns.specs.PatternParts.{text_of, mode_of, place_of, SamePattern}

option_eq-true : (a b : Option ℕ) → option_eq nat_eq a b ≡ true → a ≡ b
option_eq-true None None h = refl
option_eq-true None (Some y) h = cc
option_eq-true (Some x) None h = cc
option_eq-true (Some x) (Some y) h = ap Some (eqb-true x y h)

option_eq-same : (a : Option ℕ) → option_eq nat_eq a a ≡ true
option_eq-same None = refl
option_eq-same (Some x) = eq-eqb x x refl

-- what `==` of patterns computes
abbrev pub pattern_eq : Pattern → Pattern → Bool
pattern_eq p q = pointwise nat_eq (text_of p) (text_of q) && (nat_eq (mode_of p).0 (mode_of q).0 && option_eq nat_eq (place_of p) (place_of q))

pub equal_patterns : (p q : Pattern) → IsTrue (pattern_eq p q) ↔ SamePattern p q
equal_patterns p q = (
  λ equal. (let texts = and_parts _ _ equal in
      let others = and_parts _ _ texts.1 in
      record {
        text = (bytes_eq-Decides (text_of p) (text_of q)).0 texts.0;
        mode = ap (λ (n : ℕ). let mode : Mode = record { 0 = n } in mode) (eqb-true _ _ others.0);
        place = option_eq-true _ _ others.1;
      }),
  λ same. and_from _ _ ((bytes_eq-Decides (text_of p) (text_of q)).1 same.text)
      (and_from _ _ (eq-eqb _ _ (ap (λ (m : Mode). m.0) same.mode))
      (ap (λ (k : Option ℕ). option_eq nat_eq (place_of p) k) (sym same.place) ∙ option_eq-same (place_of p))),
)
