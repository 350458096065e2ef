-- A line has one reading, and it has one unless it is blank.
use Rattle.std.proofs.Common.{◌≡◌, ℕ, List, [], ◌∷◌, ◌++◌, drop, Option, Bool, true, false, ◌||◌, ⊎_elim, sym, ◌∙◌, ap, refl, if◌then◌else◌}
use Rattle.std.specs.Prelude.{nat_eq, codes}
use Rattle.std.specs.Char.{is_ascii_whitespace}
use Rattle.std.specs.List.{starts_with, ends_with}
use Rattle.std.proofs.lemmas.Bool.{cases_Bool, or_cases, and_left}
use Rattle.std.proofs.lemmas.Bool.Decides.{Decides-eqb}
use Rattle.std.proofs.lemmas.List.{append_cancel_left, append_cancel_right}
use Rattle.std.proofs.lemmas.Slice.Eq.{starts_is}
use Rattle.glob_patterns.specs.declared.mode.Mode.{Mode}
use Rattle.glob_patterns.specs.Patterns.{Reads, HasReading, sign_of, slash_if, first_special, is_blank, without_negation, IsPattern}
use Rattle.glob_patterns.proofs.lemmas.ModeBits.{is_by_its_end-sum}

pub Reads-once : (line : List ℕ) (may_alter : Bool) (text text' : List ℕ) (mode mode' : Mode) (place place' : Option ℕ) → Reads line may_alter text mode place → Reads line may_alter text' mode' place' → (text ≡ text') × (mode ≡ mode') × (place ≡ place')
Reads-once line may_alter text text' mode mode' place place' r s =
    let signs : r.sign ≡ s.sign = r.signed ∙ sym s.signed in
    let rests : r.lead ++ (text ++ r.tail) ≡ s.lead ++ (text' ++ s.tail) =
    append_cancel_left s.sign _ _ (ap (λ (x : List ℕ). x ++ (r.lead ++ (text ++ r.tail))) (sym signs) ∙ sym r.joined ∙ s.joined) in
    let leads : r.lead ≡ s.lead = r.leads ∙ ap (λ (x : List ℕ). slash_if (starts_with nat_eq x (codes "/"))) rests ∙ sym s.leads in
    let backs : text ++ r.tail ≡ text' ++ s.tail =
    append_cancel_left s.lead _ _ (ap (λ (x : List ℕ). x ++ (text ++ r.tail)) (sym leads) ∙ rests) in
    let tails : r.tail ≡ s.tail = r.trails ∙ ap (λ (x : List ℕ). slash_if (ends_with nat_eq x (codes "/"))) backs ∙ sym s.trails in
    let texts : text ≡ text' =
    append_cancel_right _ _ s.tail (ap (λ (x : List ℕ). text ++ x) (sym tails) ∙ backs) in
    let bits : mode.0 ≡ mode'.0 = cc (r.bits, s.bits, signs, leads, texts, tails) in
    (texts, ap (λ (n : ℕ). let mode : Mode = record { 0 = n } in mode) bits, r.placed ∙ ap first_special texts ∙ sym s.placed)

-- what follows the sign of a line that has a reading isn't blank
pub HasReading-not_blank : (line : List ℕ) (may_alter : Bool) (rest : List ℕ) → line ≡ sign_of may_alter line ++ rest → HasReading line may_alter → is_blank rest ≡ false
HasReading-not_blank line may_alter rest e r =
    let same : rest ≡ r.3.lead ++ (r.0 ++ r.3.tail) =
    append_cancel_left (sign_of may_alter line) _ _ (sym e ∙ r.3.joined ∙ ap (λ (x : List ℕ). x ++ (r.3.lead ++ (r.0 ++ r.3.tail))) r.3.signed) in
    ap is_blank same ∙ r.3.not_blank

-- A line that begins with `\!` or `\#` isn't blank, and neither is what follows the backslash.
is_blank-escaped : (line rest : List ℕ) (b : ℕ) → is_ascii_whitespace b ≡ false → starts_with nat_eq line (92 ∷ b ∷ []) ≡ true → line ≡ codes "\\" ++ rest → is_blank rest ≡ is_blank line
is_blank-escaped line rest b dark begins e =
    let whole : line ≡ 92 ∷ b ∷ drop 2 line = (starts_is Decides-eqb line (92 ∷ b ∷ []) _ refl).0 begins in
    let back : rest ≡ b ∷ drop 2 line = append_cancel_left (codes "\\") _ _ (sym e ∙ whole) in
    ap is_blank back ∙ and_left _ _ dark ∙ sym (ap is_blank whole)

-- What follows the sign is blank exactly where the line without its negation is.
pub is_blank-after_sign : (line : List ℕ) (may_alter : Bool) (rest : List ℕ) → line ≡ sign_of may_alter line ++ rest → is_blank rest ≡ is_blank (if may_alter then without_negation line else line)
is_blank-after_sign line false rest e = ap is_blank (sym e)
is_blank-after_sign line true rest e =
    ⊎_elim
    (λ (negated : starts_with nat_eq line (codes "!") ≡ true). let e' = rw negated at e in rw negated (ap is_blank (ap (drop 1) (sym e'))))
    (λ (bare : starts_with nat_eq line (codes "!") ≡ false).
    let e' = rw bare at e in
    rw bare (
    ⊎_elim
    (λ (escaped : (starts_with nat_eq line (codes "\\!") || starts_with nat_eq line (codes "\\#")) ≡ true).
    let e'' = rw escaped at e' in
    ⊎_elim (λ h. is_blank-escaped line rest 33 refl h e'') (λ h. is_blank-escaped line rest 35 refl h e'') (or_cases _ _ escaped))
    (λ (plain : (starts_with nat_eq line (codes "\\!") || starts_with nat_eq line (codes "\\#")) ≡ false).
    let e'' = rw plain at e' in ap is_blank (sym e''))
    (cases_Bool (starts_with nat_eq line (codes "\\!") || starts_with nat_eq line (codes "\\#")))))
    (cases_Bool (starts_with nat_eq line (codes "!")))

-- What is read is the text, the mode and the place of a pattern.
pub IsPattern-Reads : (line : List ℕ) (may_alter : Bool) (text : List ℕ) (mode : Mode) (place : Option ℕ) → Reads line may_alter text mode place → IsPattern text mode place
IsPattern-Reads line may_alter text mode place r = record {
  placed = r.placed;
  ends = λ stands. sym (is_by_its_end-sum mode _ _ _ _ _ r.bits) ∙ stands;
}
