-- What is shown of a reading as Git's is the line, and where both readings of a line are the same.
use Rattle.std.proofs.Common.{◌≡◌, ◌≢◌, ⊎_elim, ℕ, suc, ◌-◌, Bool, true, false, cond, List, [], ◌∷◌, ◌++◌, length, drop, Option, refl, sym, ap, ◌∙◌, arith}
use Rattle.std.specs.Prelude.{nat_eq, codes}
use Rattle.std.specs.Cmp.Lexicographic.{pointwise}
use Rattle.std.specs.List.{starts_with, ends_with}
use Rattle.std.specs.Str.{bytes_eq}
use Rattle.std.proofs.lemmas.Bool.{cases_Bool}
use Rattle.glob_patterns.specs.declared.mode.Mode.{Mode}
use Rattle.glob_patterns.specs.Patterns.{Reads, is_absolute, is_blank, is_for_directories, is_negative, shown_line, sign_of, slash_if}
use Rattle.glob_patterns.specs.GitLines.{GitReads, begins_with_escaped_sign, negation_of}
use Rattle.glob_patterns.proofs.lemmas.ModeBits.{is_absolute-sum, is_for_directories-sum, is_negative-sum}
use Rattle.glob_patterns.proofs.lemmas.ShownLines.{slash_if-lead}

-- ---- what is shown

-- the sign that is shown: `!`, or nothing
abbrev sign_if : Bool → List ℕ
sign_if there = cond there (codes "!") []

sign_if-again : (there : Bool) → sign_if (bytes_eq (sign_if there) (codes "!")) ≡ sign_if there
sign_if-again true = refl
sign_if-again false = refl

sign_if-sign : (s : List ℕ) (there : Bool) → s ≡ sign_if there → sign_if (bytes_eq s (codes "!")) ≡ s
sign_if-sign s there e = ap (λ (x : List ℕ). sign_if (bytes_eq x (codes "!"))) e ∙ sign_if-again there ∙ sym e

pub shown_line-GitReads : (line text : List ℕ) (mode : Mode) (place : Option ℕ) → GitReads line text mode place → shown_line mode text ≡ line
shown_line-GitReads line text mode place r =
    let sign : sign_if (is_negative mode) ≡ r.sign =
    ap sign_if (is_negative-sum mode _ _ _ _ _ r.bits) ∙ sign_if-sign r.sign (starts_with nat_eq line (codes "!")) r.signed in
    let lead : slash_if (is_absolute mode) ≡ r.lead = ap slash_if (is_absolute-sum mode _ _ _ _ _ r.bits) ∙ slash_if-lead r.lead _ r.leads in
    let tail : slash_if (is_for_directories mode) ≡ r.tail = ap slash_if (is_for_directories-sum mode _ _ _ _ _ r.bits) ∙ slash_if-lead r.tail _ r.trails in
    ap (λ (s : List ℕ). s ++ (slash_if (is_absolute mode) ++ (text ++ slash_if (is_for_directories mode)))) sign
    ∙ ap (λ (l : List ℕ). r.sign ++ (l ++ (text ++ slash_if (is_for_directories mode)))) lead
    ∙ ap (λ (t : List ℕ). r.sign ++ (r.lead ++ (text ++ t))) tail
    ∙ sym r.joined

-- ---- where both readings are the same

abbrev ends_in_slash : List ℕ → Bool
ends_in_slash text = ends_with nat_eq text (codes "/")

-- a byte in front of a text that isn't empty doesn't change its end
ends_in_slash-cons : (b x : ℕ) (more : List ℕ) → ends_in_slash (b ∷ x ∷ more) ≡ ends_in_slash (x ∷ more)
ends_in_slash-cons b x more =
    let next : length (b ∷ x ∷ more) - 1 ≡ suc (length (x ∷ more) - 1) = omega arith in
    ap (λ n. pointwise nat_eq (codes "/") (drop n (b ∷ x ∷ more))) next

-- nor does a slash or nothing, where both together are no slash and not empty
ends_in_slash-lead : (there : Bool) (inner : List ℕ) → is_blank (slash_if there ++ inner) ≡ false → slash_if there ++ inner ≢ codes "/"
    → ends_in_slash inner ≡ ends_in_slash (slash_if there ++ inner)
ends_in_slash-lead true [] some other = absurd (other refl)
ends_in_slash-lead true (x ∷ more) some other = sym (ends_in_slash-cons 47 x more)
ends_in_slash-lead false inner some other = refl

-- what stands before the tail begins with a slash exactly where the whole does
begins_in_slash-front : (there : Bool) (text tail : List ℕ) → slash_if there ≡ slash_if (starts_with nat_eq (slash_if there ++ (text ++ tail)) (codes "/"))
    → slash_if there ≡ slash_if (starts_with nat_eq (slash_if there ++ text) (codes "/"))
begins_in_slash-front true text tail is = refl
begins_in_slash-front false [] tail is = refl
begins_in_slash-front false (b ∷ text) tail is = is

sign_of-negation : (line : List ℕ) → begins_with_escaped_sign line ≡ false → sign_of true line ≡ negation_of line
sign_of-negation line bare = ap (λ (escaped : Bool). cond (starts_with nat_eq line (codes "!")) (codes "!") (cond escaped (codes "\\") [])) bare

pub GitReads-Reads : (line text : List ℕ) (mode : Mode) (place : Option ℕ) → Reads line true text mode place → begins_with_escaped_sign line ≡ false
    → line ≢ codes "/" → line ≢ codes "!/" → GitReads line text mode place
GitReads-Reads line text mode place r bare slash signed_slash =
    let there = starts_with nat_eq (r.lead ++ (text ++ r.tail)) (codes "/") in
    let sign : r.sign ≡ negation_of line = r.signed ∙ sign_of-negation line bare in
    let rest : r.lead ++ (text ++ r.tail) ≡ slash_if there ++ (text ++ r.tail) = ap (λ (l : List ℕ). l ++ (text ++ r.tail)) r.leads in
    let more : r.lead ++ (text ++ r.tail) ≢ codes "/" = λ is.
    ⊎_elim
    (λ (negates : starts_with nat_eq line (codes "!") ≡ true).
    signed_slash (r.joined ∙ ap (λ (s : List ℕ). s ++ (r.lead ++ (text ++ r.tail))) (sign ∙ ap sign_if negates) ∙ ap (λ (t : List ℕ). codes "!" ++ t) is))
    (λ (keeps : starts_with nat_eq line (codes "!") ≡ false).
    slash (r.joined ∙ ap (λ (s : List ℕ). s ++ (r.lead ++ (text ++ r.tail))) (sign ∙ ap sign_if keeps) ∙ is))
    (cases_Bool (starts_with nat_eq line (codes "!"))) in
    record {
      sign = r.sign;
      lead = r.lead;
      tail = r.tail;
      joined = r.joined;
      signed = sign;
      trails = r.trails
          ∙ ap slash_if (ends_in_slash-lead there (text ++ r.tail) (ap is_blank (sym rest) ∙ r.not_blank) (λ is. more (rest ∙ is)))
          ∙ ap (λ (t : List ℕ). slash_if (ends_in_slash t)) (sym rest);
      leads = r.leads
          ∙ begins_in_slash-front there text r.tail (sym r.leads ∙ r.leads ∙ ap (λ (t : List ℕ). slash_if (starts_with nat_eq t (codes "/"))) rest)
          ∙ ap (λ (l : List ℕ). slash_if (starts_with nat_eq (l ++ text) (codes "/"))) (sym r.leads);
      bits = r.bits;
      placed = r.placed;
    }
