-- What is written of a pattern is read back.
use Rattle.std.proofs.Common.{◌≡◌, ⊎_elim, ℕ, Bool, true, false, not, ◌&&◌, ◌||◌, IsTrue, List, [], ◌++◌, Option, refl, sym, ap, subst, ◌∙◌, codes, nat_eq, if◌then◌else◌}
use Rattle.std.specs.List.{starts_with}
use Rattle.std.specs.Str.{bytes_eq}
use Rattle.std.proofs.lemmas.Bool.{cases_Bool, and_parts, or_cases, false≢true}
use Rattle.std.proofs.lemmas.Bool.Decides.{Decides-eqb}
use Rattle.std.proofs.lemmas.Slice.Eq.{starts_is}
use Rattle.gix_glob.specs.declared.pattern.Mode.{Mode}
use Rattle.gix_glob.specs.Patterns.{Reads, is_absolute, is_blank, is_for_directories, is_negative, shown_line, sign_of, slash_if}
use Rattle.gix_glob.specs.Bytes.{has_slash}
use Rattle.glob_patterns.specs.Patterns.{is_star_and_literal}
use Rattle.glob_patterns.proofs.lemmas.ModeBits.{sum_of_bits, is_absolute-sum, is_for_directories-sum, is_negative-sum}
use Rattle.tree_answers.specs.Lines.{begins_with_sign, pattern_line}

-- a slash that is told to stand is there
slash_if-again : (l : List ℕ) (there : Bool) → l ≡ slash_if there → slash_if (bytes_eq l (codes "/")) ≡ l
slash_if-again l true e = ap (λ (x : List ℕ). slash_if (bytes_eq x (codes "/"))) e ∙ sym e
slash_if-again l false e = ap (λ (x : List ℕ). slash_if (bytes_eq x (codes "/"))) e ∙ sym e

-- a backslash before a text with a sign is the sign of the line
escaped_sign : (text tail : List ℕ) → begins_with_sign text ≡ true → codes "\\" ≡ sign_of true (codes "\\" ++ (text ++ tail))
escaped_sign text tail begins = ⊎_elim
    (λ (mark : starts_with nat_eq text (codes "!") ≡ true).
    ap (λ (t : List ℕ). sign_of true (codes "\\" ++ (t ++ tail))) (sym ((starts_is Decides-eqb text (codes "!") _ refl).0 mark)))
    (λ (number : starts_with nat_eq text (codes "#") ≡ true).
    ap (λ (t : List ℕ). sign_of true (codes "\\" ++ (t ++ tail))) (sym ((starts_is Decides-eqb text (codes "#") _ refl).0 number)))
    (or_cases _ _ begins)

pub not_false : (b : Bool) → not b ≡ true → b ≡ false
not_false true h = absurd (false≢true h)
not_false false h = refl

-- where no backslash is written, a text with `!` at its front has something before it
unmarked : (negative absolute begins marked : Bool) → (not negative && (not absolute && begins)) ≡ false → (marked ≡ true → begins ≡ true) → IsTrue marked → IsTrue (negative || absolute)
unmarked true absolute begins marked none so is = refl
unmarked false true begins marked none so is = refl
unmarked false false begins marked none so is = absurd (false≢true (sym none ∙ so is))

or_left : (a b : Bool) → a ≡ true → (a || b) ≡ true
or_left true b h = refl
or_left false b h = absurd (false≢true h)

module _ (line text : List ℕ) (mode : Mode) (place : Option ℕ) (r : Reads line true text mode place) where
  module _ (positive : is_negative mode ≡ false) (relative : is_absolute mode ≡ false) (begins : begins_with_sign text ≡ true) where
    no_lead : r.lead ≡ []
    no_lead = sym (slash_if-again r.lead _ r.leads) ∙ ap slash_if (sym (is_absolute-sum mode _ _ _ _ _ r.bits) ∙ relative)

    tail_is : slash_if (is_for_directories mode) ≡ r.tail
    tail_is = ap slash_if (is_for_directories-sum mode _ _ _ _ _ r.bits) ∙ slash_if-again r.tail _ r.trails

    written_is : codes "\\" ++ shown_line mode text ≡ codes "\\" ++ (text ++ r.tail)
    written_is =
        ap (λ (b : Bool). codes "\\" ++ ((if b then codes "!" else []) ++ (slash_if (is_absolute mode) ++ (text ++ slash_if (is_for_directories mode))))) positive
        ∙ ap (λ (b : Bool). codes "\\" ++ (slash_if b ++ (text ++ slash_if (is_for_directories mode)))) relative
        ∙ ap (λ (t : List ℕ). codes "\\" ++ (text ++ t)) tail_is

    no_mark : bytes_eq r.sign (codes "!") ≡ false
    no_mark = sym (is_negative-sum mode _ _ _ _ _ r.bits) ∙ positive

    escaped : Reads (codes "\\" ++ shown_line mode text) true text mode place
    escaped = record {
      sign = codes "\\";
      lead = [];
      tail = r.tail;
      joined = written_is;
      signed = escaped_sign text r.tail begins ∙ ap (sign_of true) (sym written_is);
      not_blank = subst (λ (l : List ℕ). is_blank (l ++ (text ++ r.tail)) ≡ false) no_lead r.not_blank;
      leads = sym no_lead ∙ r.leads ∙ ap (λ (l : List ℕ). slash_if (starts_with nat_eq (l ++ (text ++ r.tail)) (codes "/"))) no_lead;
      trails = r.trails;
      bits = r.bits
          ∙ ap (λ (x : Bool). sum_of_bits (has_slash text) (is_star_and_literal text) (bytes_eq r.tail (codes "/")) x (bytes_eq r.lead (codes "/"))) no_mark
          ∙ ap (λ (l : List ℕ). sum_of_bits (has_slash text) (is_star_and_literal text) (bytes_eq r.tail (codes "/")) false (bytes_eq l (codes "/"))) no_lead;
      placed = r.placed;
    }

  pub read_back : ((IsTrue (starts_with nat_eq text (codes "!")) → IsTrue (is_negative mode || is_absolute mode)) → Reads (shown_line mode text) true text mode place)
      → Reads (pattern_line mode text) true text mode place
  read_back shown = ⊎_elim
      (λ (yes : (not (is_negative mode) && (not (is_absolute mode) && begins_with_sign text)) ≡ true).
      let outer = and_parts (not (is_negative mode)) (not (is_absolute mode) && begins_with_sign text) yes in
      let inner = and_parts (not (is_absolute mode)) (begins_with_sign text) outer.1 in
      subst (λ (b : Bool). Reads ((if b then codes "\\" else []) ++ shown_line mode text) true text mode place) (sym yes)
      (escaped (not_false (is_negative mode) outer.0) (not_false (is_absolute mode) inner.0) inner.1))
      (λ (no : (not (is_negative mode) && (not (is_absolute mode) && begins_with_sign text)) ≡ false).
      subst (λ (b : Bool). Reads ((if b then codes "\\" else []) ++ shown_line mode text) true text mode place) (sym no)
      (shown (unmarked (is_negative mode) (is_absolute mode) (begins_with_sign text) (starts_with nat_eq text (codes "!")) no
      (or_left (starts_with nat_eq text (codes "!")) (starts_with nat_eq text (codes "#"))))))
      (cases_Bool (not (is_negative mode) && (not (is_absolute mode) && begins_with_sign text)))
