-- What is written of a pattern that Git's reading gave is its line.
use Rattle.std.proofs.Common.{◌≡◌, ⊎_elim, ℕ, Bool, true, false, not, ◌&&◌, List, [], ◌++◌, Option, refl, sym, ap, ◌∙◌, codes, nat_eq, if◌then◌else◌}
use Rattle.std.specs.List.{starts_with}
use Rattle.std.specs.Str.{bytes_eq}
use Rattle.std.proofs.lemmas.Bool.{cases_Bool, and_parts, or_cases, false≢true}
use Rattle.std.proofs.lemmas.Bool.Decides.{Decides-eqb}
use Rattle.std.proofs.lemmas.Slice.Eq.{starts_is}
use Rattle.gix_glob.specs.declared.pattern.Mode.{Mode}
use Rattle.gix_glob.specs.GitLines.{GitReads}
use Rattle.gix_glob.specs.Patterns.{is_absolute, is_for_directories, is_negative, shown_line, slash_if}
use Rattle.glob_patterns.proofs.lemmas.ModeBits.{is_negative-sum}
use Rattle.tree_answers.specs.Lines.{begins_with_sign, pattern_line}
use Rattle.tree_answers.proofs.lemmas.PatternLines.{not_false}

-- what a text begins with begins it with more behind it, too
mark_begins : (text tail : List ℕ) → starts_with nat_eq text (codes "!") ≡ true → starts_with nat_eq (text ++ tail) (codes "!") ≡ true
mark_begins text tail mark = ap (λ (t : List ℕ). starts_with nat_eq (t ++ tail) (codes "!")) ((starts_is Decides-eqb text (codes "!") _ refl).0 mark)

number_begins : (text tail : List ℕ) → starts_with nat_eq text (codes "#") ≡ true → starts_with nat_eq (text ++ tail) (codes "#") ≡ true
number_begins text tail mark = ap (λ (t : List ℕ). starts_with nat_eq (t ++ tail) (codes "#")) ((starts_is Decides-eqb text (codes "#") _ refl).0 mark)

module _ (line text : List ℕ) (mode : Mode) (place : Option ℕ) (other : starts_with nat_eq line (codes "#") ≡ false) (r : GitReads line text mode place) (shown : shown_line mode text ≡ line) where
  -- with neither a sign nor a slash before it, the text begins the line
  bare_line : is_negative mode ≡ false → is_absolute mode ≡ false → line ≡ text ++ slash_if (is_for_directories mode)
  bare_line positive relative =
      sym shown
      ∙ ap (λ (b : Bool). (if b then codes "!" else []) ++ (slash_if (is_absolute mode) ++ (text ++ slash_if (is_for_directories mode)))) positive
      ∙ ap (λ (b : Bool). slash_if b ++ (text ++ slash_if (is_for_directories mode))) relative

  -- a line that begins with a mark has a sign
  marked : starts_with nat_eq line (codes "!") ≡ true → is_negative mode ≡ true
  marked mark =
      is_negative-sum mode _ _ _ _ _ r.bits
      ∙ ap (λ (s : List ℕ). bytes_eq s (codes "!")) (r.signed ∙ ap (λ (b : Bool). if b then codes "!" else []) mark)

  -- so no backslash is written
  no_sign : is_negative mode ≡ false → is_absolute mode ≡ false → begins_with_sign text ≡ true → true ≡ false
  no_sign positive relative begins =
      let is = bare_line positive relative in
      ⊎_elim
      (λ (mark : starts_with nat_eq text (codes "!") ≡ true). sym (marked (ap (λ (l : List ℕ). starts_with nat_eq l (codes "!")) is ∙ mark_begins text (slash_if (is_for_directories mode)) mark)) ∙ positive)
      (λ (mark : starts_with nat_eq text (codes "#") ≡ true). sym (ap (λ (l : List ℕ). starts_with nat_eq l (codes "#")) is ∙ number_begins text (slash_if (is_for_directories mode)) mark) ∙ other)
      (or_cases _ _ begins)

  pub written : pattern_line mode text ≡ line
  written = ⊎_elim
      (λ (yes : (not (is_negative mode) && (not (is_absolute mode) && begins_with_sign text)) ≡ true).
      let outer = and_parts (not (is_negative mode)) (not (is_absolute mode) && begins_with_sign text) yes in
      let inner = and_parts (not (is_absolute mode)) (begins_with_sign text) outer.1 in
      absurd (false≢true (sym (no_sign (not_false (is_negative mode) outer.0) (not_false (is_absolute mode) inner.0) inner.1))))
      (λ (no : (not (is_negative mode) && (not (is_absolute mode) && begins_with_sign text)) ≡ false).
      ap (λ (b : Bool). (if b then codes "\\" else []) ++ shown_line mode text) no ∙ shown)
      (cases_Bool (not (is_negative mode) && (not (is_absolute mode) && begins_with_sign text)))
