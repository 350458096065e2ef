-- What is shown of a reading is read back.
use Rattle.std.proofs.Common.{◌≡◌, ℕ, suc, Bool, true, false, ◌||◌, IsTrue, List, [], ◌∷◌, ◌++◌, length, get_or, drop, arith, Option, ◌⊎◌, inl, inr, ⊎_elim, sym, ◌∙◌, ap, refl, codes, nat_eq, if◌then◌else◌}
use Rattle.std.specs.List.{starts_with}
use Rattle.std.specs.Str.{bytes_eq}
use Rattle.std.proofs.lemmas.Bool.{cases_Bool, or_cases, false≢true}
use Rattle.std.proofs.lemmas.Bool.Decides.{Decides-eqb}
use Rattle.std.proofs.lemmas.List.{append_cancel_left}
use Rattle.std.proofs.lemmas.Slice.Eq.{starts_is}
use Rattle.glob_matcher.specs.Bytes.{has_slash}
use Rattle.glob_patterns.specs.declared.mode.Mode.{Mode}
use Rattle.glob_patterns.specs.Patterns.{Reads, sign_of, slash_if, shown_line, is_star_and_literal, is_negative, is_absolute, is_for_directories}
use Rattle.glob_patterns.proofs.lemmas.ModeBits.{sum_of_bits, is_negative-sum, is_absolute-sum, is_for_directories-sum}

-- a slash that stands is a slash
slash_if-again : (there : Bool) → slash_if (bytes_eq (slash_if there) (codes "/")) ≡ slash_if there
slash_if-again true = refl
slash_if-again false = refl

-- the sign that is shown: `!`, or nothing
abbrev sign_if : Bool → List ℕ
sign_if there = if there then codes "!" else []

pub slash_if-lead : (l : List ℕ) (there : Bool) → l ≡ slash_if there → slash_if (bytes_eq l (codes "/")) ≡ l
slash_if-lead l there e = ap (λ (x : List ℕ). slash_if (bytes_eq x (codes "/"))) e ∙ slash_if-again there ∙ sym e

bytes_eq-sign_if : (there : Bool) → bytes_eq (sign_if there) (codes "!") ≡ there
bytes_eq-sign_if true = refl
bytes_eq-sign_if false = refl

-- a mark that stands is the sign of the line that begins with it
sign_of-marked : (there : Bool) (rest : List ℕ) → there ≡ true → sign_if there ≡ sign_of true (sign_if there ++ rest)
sign_of-marked true rest h = refl
sign_of-marked false rest h = absurd (false≢true h)

-- and nothing is, where what follows has no sign of its own
sign_of-bare : (there : Bool) (rest : List ℕ) → there ≡ false → sign_of true rest ≡ [] → sign_if there ≡ sign_of true (sign_if there ++ rest)
sign_of-bare true rest h bare = absurd (false≢true (sym h))
sign_of-bare false rest h bare = sym bare

-- a line that begins with `!` and no slash has a text that does
starts_with-sign : (text tail xs : List ℕ) (there : Bool) → tail ≡ slash_if there → text ++ tail ≡ 33 ∷ xs → starts_with nat_eq text (codes "!") ≡ true
starts_with-sign [] tail xs true t e =
    let heads : ◌≡◌ {A = ℕ} 47 33 = ap (λ (l : List ℕ). get_or l 0 0) (sym t ∙ e) in absurd (omega arith)
starts_with-sign [] tail xs false t e =
    let lengths : ◌≡◌ {A = ℕ} 0 (suc (length xs)) = ap (λ (l : List ℕ). length l) (sym t ∙ e) in absurd (omega arith)
starts_with-sign (b ∷ bs) tail xs there t e =
    let head : b ≡ 33 = ap (λ (l : List ℕ). get_or l 0 0) e in ap (λ (n : ℕ). starts_with nat_eq (n ∷ bs) (codes "!")) head

module _ (line text : List ℕ) (mode : Mode) (place : Option ℕ) (r : Reads line true text mode place)
    (unmarked : IsTrue (starts_with nat_eq text (codes "!")) → IsTrue (is_negative mode || is_absolute mode)) where
  negative_is : is_negative mode ≡ bytes_eq r.sign (codes "!")
  negative_is = is_negative-sum mode _ _ _ _ _ r.bits

  absolute_is : is_absolute mode ≡ bytes_eq r.lead (codes "/")
  absolute_is = is_absolute-sum mode _ _ _ _ _ r.bits

  lead_is : slash_if (is_absolute mode) ≡ r.lead
  lead_is = ap slash_if absolute_is ∙ slash_if-lead r.lead _ r.leads

  tail_is : slash_if (is_for_directories mode) ≡ r.tail
  tail_is = ap slash_if (is_for_directories-sum mode _ _ _ _ _ r.bits) ∙ slash_if-lead r.tail _ r.trails

  shown_is : shown_line mode text ≡ sign_if (is_negative mode) ++ (r.lead ++ (text ++ r.tail))
  shown_is =
      ap (λ (l : List ℕ). sign_if (is_negative mode) ++ (l ++ (text ++ slash_if (is_for_directories mode)))) lead_is
      ∙ ap (λ (t : List ℕ). sign_if (is_negative mode) ++ (r.lead ++ (text ++ t))) tail_is

  -- what follows the backslash of an escaped sign has no sign: it begins with `#`, or else `!` or a slash stands before it
  escaped_rest : (b : ℕ) → (b ≡ 33) ⊎ (b ≡ 35) → starts_with nat_eq line (92 ∷ b ∷ []) ≡ true → r.sign ≡ codes "\\"
      → sign_of true (r.lead ++ (text ++ r.tail)) ≡ []
  escaped_rest b which begins sign =
      let whole : line ≡ 92 ∷ b ∷ drop 2 line = (starts_is Decides-eqb line (92 ∷ b ∷ []) _ refl).0 begins in
      let joined : line ≡ codes "\\" ++ (r.lead ++ (text ++ r.tail)) = r.joined ∙ ap (λ (x : List ℕ). x ++ (r.lead ++ (text ++ r.tail))) sign in
      let rest : r.lead ++ (text ++ r.tail) ≡ b ∷ drop 2 line = append_cancel_left (codes "\\") _ _ (sym joined ∙ whole) in
      ⊎_elim
      (λ (mark : b ≡ 33).
      let marked : r.lead ++ (text ++ r.tail) ≡ 33 ∷ drop 2 line = rest ∙ ap (λ (n : ℕ). n ∷ drop 2 line) mark in
      let no_lead : r.lead ≡ [] = r.leads ∙ ap (λ (x : List ℕ). slash_if (starts_with nat_eq x (codes "/"))) marked in
      let bare : text ++ r.tail ≡ 33 ∷ drop 2 line = ap (λ (x : List ℕ). x ++ (text ++ r.tail)) (sym no_lead) ∙ marked in
      let negative : is_negative mode ≡ false = negative_is ∙ ap (λ (x : List ℕ). bytes_eq x (codes "!")) sign in
      let absolute : is_absolute mode ≡ false = absolute_is ∙ ap (λ (x : List ℕ). bytes_eq x (codes "/")) no_lead in
      absurd (⊎_elim (λ h. false≢true (sym negative ∙ h)) (λ h. false≢true (sym absolute ∙ h))
      (or_cases _ _ (unmarked (starts_with-sign text r.tail (drop 2 line) _ r.trails bare)))))
      (λ (number : b ≡ 35). ap (sign_of true) (rest ∙ ap (λ (n : ℕ). n ∷ drop 2 line) number))
      which

  sign_is : sign_if (is_negative mode) ≡ sign_of true (sign_if (is_negative mode) ++ (r.lead ++ (text ++ r.tail)))
  sign_is =
      ⊎_elim
      (λ (negated : starts_with nat_eq line (codes "!") ≡ true).
      let sign = rw negated at r.signed in
      sign_of-marked _ _ (negative_is ∙ ap (λ (x : List ℕ). bytes_eq x (codes "!")) sign))
      (λ (plain : starts_with nat_eq line (codes "!") ≡ false).
      let signed = rw plain at r.signed in
      ⊎_elim
      (λ (escaped : (starts_with nat_eq line (codes "\\!") || starts_with nat_eq line (codes "\\#")) ≡ true).
      let sign = rw escaped at signed in
      sign_of-bare _ _ (negative_is ∙ ap (λ (x : List ℕ). bytes_eq x (codes "!")) sign)
      (⊎_elim (λ h. escaped_rest 33 (inl refl) h sign) (λ h. escaped_rest 35 (inr refl) h sign) (or_cases _ _ escaped)))
      (λ (bare : (starts_with nat_eq line (codes "\\!") || starts_with nat_eq line (codes "\\#")) ≡ false).
      let sign = rw bare at signed in
      let whole : line ≡ r.lead ++ (text ++ r.tail) = r.joined ∙ ap (λ (x : List ℕ). x ++ (r.lead ++ (text ++ r.tail))) sign in
      sign_of-bare _ _ (negative_is ∙ ap (λ (x : List ℕ). bytes_eq x (codes "!")) sign)
      (ap (sign_of true) (sym whole) ∙ sym r.signed ∙ sign))
      (cases_Bool (starts_with nat_eq line (codes "\\!") || starts_with nat_eq line (codes "\\#"))))
      (cases_Bool (starts_with nat_eq line (codes "!")))

  marks_agree : bytes_eq r.sign (codes "!") ≡ bytes_eq (sign_if (is_negative mode)) (codes "!")
  marks_agree = sym negative_is ∙ sym (bytes_eq-sign_if (is_negative mode))

  pub Reads-shown_line : Reads (shown_line mode text) true text mode place
  Reads-shown_line = record {
    sign = sign_if (is_negative mode);
    lead = r.lead;
    tail = r.tail;
    joined = shown_is;
    signed = sign_is ∙ ap (sign_of true) (sym shown_is);
    not_blank = r.not_blank;
    leads = r.leads;
    trails = r.trails;
    bits = r.bits ∙ ap (λ (x : Bool). sum_of_bits (has_slash text) (is_star_and_literal text) (bytes_eq r.tail (codes "/")) x (bytes_eq r.lead (codes "/"))) marks_agree;
    placed = r.placed;
  }
