-- The words of a text, one after the other.
use Rattle.std.proofs.Common.{◌≡◌, ⊎_elim, ℕ, suc, ◌+◌, ◌<◌, Bool, true, false, cond, not, List, [], ◌∷◌, length, take, drop, refl, sym, ap, subst, ◌∙◌, arith}
use Rattle.std.specs.Prelude.{◌==◌, filter}
use Rattle.std.specs.List.{before_first, onto_first, position_or_len, prefix_len, slice_split}
use Rattle.std.proofs.lemmas.Bool.{cases_Bool, ne_eqb}
use Rattle.std.proofs.lemmas.List.Splits.{slice_split-cons_yes, slice_split-cons_no}
use Rattle.glob_attributes.specs.Words.{after_blanks, is_blank, words_of}
use Rattle.glob_attributes.proofs.lemmas.PlaceLemmas.{place-here, place-later}

abbrev pub has_bytes : List ℕ → Bool
has_bytes word = not (length word == 0)

take-more : (n b : ℕ) (text : List ℕ) → take (1 + n) (b ∷ text) ≡ b ∷ take n text
take-more n b text = let is : 1 + n ≡ suc n = omega arith in ap (λ k. take k (b ∷ text)) is

drop-more : (n b : ℕ) (text : List ℕ) → drop (1 + n) (b ∷ text) ≡ drop n text
drop-more n b text = let is : 1 + n ≡ suc n = omega arith in ap (λ k. drop k (b ∷ text)) is

-- ---- blanks in front

words_of-blank : (b : ℕ) (text : List ℕ) → is_blank b ≡ true → words_of (b ∷ text) ≡ words_of text
words_of-blank b text e = ap (filter has_bytes) (slice_split-cons_yes is_blank b text e)

after_blanks-blank : (b : ℕ) (text : List ℕ) → is_blank b ≡ true → after_blanks (b ∷ text) ≡ after_blanks text
after_blanks-blank b text e = ap (λ t. drop (cond t (1 + prefix_len is_blank text) 0) (b ∷ text)) e ∙ drop-more (prefix_len is_blank text) b text

after_blanks-other : (b : ℕ) (text : List ℕ) → is_blank b ≡ false → after_blanks (b ∷ text) ≡ b ∷ text
after_blanks-other b text e = ap (λ t. drop (cond t (1 + prefix_len is_blank text) 0) (b ∷ text)) e

pub words_of-after_blanks : (text : List ℕ) → words_of (after_blanks text) ≡ words_of text
words_of-after_blanks [] = refl
words_of-after_blanks (b ∷ text) =
    ⊎_elim
    (λ yes. ap words_of (after_blanks-blank b text yes) ∙ words_of-after_blanks text ∙ sym (words_of-blank b text yes))
    (λ no. ap words_of (after_blanks-other b text no))
    (cases_Bool (is_blank b))

-- what is left begins with no blank
pub record BeginsWithByte (text : List ℕ) : Type 0 where
  pub first : ℕ
  pub more : List ℕ
  pub is : text ≡ first ∷ more
  pub no_blank : is_blank first ≡ false

pub after_blanks-first : (text : List ℕ) → 0 < length (after_blanks text) → BeginsWithByte (after_blanks text)
after_blanks-first [] some = absurd (omega arith)
after_blanks-first (b ∷ text) some =
    ⊎_elim
    (λ yes. let is = after_blanks-blank b text yes in subst BeginsWithByte (sym is) (after_blanks-first text (subst (λ t. 0 < length t) is some)))
    (λ no. record { first = b; more = text; is = after_blanks-other b text no; no_blank = no })
    (cases_Bool (is_blank b))

-- ---- the first word

-- the parts after the first one, and the words among them
record Splits (text : List ℕ) : Type 0 where
  parts : List (List ℕ)
  split : slice_split is_blank text ≡ before_first is_blank text ∷ parts
  words : filter has_bytes parts ≡ words_of (drop (position_or_len is_blank text) text)

splits : (text : List ℕ) → Splits text
splits [] = record { parts = []; split = refl; words = refl }
splits (b ∷ text) =
    ⊎_elim
    (λ yes. record {
      parts = slice_split is_blank text;
      split = slice_split-cons_yes is_blank b text yes ∙ sym (ap (λ n. take n (b ∷ text) ∷ slice_split is_blank text) (place-here is_blank b text yes));
      words = sym (words_of-blank b text yes) ∙ sym (ap (λ n. words_of (drop n (b ∷ text))) (place-here is_blank b text yes));
    })
    (λ no. let more = splits text in let place = place-later is_blank b text no in record {
      parts = more.parts;
      split = slice_split-cons_no is_blank b text no ∙ ap (onto_first b) more.split
          ∙ sym (ap (λ w. w ∷ more.parts) (ap (λ n. take n (b ∷ text)) place ∙ take-more (position_or_len is_blank text) b text));
      words = more.words ∙ sym (ap words_of (ap (λ n. drop n (b ∷ text)) place ∙ drop-more (position_or_len is_blank text) b text));
    })
    (cases_Bool (is_blank b))

pub words_of-first : (text : List ℕ) → BeginsWithByte text → words_of text ≡ before_first is_blank text ∷ words_of (drop (position_or_len is_blank text) text)
words_of-first text h =
    let all = splits text in
    let place : before_first is_blank text ≡ h.first ∷ take (position_or_len is_blank h.more) h.more =
    ap (before_first is_blank) h.is ∙ ap (λ n. take n (h.first ∷ h.more)) (place-later is_blank h.first h.more h.no_blank) ∙ take-more (position_or_len is_blank h.more) h.first h.more in
    let some : has_bytes (before_first is_blank text) ≡ true =
    ap has_bytes place ∙ ap not (ne_eqb (length (h.first ∷ take (position_or_len is_blank h.more) h.more)) 0 (λ none. absurd (omega arith))) in
    ap (filter has_bytes) all.split
    ∙ ap (λ t. cond t (before_first is_blank text ∷ filter has_bytes all.parts) (filter has_bytes all.parts)) some
    ∙ ap (λ w. before_first is_blank text ∷ w) all.words

pub words_of-none : (text : List ℕ) → length text ≡ 0 → words_of text ≡ []
words_of-none [] none = refl
words_of-none (b ∷ text) none = absurd (omega arith)
