-- The words of a text from its end.
use Rattle.std.proofs.Common.{◌≡◌, inl, inr, ⊎_elim, ℕ, ◌<◌, true, false, cond, not, List, [], ◌∷◌, ◌++◌, length, reverse, take, drop, refl, sym, ap, subst, ◌∙◌, append_assoc, arith}
use Rattle.std.specs.Prelude.{filter}
use Rattle.std.specs.List.{AllByRecursion, onto_first, slice_split}
use Rattle.std.proofs.lemmas.Bool.{cases_Bool, ne_eqb}
use Rattle.std.proofs.lemmas.List.{append-nil, reverse-append, take-append-drop}
use Rattle.std.proofs.lemmas.List.Elements.{filter-append}
use Rattle.std.proofs.lemmas.List.Splits.{length-slice_split, slice_split-cons_no, slice_split-cons_yes}
use Rattle.glob_attributes.specs.Private.Behind.{EndsIn, IsLastStart}
use Rattle.glob_attributes.specs.Words.{is_blank, words_of}
use Rattle.glob_attributes.proofs.lemmas.WordsLemmas.{has_bytes}

-- ---- a blank parts the words before it from those behind it

onto_first-append : (x : ℕ) (parts more : List (List ℕ)) → 0 < length parts → onto_first x (parts ++ more) ≡ onto_first x parts ++ more
onto_first-append x [] more some = absurd (omega arith)
onto_first-append x (part ∷ parts) more some = refl

split-append : (xs : List ℕ) (b : ℕ) (ys : List ℕ) → is_blank b ≡ true → slice_split is_blank (xs ++ b ∷ ys) ≡ slice_split is_blank xs ++ slice_split is_blank ys
split-append [] b ys blank = slice_split-cons_yes is_blank b ys blank
split-append (x ∷ xs) b ys blank =
    let more = split-append xs b ys blank in
    ⊎_elim
    (λ yes.
    slice_split-cons_yes is_blank x (xs ++ b ∷ ys) yes ∙ ap (λ l. [] ∷ l) more
    ∙ sym (ap (λ l. l ++ slice_split is_blank ys) (slice_split-cons_yes is_blank x xs yes)))
    (λ no.
    slice_split-cons_no is_blank x (xs ++ b ∷ ys) no ∙ ap (onto_first x) more
    ∙ onto_first-append x (slice_split is_blank xs) (slice_split is_blank ys) (omega (arith, length-slice_split is_blank xs))
    ∙ sym (ap (λ l. l ++ slice_split is_blank ys) (slice_split-cons_no is_blank x xs no)))
    (cases_Bool (is_blank x))

pub words_of-append : (xs : List ℕ) (b : ℕ) (ys : List ℕ) → is_blank b ≡ true → words_of (xs ++ b ∷ ys) ≡ words_of xs ++ words_of ys
words_of-append xs b ys blank = ap (filter has_bytes) (split-append xs b ys blank) ∙ filter-append has_bytes (slice_split is_blank xs) (slice_split is_blank ys)

pub words_of-blank_behind : (xs : List ℕ) (b : ℕ) → is_blank b ≡ true → words_of (xs ++ b ∷ []) ≡ words_of xs
words_of-blank_behind xs b blank = words_of-append xs b [] blank ∙ append-nil (words_of xs)

-- ---- one word

abbrev pub IsWhole : List ℕ → Type 0
IsWhole word = AllByRecursion (λ b. is_blank b ≡ false) word

split-whole : (word : List ℕ) → IsWhole word → slice_split is_blank word ≡ word ∷ []
split-whole [] whole = refl
split-whole (b ∷ word) whole = slice_split-cons_no is_blank b word whole.0 ∙ ap (onto_first b) (split-whole word whole.1)

words_of-whole : (b : ℕ) (word : List ℕ) → IsWhole (b ∷ word) → words_of (b ∷ word) ≡ (b ∷ word) ∷ []
words_of-whole b word whole =
    let some : has_bytes (b ∷ word) ≡ true = ap not (ne_eqb (length (b ∷ word)) 0 (λ none. absurd (omega arith))) in
    ap (filter has_bytes) (split-whole (b ∷ word) whole) ∙ ap (λ t. cond t ((b ∷ word) ∷ []) []) some

-- a word behind an empty text, or behind one that ends in a blank
words_of-last_more : (front : List ℕ) (b : ℕ) (word : List ℕ) → EndsIn true front → IsWhole (b ∷ word) → words_of (front ++ b ∷ word) ≡ words_of front ++ (b ∷ word) ∷ []
words_of-last_more front b word (inl none) whole = rw none (words_of-whole b word whole)
words_of-last_more front b word (inr ends) whole =
    let before = ends.0 in
    let blank = ends.1 in
    ap (λ l. words_of (l ++ b ∷ word)) ends.2 ∙ ap words_of (append_assoc before (blank ∷ []) (b ∷ word))
    ∙ words_of-append before blank (b ∷ word) ends.3
    ∙ ap (λ l. words_of before ++ l) (words_of-whole b word whole)
    ∙ sym (ap (λ l. l ++ (b ∷ word) ∷ []) (ap words_of ends.2 ∙ words_of-blank_behind before blank ends.3))

-- one byte is not the last one as a blank and as none
same_last : (xs ys : List ℕ) (a b : ℕ) → xs ++ a ∷ [] ≡ ys ++ b ∷ [] → a ≡ b
same_last xs ys a b same =
    let turned : a ∷ reverse xs ≡ b ∷ reverse ys = sym (reverse-append xs (a ∷ [])) ∙ ap reverse same ∙ reverse-append ys (b ∷ []) in
    cc

ends_once : (text : List ℕ) → 0 < length text → EndsIn false text → EndsIn true text → ⊥
ends_once text some (inl none) other = let long : length text ≡ 0 = ap length none in omega (arith, some, long)
ends_once text some (inr ends) (inl none) = let long : length text ≡ 0 = ap length none in omega (arith, some, long)
ends_once text some (inr ends) (inr other) =
    let same : ends.1 ≡ other.1 = same_last ends.0 other.0 ends.1 other.1 (sym ends.2 ∙ other.2) in
    let no : false ≡ true = sym ends.3 ∙ ap is_blank same ∙ other.3 in
    absurd (cc)

-- the last word of a text that ends with it
word_behind : (text : List ℕ) (place : ℕ) → EndsIn false text → 0 < length text → IsLastStart text place → (word : List ℕ) → drop place text ≡ word
    → words_of text ≡ words_of (take place text) ++ word ∷ []
word_behind text place ends some start (b ∷ word) is =
    ap words_of (sym (take-append-drop place text) ∙ ap (λ l. take place text ++ l) is)
    ∙ words_of-last_more (take place text) b word start.begun (subst IsWhole is start.whole)
word_behind text place ends some start [] is =
    let all : take place text ≡ text = sym (append-nil (take place text)) ∙ ap (λ l. take place text ++ l) (sym is) ∙ take-append-drop place text in
    absurd (ends_once text some ends (subst (EndsIn true) all start.begun))

pub words_of-last : (text : List ℕ) (place : ℕ) → EndsIn false text → 0 < length text → IsLastStart text place → words_of text ≡ words_of (take place text) ++ drop place text ∷ []
words_of-last text place ends some start = word_behind text place ends some start (drop place text) refl
