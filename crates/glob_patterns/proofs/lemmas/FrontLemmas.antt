-- A value that is matched by front and rest, where it is told at which place the front ends.
use Rattle.std.proofs.Common.{◌≡◌, ⊎_elim, ℕ, ◌≤◌, true, false, List, [], ◌∷◌, ◌++◌, length, take, drop, None, Some, refl, sym, ap, subst, ◌∙◌, length-append, take_at, drop_at, take_all, take-append-drop, append-nil, le_refl, arith}
use Rattle.std.specs.Prelude.{◌↔◌, nat_lt}
use Rattle.std.specs.List.{position_or_len}
use Rattle.std.proofs.lemmas.Bool.{cases_Bool, ltb-false}
use Rattle.std.proofs.lemmas.List.{drop_all, length-take-le}
use Rattle.glob_matcher.specs.declared.wildmatch.way.Way.{Way}
use Rattle.glob_matcher.specs.Bytes.{is_special}
use Rattle.glob_matcher.specs.Matching.{SplitsBy}
use Rattle.glob_patterns.specs.Folding.{folding_of}
use Rattle.glob_patterns.specs.GitPaths.{FrontAndRest, front_of}
use Rattle.glob_patterns.specs.Laws.LiteralBytes.{AreAlike}
use Rattle.glob_patterns.specs.Patterns.{first_special}
use Rattle.glob_patterns.specs.Private.Fronts.{BeginsAlike}
use Rattle.glob_patterns.proofs.lemmas.LiteralLemmas.{AreAlike-length, literal_from_place, literal_splits, literal_up_to_place}

-- ---- the front, by the place of the first special byte

front_up_to : (text : List ℕ) (n : ℕ) → first_special text ≡ Some n → front_of text ≡ take n text
front_up_to text n first =
    ⊎_elim
    (λ (below : nat_lt (position_or_len is_special text) (length text) ≡ true).
    let h = rw below at first in
    let same : position_or_len is_special text ≡ n = cc in
    ap (λ m. take m text) same)
    (λ (past : nat_lt (position_or_len is_special text) (length text) ≡ false). let h = rw past at first in absurd (cc))
    (cases_Bool (nat_lt (position_or_len is_special text) (length text)))

front_whole : (text : List ℕ) → first_special text ≡ None → front_of text ≡ text
front_whole text none =
    ⊎_elim
    (λ (below : nat_lt (position_or_len is_special text) (length text) ≡ true). let h = rw below at none in absurd (cc))
    (λ (past : nat_lt (position_or_len is_special text) (length text) ≡ false). take_all (position_or_len is_special text) text (ltb-false _ _ past))
    (cases_Bool (nat_lt (position_or_len is_special text) (length text)))

-- ---- both texts, cut at that place

record IsCutThere (value text : List ℕ) (way : Way) (n : ℕ) : Type 0 where
  begins : BeginsAlike way value (take n text)
  splits : SplitsBy (drop n value) (drop n text) way

module _ (value text : List ℕ) (way : Way) (n : ℕ) (front : front_of text ≡ take n text) (inside : n ≤ length text) where
  long : length (take n text) ≡ n
  long = length-take-le n text inside

  front_out : FrontAndRest value text way → IsCutThere value text way n
  front_out h =
      let as_long : length h.begins ≡ n = AreAlike-length way h.begins (front_of text) h.alike ∙ ap length front ∙ long in
      let whole : text ≡ take n text ++ h.rest = h.text_cut ∙ ap (λ f. f ++ h.rest) front in
      let rest : drop n text ≡ h.rest = ap (drop n) whole ∙ drop_at (take n text) h.rest n long in
      let begins : take n value ≡ h.begins = ap (take n) h.value_cut ∙ take_at h.begins h.below n as_long in
      let below : drop n value ≡ h.below = ap (drop n) h.value_cut ∙ drop_at h.begins h.below n as_long in
      record {
        begins = record {
          fits = omega (arith, long, as_long, ap length h.value_cut, length-append h.begins h.below);
          alike = ap (folding_of way) (sym front) ∙ sym h.alike ∙ ap (folding_of way) (sym begins) ∙ ap (λ m. folding_of way (take m value)) (sym long);
        };
        splits = subst (λ v. SplitsBy v (drop n text) way) (sym below) (subst (λ t. SplitsBy h.below t way) (sym rest) h.splits);
      }

  front_in : IsCutThere value text way n → FrontAndRest value text way
  front_in h = record {
    rest = drop n text;
    text_cut = sym (take-append-drop n text) ∙ ap (λ f. f ++ drop n text) (sym front);
    begins = take n value;
    below = drop n value;
    value_cut = sym (take-append-drop n value);
    alike = ap (λ m. folding_of way (take m value)) (sym long) ∙ sym h.begins.alike ∙ ap (folding_of way) (sym front);
    splits = h.splits;
  }

pub front_inside : (text : List ℕ) (n : ℕ) → first_special text ≡ Some n → n ≤ length text
front_inside text n first = (literal_up_to_place text n first).0

-- a front that ends inside the text
module _ (value text : List ℕ) (way : Way) (n : ℕ) (first : first_special text ≡ Some n) where
  inside_text : n ≤ length text
  inside_text = front_inside text n first

  pub front_cut : FrontAndRest value text way → BeginsAlike way value (take n text) × SplitsBy (drop n value) (drop n text) way
  front_cut h = let cut = front_out value text way n (front_up_to text n first) inside_text h in (cut.begins, cut.splits)

  pub front_joined : BeginsAlike way value (take n text) → SplitsBy (drop n value) (drop n text) way → FrontAndRest value text way
  front_joined begins splits = front_in value text way n (front_up_to text n first) inside_text (record { begins = begins; splits = splits })

-- a text that begins with a special byte is its own rest
pub front_none : (value text : List ℕ) (way : Way) → first_special text ≡ Some 0 → FrontAndRest value text way ↔ SplitsBy value text way
front_none value text way first = (
  λ h. (front_cut value text way 0 first h).1,
  λ s. front_joined value text way 0 first (record { fits = omega arith; alike = refl }) s,
)

-- ---- a text without a special byte is its own front

no_bytes : (value : List ℕ) → length value ≤ 0 → value ≡ []
no_bytes [] none = refl
no_bytes (b ∷ value) none = absurd (omega arith)

pub front_all : (value text : List ℕ) (way : Way) → first_special text ≡ None → FrontAndRest value text way ↔ SplitsBy value text way
front_all value text way none =
    let n = length text in
    let whole : take n text ≡ text = take_all n text (le_refl _) in
    let front : front_of text ≡ take n text = front_whole text none ∙ sym whole in
    let literal = literal_splits text value way (literal_from_place text none) in
    let empty = literal_splits [] in (
      λ h. (let cut = front_out value text way n front (le_refl _) h in
          let left : SplitsBy (drop n value) [] way = subst (λ t. SplitsBy (drop n value) t way) (drop_all n text (le_refl _)) cut.splits in
          let nothing : length (drop n value) ≡ 0 = AreAlike-length way (drop n value) [] ((empty (drop n value) way refl).0 left) in
          let same : take n value ≡ value = sym (append-nil (take n value)) ∙ ap (λ l. take n value ++ l) (sym (no_bytes (drop n value) (omega arith))) ∙ take-append-drop n value in
          let alike : AreAlike way value text =
          ap (folding_of way) (sym same) ∙ ap (λ t. folding_of way (take (length t) value)) (sym whole) ∙ sym cut.begins.alike ∙ ap (folding_of way) whole in
          literal.1 alike),
      λ s. (let alike : AreAlike way value text = literal.0 s in
          let as_long : length value ≡ n = AreAlike-length way value text alike in
          let all : take n value ≡ value = take_all n value (omega arith) in
          front_in value text way n front (le_refl _) (record {
            begins = record {
              fits = omega (arith, ap length whole, as_long);
              alike = ap (folding_of way) whole ∙ sym alike ∙ ap (folding_of way) (sym all) ∙ ap (λ t. folding_of way (take (length t) value)) (sym whole);
            };
            splits = subst (λ v. SplitsBy v (drop n text) way) (sym (drop_all n value (omega arith)))
                (subst (λ t. SplitsBy [] t way) (sym (drop_all n text (le_refl _))) ((empty [] way refl).1 refl));
          })),
    )
