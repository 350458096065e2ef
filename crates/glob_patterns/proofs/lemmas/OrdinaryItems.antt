-- Sets of ordinary items hold the same bytes by both foldings.
use Rattle.std.proofs.Common.{◌≡◌, inl, inr, ℕ, ◌<◌, Bool, true, false, not, ◌&&◌, ◌==◌, if◌then◌else◌, List, [], ◌∷◌, length, get_or, All, Any, refl, sym, ap, subst, ◌∙◌, arith}
use Rattle.std.specs.Char.{is_ascii_uppercase, to_ascii_lowercase}
use Rattle.std.specs.List.{list_any}
use Rattle.std.proofs.lemmas.Bool.{eq-eqb, eqb-true}
use Rattle.std.proofs.lemmas.Bool.Decides.{nat_tests, same_from_decides}
use Rattle.std.proofs.lemmas.List.Folds.{Any-from_list_any, list_any-from_Any}
use Rattle.std.proofs.lemmas.Str.Ascii.{lowercase-lowercase}
use Rattle.glob_matcher.specs.declared.wildmatch.items.Class.{Class}
use Rattle.glob_matcher.specs.declared.wildmatch.items.Class.TheVariants as class
use Rattle.glob_matcher.specs.declared.wildmatch.items.Item.{Item}
use Rattle.glob_matcher.specs.declared.wildmatch.items.Item.TheVariants as item
use Rattle.glob_matcher.specs.declared.wildmatch.way.Folding.TheVariants.{Both, Exact}
use Rattle.glob_matcher.specs.declared.wildmatch.way.Way.{Way}
use Rattle.glob_matcher.specs.declared.wildmatch.way.Way.TheVariants.{FoldedPlain, FoldedPath, ExactPlain, ExactPath}
use Rattle.glob_matcher.specs.Bytes.{slash, way_with}
use Rattle.glob_matcher.specs.Sets.{Set, class_holds, item_holds, range_holds, set_holds}
use Rattle.glob_patterns.specs.Laws.Foldings.{AreOrdinaryEnds, IsOrdinary}

-- the usual folding, and the exact one
abbrev pub usual : Bool → Way
usual path = way_with path Both

abbrev pub exact : Bool → Way
exact path = way_with path Exact

-- ---- items

-- what is no capital folds to itself
no_capital_stays : (b : ℕ) → is_ascii_uppercase b ≡ false → to_ascii_lowercase b ≡ b
no_capital_stays b none = grind (arith, nat_tests)

-- Ordinary ends fold to themselves. A letter's capital lies above ends before the capitals, and below small letters; and it lies between
-- the capitals of small letters in order only where the letter lies between the letters.
range_alike : (low high b : ℕ) → AreOrdinaryEnds low high → range_holds FoldedPlain low high b ≡ range_holds ExactPlain low high b
range_alike low high b ends = grind (arith, nat_tests)

-- a class looks at whether case counts, and not at how it is folded
class_alike : (c : Class) (b : ℕ) → class_holds FoldedPlain c b ≡ class_holds ExactPlain c b
class_alike class.Upper b = refl
class_alike c b = refl

-- an ordinary item that holds a byte by exact folding holds it by the usual one
usual_holds : (items : List Item) (b : ℕ) (x : Item) → IsOrdinary items x → item_holds ExactPlain b x ≡ true
    → item_holds FoldedPlain b x ≡ true
usual_holds items b (item.Member m) ordinary holds =
    let is : to_ascii_lowercase b ≡ m = eqb-true (to_ascii_lowercase b) m holds in
    eq-eqb (to_ascii_lowercase b) (to_ascii_lowercase m) (sym (lowercase-lowercase b) ∙ ap to_ascii_lowercase is)
usual_holds items b (item.Range low high) ordinary holds = range_alike low high b ordinary ∙ holds
usual_holds items b (item.Class c) ordinary holds = class_alike c (to_ascii_lowercase b) ∙ holds

-- where an ordinary item holds a byte by the usual folding, some item holds it by exact folding: a capital's small letter does for the capital
exact_holds : (items : List Item) (b k : ℕ) (x : Item) → k < length items → get_or items k x ≡ x → IsOrdinary items x
    → item_holds FoldedPlain b x ≡ true → Any (λ y. item_holds ExactPlain b y ≡ true) items
exact_holds items b k (item.Member m) inside is (inl none) holds =
    (k, item.Member m, inside, is, subst (λ (c : ℕ). (to_ascii_lowercase b == c) ≡ true) (no_capital_stays m none) holds)
exact_holds items b k (item.Member m) inside is (inr small) holds =
    (small.0, item.Member (to_ascii_lowercase m), small.1, small.2, holds)
exact_holds items b k (item.Range low high) inside is ordinary holds =
    (k, item.Range low high, inside, is, sym (range_alike low high b ordinary) ∙ holds)
exact_holds items b k (item.Class c) inside is ordinary holds =
    (k, item.Class c, inside, is, sym (class_alike c (to_ascii_lowercase b)) ∙ holds)

module _ (items : List Item) (b : ℕ) (ordinary : All (IsOrdinary items) items) where
  ordinary_at : (k : ℕ) (x : Item) → k < length items → get_or items k x ≡ x → IsOrdinary items x
  ordinary_at k x inside is = subst (λ (y : Item). IsOrdinary items y) is (ordinary k x inside)

  some_exact : list_any (item_holds FoldedPlain b) items ≡ true → list_any (item_holds ExactPlain b) items ≡ true
  some_exact holds =
      let some = Any-from_list_any (item_holds FoldedPlain b) items holds in
      list_any-from_Any (item_holds ExactPlain b) items
      (exact_holds items b some.0 some.1 some.2 some.3 (ordinary_at some.0 some.1 some.2 some.3) some.4)

  some_usual : list_any (item_holds ExactPlain b) items ≡ true → list_any (item_holds FoldedPlain b) items ≡ true
  some_usual holds =
      let some = Any-from_list_any (item_holds ExactPlain b) items holds in
      let kept = usual_holds items b some.1 (ordinary_at some.0 some.1 some.2 some.3) some.4 in
      list_any-from_Any (item_holds FoldedPlain b) items (some.0, some.1, some.2, some.3, kept)

  items_alike : list_any (item_holds FoldedPlain b) items ≡ list_any (item_holds ExactPlain b) items
  items_alike =
      same_from_decides {P = list_any (item_holds ExactPlain b) items ≡ true} _ _ (some_exact, some_usual) (λ is. is, λ is. is)

-- ---- sets

-- what an item holds is the same in path mode
class_anywhere : (c : Class) (b : ℕ) → (class_holds FoldedPath c b ≡ class_holds FoldedPlain c b) × (class_holds ExactPath c b ≡ class_holds ExactPlain c b)
class_anywhere class.Upper b = (refl, refl)
class_anywhere c b = (refl, refl)

item_anywhere : (b : ℕ) (x : Item) → (item_holds FoldedPath b x ≡ item_holds FoldedPlain b x) × (item_holds ExactPath b x ≡ item_holds ExactPlain b x)
item_anywhere b (item.Member m) = (refl, refl)
item_anywhere b (item.Range low high) = (refl, refl)
item_anywhere b (item.Class c) = class_anywhere c (to_ascii_lowercase b)

any_alike : (f g : Item → Bool) → ((x : Item) → f x ≡ g x) → (items : List Item) → list_any f items ≡ list_any g items
any_alike f g same [] = refl
any_alike f g same (x ∷ items) = rw (same x, any_alike f g same items) refl

anywhere_alike : (path : Bool) (items : List Item) (b : ℕ) → All (IsOrdinary items) items → list_any (item_holds (usual path) b) items ≡ list_any (item_holds (exact path) b) items
anywhere_alike false items b ordinary = items_alike items b ordinary
anywhere_alike true items b ordinary =
    any_alike (item_holds FoldedPath b) (item_holds FoldedPlain b) (λ x. (item_anywhere b x).0) items
    ∙ items_alike items b ordinary
    ∙ sym (any_alike (item_holds ExactPath b) (item_holds ExactPlain b) (λ x. (item_anywhere b x).1) items)

pub set_alike : (path : Bool) (set : Set) (b : ℕ) → All (IsOrdinary set.items) set.items → set_holds (usual path) set b ≡ set_holds (exact path) set b
set_alike false set b ordinary = ap (λ (held : Bool). not (false && b == slash) && (if set.negated then not held else held)) (anywhere_alike false set.items b ordinary)
set_alike true set b ordinary = ap (λ (held : Bool). not (true && b == slash) && (if set.negated then not held else held)) (anywhere_alike true set.items b ordinary)
