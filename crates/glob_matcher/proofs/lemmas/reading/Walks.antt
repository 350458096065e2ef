-- What the reader of a set keeps as it goes from item to item.
use Rattle.std.proofs.Common.{◌≡◌, ◌↔◌, inl, inr, ℕ, ◌+◌, ◌<◌, ◌≤◌, Bool, true, false, not, ◌&&◌, ◌||◌, ◌==◌, IsTrue, List, [], ◌∷◌, length, Option, None, refl, sym, ◌∙◌, ap, subst, arith, if◌then◌else◌}
use Rattle.std.specs.List.{list_any}
use Rattle.glob_matcher.specs.declared.wildmatch.items.Item.{Item}
use Rattle.glob_matcher.specs.declared.wildmatch.items.Item.TheVariants as item
use Rattle.glob_matcher.specs.declared.wildmatch.way.Way.{Way}
use Rattle.glob_matcher.specs.Bytes.{HasByte, is_path, open_bracket, slash}
use Rattle.glob_matcher.specs.Private.Spelling.{close_bracket, IsSign}
use Rattle.glob_matcher.specs.Sets.{Set, SetAt, ItemAt, ItemsAt, item_holds, member_of, set_holds}
use Rattle.glob_matcher.specs.Private.Reader.{IsUnderway, first_item}
use Rattle.glob_matcher.proofs.lemmas.reading.SetLemmas.{ItemAt-unique, negated-unique}

-- an item begins inside the text
pub ItemAt-inside : (text : List ℕ) (low : Option ℕ) (i : ℕ) (x : Item) (j : ℕ) → ItemAt text low i x j → i < length text
ItemAt-inside text low i (item.Member a) j (inl e) = e.0.escape.inside
ItemAt-inside text low i (item.Member a) j (inr e) = e.0.here.inside
ItemAt-inside text low i (item.Range a b) j e = e.0.dash.inside
ItemAt-inside text low i (item.Class c) j e = e.1.begins.bracket.inside

-- past the end there are no items
pub no_items_outside : (text : List ℕ) (first : Bool) (low : Option ℕ) (i : ℕ) → length text ≤ i
    → (xs : List Item) (j : ℕ) → ¬ ItemsAt text first low i xs j
no_items_outside text first low i past [] j e = let inside = e.1.inside in omega arith
no_items_outside text first low i past (x ∷ xs) j e = let inside = ItemAt-inside text low i x e.1 e.2 in omega arith

-- where neither an item nor the closing bracket stands, there are no items
pub no_items_here : (text : List ℕ) (first : Bool) (low : Option ℕ) (i : ℕ)
    → (IsTrue (not first) → ¬ HasByte text i close_bracket) → ((x : Item) (j : ℕ) → ¬ ItemAt text low i x j)
    → (xs : List Item) (j : ℕ) → ¬ ItemsAt text first low i xs j
no_items_here text first low i open_yet none [] j e = open_yet e.0 e.1
no_items_here text first low i open_yet none (x ∷ xs) j e = none x e.1 e.2

pub underway_first : (text : List ℕ) (start : ℕ) (test : Item → Bool) → IsUnderway text start test false true None start
underway_first text start test = record { forth = λ xs close e. (xs, e, refl); back = λ ys close e. (ys, e) }

-- what follows an item that stands here
items_after : (text : List ℕ) (first : Bool) (low : Option ℕ) (i : ℕ) (x : Item) (j : ℕ)
    → (IsTrue (not first) → ¬ HasByte text i close_bracket) → ItemAt text low i x j
    → (xs : List Item) (close : ℕ) → ItemsAt text first low i xs close
    → (ys : List Item) × (xs ≡ x ∷ ys) × ItemsAt text false (member_of x) j ys close
items_after text first low i x j open_yet here [] close e = absurd (open_yet e.0 e.1)
items_after text first low i x j open_yet here (y ∷ ys) close e =
    let same = ItemAt-unique text low i y x e.1 j e.2 here in
    let moved : ItemsAt text false (member_of x) j ys close =
    subst (λ (z : Item). ItemsAt text false (member_of z) j ys close) same.0
    (subst (λ (n : ℕ). ItemsAt text false (member_of y) n ys close) same.1 e.3) in
    (ys, ap (λ (z : Item). z ∷ ys) same.0, moved)

or_assoc : (a b c : Bool) → (a || b) || c ≡ a || (b || c)
or_assoc true b c = refl
or_assoc false b c = refl

pub underway_next : {text : List ℕ} {start : ℕ} {test : Item → Bool} {held first : Bool} {low : Option ℕ} {i : ℕ} (x : Item) (j : ℕ)
    → IsUnderway text start test held first low i → (IsTrue (not first) → ¬ HasByte text i close_bracket) → ItemAt text low i x j
    → IsUnderway text start test (held || test x) false (member_of x) j
underway_next {text = text} {test = test} {held = held} {first = first} {low = low} {i = i} x j so_far open_yet here = record {
  forth = λ xs close e.
      let all = so_far.forth (x ∷ xs) close (open_yet, j, here, e) in
      (all.0, all.1, or_assoc held (test x) (list_any test xs) ∙ all.2);
  back = λ ys close e.
      let now = so_far.back ys close e in
      let later = items_after text first low i x j open_yet here now.0 close now.1 in
      (later.0, later.2);
}

abbrev make_set : Bool → List Item → Set
make_set negated items = record { negated = negated; items = items }

or_false : (a : Bool) → a || false ≡ a
or_false true = refl
or_false false = refl

-- Where the closing bracket stands, the items so far make the set.
pub set_closed : {text : List ℕ} (way : Way) (b : ℕ) {held first : Bool} {low : Option ℕ} {i : ℕ} (place : ℕ) (negated : Bool)
    → HasByte text place open_bracket → IsTrue negated ↔ IsSign text (place + 1)
    → IsUnderway text (first_item negated place) (item_holds way b) held first low i → ItemsAt text first low i [] i
    → (s : Set) × SetAt text place s (i + 1)
    × ((not (is_path way && b == slash) && (if negated then not held else held)) ≡ set_holds way s b)
set_closed {text = text} way b {held = held} {i = i} place negated bracket sign so_far close =
    let all = so_far.forth [] i close in (
      make_set negated all.0,
      record { bracket = bracket; sign = sign; close = i; items = all.1; after = refl },
      ap (λ (h : Bool). not (is_path way && b == slash) && (if negated then not h else h)) (sym (or_false held) ∙ all.2),
    )

-- Where neither an item nor the closing bracket stands, no set does.
pub set_broken : {text : List ℕ} {test : Item → Bool} {held first : Bool} {low : Option ℕ} {i : ℕ} (place : ℕ) (negated : Bool)
    → IsTrue negated ↔ IsSign text (place + 1) → IsUnderway text (first_item negated place) test held first low i
    → ((xs : List Item) (j : ℕ) → ¬ ItemsAt text first low i xs j) → (s : Set) (end : ℕ) → ¬ SetAt text place s end
set_broken {text = text} place negated sign so_far none s end e =
    let same = negated-unique s.negated negated (IsSign text (place + 1)) e.sign sign in
    let items = subst (λ (n : Bool). ItemsAt text true None (first_item n place) s.items e.close) same e.items in
    let now = so_far.back s.items e.close items in
    none now.0 e.close now.1
