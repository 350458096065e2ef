-- A token is read from the bytes that it spells, but that in path mode what stands around a run counts: where two texts have the same bytes,
-- they have the same tokens.
use Rattle.std.proofs.Common.{◌≡◌, ◌↔◌, ◌⊎◌, inl, inr, IsTrue, ℕ, ◌+◌, ◌-◌, ◌<◌, ◌≤◌, Bool, true, false, if◌then◌else◌, List, [], ◌∷◌, length, get_or, slice_range, Option, None, refl, sym, ◌∙◌, subst, arith}
use Rattle.std.proofs.lemmas.Bool.{cases_lt}
use Rattle.std.proofs.lemmas.Grind.{same_number_lists}
use Rattle.glob_matcher.specs.declared.wildmatch.way.Way.{Way}
use Rattle.glob_matcher.specs.declared.wildmatch.items.Item.{Item}
use Rattle.glob_matcher.specs.declared.wildmatch.items.Item.TheVariants as item
use Rattle.glob_matcher.specs.Bytes.{HasByte, IsEscaped, is_path, slash, star, open_bracket, backslash}
use Rattle.glob_matcher.specs.Private.Spelling.{close_bracket, exclamation_mark, caret, question_mark, dash, colon, IsSign}
use Rattle.glob_matcher.specs.Sets.{BeginsRange, BeginsClass, NamesClass, IsBare, IsUpperEnd, IsFirstFrom, ItemAt, ItemsAt, SetAt, Set, member_of}
use Rattle.glob_matcher.specs.Tokens.{Token, Byte, Any, OneOf, Free, Local, Dirs, Nothing, TokenAt, IsBounded, IsRun, IsBroken, Spells, From}
use Rattle.glob_matcher.proofs.lemmas.reading.SetLemmas.{two_bytes}
use Rattle.glob_matcher.proofs.lemmas.reading.Existence.{items_close, item_past, items_past, upper_past, set_past, set_inside, TokenAt-past, From-short}
use Rattle.glob_matcher.proofs.lemmas.cutting.PlaceLemmas.{part_byte, part_length}
use Rattle.glob_matcher.proofs.lemmas.reading.Starts.{spells_forward}

-- places x and y lie as far after a and b, by less than n
pub record Faces (a b n x y : ℕ) : Type 0 where
  pub low : a ≤ x
  pub below : x < a + n
  pub same : x + b ≡ y + a

-- the n bytes from place a of the one text on are those from place b of the other on
pub record Alike (p : List ℕ) (a : ℕ) (q : List ℕ) (b n : ℕ) : Type 0 where
  pub there : (x y c : ℕ) → Faces a b n x y → HasByte p x c → HasByte q y c
  pub back : (x y c : ℕ) → Faces a b n x y → HasByte q y c → HasByte p x c

faces_flip : (a b n x y : ℕ) → Faces a b n x y → Faces b a n y x
faces_flip a b n x y f =
    let low : a ≤ x = f.low in
    let below : x < a + n = f.below in
    let same : x + b ≡ y + a = f.same in
    record { low = omega arith; below = omega arith; same = sym f.same }

-- the places as much further on
faces_on : (a b n x y z w : ℕ) → Faces a b n x y → x ≤ z → z + y ≡ w + x → z < a + n → Faces a b n z w
faces_on a b n x y z w f on sum inside =
    let low : a ≤ x = f.low in
    let same : x + b ≡ y + a = f.same in
    record { low = omega arith; below = inside; same = omega arith }

pub alike_flip : (p : List ℕ) (a : ℕ) (q : List ℕ) (b n : ℕ) → Alike p a q b n → Alike q b p a n
alike_flip p a q b n l = record {
  there = λ x y c f h. l.back y x c (faces_flip b a n x y f) h;
  back = λ x y c f h. l.there y x c (faces_flip b a n x y f) h;
}

-- ---- the parts of a set

-- what one of two alike texts spells, the other does too
module _ (p : List ℕ) (a : ℕ) (q : List ℕ) (b n : ℕ) where
  escaped_alike : Alike p a q b n → (x y c : ℕ) → Faces a b n x y → x + 1 < a + n → IsEscaped p x c → IsEscaped q y c
  escaped_alike l x y c f inside e = record {
    escape = l.there x y backslash f e.escape;
    byte = l.there (x + 1) (y + 1) c (faces_on a b n x y (x + 1) (y + 1) f (omega arith) (omega arith) inside) e.byte;
  }

  range_alike : Alike p a q b n → (low : Option ℕ) (x y : ℕ) → Faces a b n x y → x + 1 < a + n
      → BeginsRange p low x → BeginsRange q low y
  range_alike l low x y f inside r =
      let on = faces_on a b n x y (x + 1) (y + 1) f (omega arith) (omega arith) inside in record {
        dash = l.there x y dash f r.dash;
        after = r.after;
        inside = (l.there (x + 1) (y + 1) (get_or p (x + 1) 0) on (record { inside = r.inside; is = refl })).inside;
        not_closed = λ h. r.not_closed (l.back (x + 1) (y + 1) close_bracket on h);
      }

  class_alike : Alike p a q b n → (x y : ℕ) → Faces a b n x y → x + 1 < a + n → BeginsClass p x → BeginsClass q y
  class_alike l x y f inside e = record {
    bracket = l.there x y open_bracket f e.bracket;
    colon = l.there (x + 1) (y + 1) colon (faces_on a b n x y (x + 1) (y + 1) f (omega arith) (omega arith) inside) e.colon;
  }

  first_alike : Alike p a q b n → (x y c k m : ℕ) → Faces a b n x y → k + y ≡ m + x → k < a + n
      → IsFirstFrom p x c k → IsFirstFrom q y c m
  first_alike l x y c k m f sum inside e =
      let low : x ≤ k = e.low in record {
        low = omega arith;
        here = l.there k m c (faces_on a b n x y k m f low sum inside) e.here;
        before = λ j from h. by j from h (cases_lt j m);
      } where
        by : (j : ℕ) → y ≤ j → HasByte q j c → (j < m) ⊎ (m ≤ j) → m ≤ j
        by j from h (inr low) = low
        by j from h (inl less) =
            let first : x ≤ k = e.low in
            let on = faces_on a b n x y (x + (j - y)) j f (omega arith) (omega arith) (omega arith) in
            let before : k ≤ x + (j - y) = e.before (x + (j - y)) (omega arith) (l.back (x + (j - y)) j c on h) in
            omega arith

  names_alike : Alike p a q b n → (x y k m : ℕ) → Faces a b n x y → k + y ≡ m + x → k < a + n → NamesClass p x k → NamesClass q y m
  names_alike l x y k m f sum inside e =
      let far : x + 3 ≤ k = e.far in record {
        begins = class_alike l x y f (omega arith) e.begins;
        first = first_alike l (x + 2) (y + 2) close_bracket k m
            (faces_on a b n x y (x + 2) (y + 2) f (omega arith) (omega arith) (omega arith)) (omega arith) inside e.first;
        far = omega arith;
        colon = l.there (k - 1) (m - 1) colon (faces_on a b n x y (k - 1) (m - 1) f (omega arith) (omega arith) (omega arith)) e.colon;
      }

  -- the bytes between two places
  slice_alike : Alike p a q b n → (x y k m : ℕ) → Faces a b n x y → x ≤ k → k + y ≡ m + x → k < a + n → k ≤ length p
      → m ≤ length q → slice_range p x k ≡ slice_range q y m
  slice_alike l x y k m f low sum inside fits fits' =
      let long = part_length p x (k - x) (omega arith) in
      let long' = part_length q y (m - y) (omega arith) in
      same_number_lists (slice_range p x k) (slice_range q y m) (omega arith) (λ i below.
      let h = l.there (x + i) (y + i) (get_or p (x + i) 0)
      (faces_on a b n x y (x + i) (y + i) f (omega arith) (omega arith) (omega arith))
      (record { inside = omega arith; is = refl }) in
      part_byte p x (k - x) i (omega arith) ∙ (sym h.is ∙ sym (part_byte q y (m - y) i (omega arith))))

  upper_alike : Alike p a q b n → (x y high j m : ℕ) → Faces a b n x y → j + y ≡ m + x → j < a + n
      → IsUpperEnd p x high j → IsUpperEnd q y high m
  upper_alike l x y high j m f sum inside (inl e) = inl (l.there x y high f e.0, e.1, omega (arith, e.2))
  upper_alike l x y high j m f sum inside (inr e) =
      let far : j ≡ x + 2 = e.1 in
      inr (escaped_alike l x y high f (omega arith) e.0, omega arith)

  sign_alike : Alike p a q b n → (x y : ℕ) → Faces a b n x y → IsSign p x → IsSign q y
  sign_alike l x y f (inl h) = inl (l.there x y exclamation_mark f h)
  sign_alike l x y f (inr h) = inr (l.there x y caret f h)

  run_alike : Alike p a q b n → (x y j m : ℕ) → Faces a b n x y → j + y ≡ m + x → j < a + n → IsRun p x j → IsRun q y m
  run_alike l x y j m f sum inside run =
      let some : x < j = run.some in record {
        some = omega arith;
        stars = λ k from below.
            l.there (x + (k - y)) k star (faces_on a b n x y (x + (k - y)) k f (omega arith) (omega arith) (omega arith))
            (run.stars (x + (k - y)) (omega arith) (omega arith));
        whole = λ h. run.whole (l.back j m star (faces_on a b n x y j m f (omega arith) sum inside) h);
      }

start_faces : (a b n x y : ℕ) → Faces a b n x y → (negated : Bool) → (if negated then x + 2 else x + 1) < a + n
    → Faces a b n (if negated then x + 2 else x + 1) (if negated then y + 2 else y + 1)
start_faces a b n x y f true inside = faces_on a b n x y (x + 2) (y + 2) f (omega arith) (omega arith) inside
start_faces a b n x y f false inside = faces_on a b n x y (x + 1) (y + 1) f (omega arith) (omega arith) inside

start_sum : (x y : ℕ) (negated : Bool) → (if negated then x + 2 else x + 1) + y ≡ (if negated then y + 2 else y + 1) + x
start_sum x y true = omega arith
start_sum x y false = omega arith

start_low : (x : ℕ) (negated : Bool) → x + 1 ≤ (if negated then x + 2 else x + 1)
start_low x true = omega arith
start_low x false = omega arith

-- ---- sets and tokens

-- in path mode, what begins at place x of the one text is as bounded as what begins at place y of the other
abbrev pub BoundAlike : Way → List ℕ → List ℕ → ℕ → ℕ → Type 0
BoundAlike way p q x y = IsTrue (is_path way) → (j m : ℕ) → j + y ≡ m + x → IsRun p x j → IsBounded p x j ↔ IsBounded q y m

-- in plain mode nothing is asked
pub plain_bounds : (way : Way) (p q : List ℕ) (x y : ℕ) → is_path way ≡ false → BoundAlike way p q x y
plain_bounds way p q x y plain = λ path j m sum run. absurd (let no : true ≡ false = sym path ∙ plain in cc)

module _ (p : List ℕ) (a : ℕ) (q : List ℕ) (b n : ℕ) where
  -- the first bracket that closes is not past one that does
  none_alike : Alike p a q b n → (x y z : ℕ) → Faces a b n x y → HasByte p z close_bracket → x + 2 ≤ z → z < a + n
      → (k : ℕ) → IsFirstFrom p (x + 2) close_bracket k → ¬ NamesClass p x k
      → (m : ℕ) × IsFirstFrom q (y + 2) close_bracket m × ¬ NamesClass q y m
  none_alike l x y z f close far inside k first none =
      let low : x + 2 ≤ k = first.low in
      let high : k ≤ z = first.before z far close in
      let same : x + b ≡ y + a = f.same in
      let on = faces_on a b n x y (x + 2) (y + 2) f (omega arith) (omega arith) (omega arith) in (
        y + (k - x),
        first_alike p a q b n l (x + 2) (y + 2) close_bracket k (y + (k - x)) on (omega arith) (omega arith) first,
        λ h.
            none
            (names_alike q b p a n (alike_flip p a q b n l) y x (y + (k - x)) k (faces_flip a b n x y f) (omega arith) (omega arith) h),
      )

  bare_alike : Alike p a q b n → (low : Option ℕ) (x y z c : ℕ) → Faces a b n x y → HasByte p z close_bracket → x + 1 ≤ z
      → z < a + n → IsBare p low x c → IsBare q low y c
  bare_alike l low x y z c f close far inside e =
      let same : x + b ≡ y + a = f.same in
      let back = alike_flip p a q b n l in
      let turned = faces_flip a b n x y f in record {
        here = l.there x y c f e.here;
        unescaped = e.unescaped;
        no_range = λ r. e.no_range (range_alike q b p a n back low y x turned (omega arith) r);
        no_class = λ h.
            let begins = class_alike q b p a n back y x turned (omega arith) h in
            let apart : x + 1 ≡ z → ⊥ = λ at.
            two_bytes p z colon close_bracket (subst (λ (k : ℕ). HasByte p k colon) at begins.colon) close (λ is. omega arith) in
            let none = e.no_class begins in
            none_alike l x y z f close (omega arith) inside none.0 none.1 none.2;
      }

  item_alike : Alike p a q b n → (low : Option ℕ) (x y z : ℕ) (it : Item) (k m : ℕ) → Faces a b n x y → HasByte p z close_bracket
      → k ≤ z → z < a + n → k + y ≡ m + x → ItemAt p low x it k → ItemAt q low y it m
  item_alike l low x y z (item.Member c) k m f close far inside sum (inl e) =
      let end : k ≡ x + 2 = e.1 in
      inl (escaped_alike p a q b n l x y c f (omega arith) e.0, omega arith)
  item_alike l low x y z (item.Member c) k m f close far inside sum (inr e) =
      let end : k ≡ x + 1 = e.1 in
      inr (bare_alike l low x y z c f close (omega arith) inside e.0, omega arith)
  item_alike l low x y z (item.Range c d) k m f close far inside sum e =
      let past : x + 1 < k = upper_past p (x + 1) d k e.2 in
      let on = faces_on a b n x y (x + 1) (y + 1) f (omega arith) (omega arith) (omega arith) in (
        range_alike p a q b n l low x y f (omega arith) e.0,
        e.1,
        upper_alike p a q b n l (x + 1) (y + 1) d k m on (omega arith) (omega arith) e.2,
      )
  item_alike l low x y z (item.Class c) k m f close far inside sum e =
      let end : k ≡ e.0 + 1 = e.3 in
      let long : x + 3 ≤ e.0 = e.1.far in
      let within : e.0 < length p = e.1.first.here.inside in
      let named = names_alike p a q b n l x y e.0 (y + (e.0 - x)) f (omega arith) (omega arith) e.1 in
      let within' : y + (e.0 - x) < length q = named.first.here.inside in
      let on = faces_on a b n x y (x + 2) (y + 2) f (omega arith) (omega arith) (omega arith) in
      let name =
      slice_alike p a q b n l (x + 2) (y + 2) (e.0 - 1) (y + (e.0 - x) - 1) on (omega arith) (omega arith) (omega arith) (omega arith) (omega arith) in
      (y + (e.0 - x), named, sym name ∙ e.2, omega arith)

  items_alike : Alike p a q b n → (first : Bool) (low : Option ℕ) (x y : ℕ) (xs : List Item) (j m : ℕ) → Faces a b n x y
      → j < a + n → j + y ≡ m + x → ItemsAt p first low x xs j → ItemsAt q first low y xs m
  items_alike l first low x y [] j m f inside sum e = (e.0, l.there x y close_bracket f e.1, omega (arith, e.2))
  items_alike l first low x y (it ∷ xs) j m f inside sum e =
      let past : x < e.1 = item_past p low x it e.1 e.2 in
      let high : e.1 ≤ j = items_past p false (member_of it) e.1 xs j e.3 in
      let close : HasByte p j close_bracket = items_close p false (member_of it) e.1 xs j e.3 in
      let on = faces_on a b n x y e.1 (y + (e.1 - x)) f (omega arith) (omega arith) (omega arith) in (
        λ later h. e.0 later (l.back x y close_bracket f h),
        y + (e.1 - x),
        item_alike l low x y j it e.1 (y + (e.1 - x)) f close high inside (omega arith) e.2,
        items_alike l false (member_of it) e.1 (y + (e.1 - x)) xs j m on inside (omega arith) e.3,
      )

  set_alike : Alike p a q b n → (x y : ℕ) (s : Set) (j m : ℕ) → Faces a b n x y → j ≤ a + n → j + y ≡ m + x
      → SetAt p x s j → SetAt q y s m
  set_alike l x y s j m f inside sum e =
      let low : x + 1 ≤ (if s.negated then x + 2 else x + 1) = start_low x s.negated in
      let on : (if s.negated then x + 2 else x + 1) ≤ e.close = items_past p _ _ _ s.items e.close e.items in
      let after : j ≡ e.close + 1 = e.after in
      let gap = start_sum x y s.negated in
      let same : x + b ≡ y + a = f.same in
      let next = faces_on a b n x y (x + 1) (y + 1) f (omega arith) (omega arith) (omega arith) in record {
        bracket = l.there x y open_bracket f e.bracket;
        sign = (
          λ is. sign_alike p a q b n l (x + 1) (y + 1) next (e.sign.0 is),
          λ is. e.sign.1 (sign_alike q b p a n (alike_flip p a q b n l) (y + 1) (x + 1) (faces_flip a b n (x + 1) (y + 1) next) is),
        );
        close = m - 1;
        items =
            items_alike l true None _ _ s.items e.close (m - 1) (start_faces a b n x y f s.negated (omega arith)) (omega arith) (omega arith) e.items;
        after = omega arith;
      }

  token_alike : Alike p a q b n → (way : Way) (x y : ℕ) (t : Token) (j m : ℕ) → BoundAlike way p q x y → Faces a b n x y → j < a + n
      → j + y ≡ m + x → (t ≡ Nothing → TokenAt way q y Nothing m) → TokenAt way p x t j → TokenAt way q y t m
  token_alike l way x y (Byte c) j m bounds f inside sum broken (inl e) =
      let end : j ≡ x + 2 = e.1 in
      inl (escaped_alike p a q b n l x y c f (omega arith) e.0, omega arith, e.2)
  token_alike l way x y (Byte c) j m bounds f inside sum broken (inr e) =
      let end : j ≡ x + 1 = e.2 in
      inr (l.there x y c f e.0, e.1, omega arith)
  token_alike l way x y Any j m bounds f inside sum broken e =
      let end : j ≡ x + 1 = e.1 in
      (l.there x y question_mark f e.0, omega arith)
  token_alike l way x y (OneOf s) j m bounds f inside sum broken e = set_alike l x y s j m f (omega arith) sum e
  token_alike l way x y Free j m bounds f inside sum broken e =
      let past : x < j = e.0.some in
      let end = faces_on a b n x y j m f (omega arith) (omega arith) inside in (
        run_alike p a q b n l x y j m f sum inside e.0,
        λ path. ((bounds path j m sum e.0).0 (e.1 path).0, λ h. (e.1 path).1 (l.back j m slash end h)),
      )
  token_alike l way x y Local j m bounds f inside sum broken e =
      (run_alike p a q b n l x y j m f sum inside e.0, e.1, λ h. e.2 ((bounds e.1 j m sum e.0).1 h))
  token_alike l way x y Dirs j m bounds f inside sum broken e =
      let past : x < e.run_end = e.run.some in
      let after : j ≡ e.run_end + 1 = e.after in
      let k = y + (e.run_end - x) in
      let end = faces_on a b n x y e.run_end k f (omega arith) (omega arith) (omega arith) in record {
        path = e.path;
        run_end = k;
        run = run_alike p a q b n l x y e.run_end k f (omega arith) (omega arith) e.run;
        bounded = (bounds e.path e.run_end k (omega arith) e.run).0 e.bounded;
        slash = l.there e.run_end k slash end e.slash;
        after = omega arith;
      }
  token_alike l way x y Nothing j m bounds f inside sum broken e = broken refl

-- what cannot be read in the one text cannot be read in the other, where they are alike up to their ends
broken_alike : (p : List ℕ) (a : ℕ) (q : List ℕ) (b n : ℕ) → Alike p a q b n → length p + b ≡ length q + a → length p < a + n
    → (way : Way) (x y : ℕ) → Faces a b n x y → IsBroken way p x → IsBroken way q y
broken_alike p a q b n l ends over way x y f (inl (h, inl last)) =
    let same : x + b ≡ y + a = f.same in
    inl (l.there x y backslash f h, inl (omega arith))
broken_alike p a q b n l ends over way x y f (inl (h, inr dead)) =
    let inside : x + 1 < length p = dead.1.inside in
    let next = faces_on a b n x y (x + 1) (y + 1) f (omega arith) (omega arith) (omega arith) in
    inl (l.there x y backslash f h, inr (dead.0, l.there (x + 1) (y + 1) dead.0 next dead.1, dead.2))
broken_alike p a q b n l ends over way x y f (inr e) =
    inr (
      l.there x y open_bracket f e.0,
      λ s k set.
          let same : x + b ≡ y + a = f.same in
          let past : y < k = set_past q y s k set in
          let inside : k ≤ length q = set_inside q y s k set in
          e.1 s (x + (k - y))
          (set_alike q b p a n (alike_flip p a q b n l) y x s k (x + (k - y)) (faces_flip a b n x y f) (omega arith) (omega arith) set),
    )

-- ---- readings

-- Texts that are alike from two places up to their ends have the same tokens from there on.
pub from_alike : (p : List ℕ) (a : ℕ) (q : List ℕ) (b n : ℕ) → Alike p a q b n → length p + b ≡ length q + a → length p < a + n
    → (way : Way) → ((x y : ℕ) → Faces a b n x y → BoundAlike way p q x y) → (x y : ℕ) (ts : List Token) → Faces a b n x y → From way p x ts → From way q y ts
from_alike p a q b n l ends over way bounds x y [] f e =
    let same : x + b ≡ y + a = f.same in
    let at_end : x ≡ length p = e in
    omega arith
from_alike p a q b n l ends over way bounds x y (t ∷ ts) f e =
    let same : x + b ≡ y + a = f.same in
    let past : x < e.0 = TokenAt-past way p x t e.0 e.1 in
    let short : e.0 + length ts ≤ length p = From-short way p e.0 ts e.2 in
    let m : ℕ = y + (e.0 - x) in
    let broken : t ≡ Nothing → TokenAt way q y Nothing m = λ is.
    let here : TokenAt way p x Nothing e.0 = subst (λ (u : Token). TokenAt way p x u e.0) is e.1 in
    let at_end : e.0 ≡ length p = here.1 in
    (broken_alike p a q b n l ends over way x y f here.0, omega arith) in (
      m,
      token_alike p a q b n l way x y t e.0 m (bounds x y f) f (omega arith) (omega arith) broken e.1,
      from_alike p a q b n l ends over way bounds e.0 m ts
          (faces_on a b n x y e.0 m f (omega arith) (omega arith) (omega arith)) e.2,
    )

-- Texts that are alike at their beginning have the same tokens there.
pub spells_alike : (p q : List ℕ) (n : ℕ) → Alike p 0 q 0 n → (way : Way) (x : ℕ) (ts : List Token) (i : ℕ) → is_path way ≡ false
    → i < n → i < length p → Spells way p x ts i → Spells way q x ts i
spells_alike p q n l way x [] i plain below inside e = e
spells_alike p q n l way x (t ∷ ts) i plain below inside e =
    let past : x < e.0 = TokenAt-past way p x t e.0 e.1 in
    let forward : e.0 ≤ i = spells_forward way p e.0 ts i e.2 in
    let broken : t ≡ Nothing → TokenAt way q x Nothing e.0 = λ is.
    let here : TokenAt way p x Nothing e.0 = subst (λ (u : Token). TokenAt way p x u e.0) is e.1 in
    let at_end : e.0 ≡ length p = here.1 in
    absurd (omega arith) in (
      e.0,
      token_alike p 0 q 0 n l way x x t e.0 e.0 (plain_bounds way p q x x plain) (record { low = omega arith; below = omega arith; same = refl }) (omega arith) refl broken e.1,
      spells_alike p q n l way e.0 ts i plain below inside e.2,
    )
