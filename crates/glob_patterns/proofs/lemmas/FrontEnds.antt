-- What a value has of a text that matches it by front and rest: bytes and ends, as one that is matched whole has them.
use Rattle.std.proofs.Common.{◌≡◌, ◌⊎◌, ⊎_elim, inl, inr, ℕ, ◌+◌, ◌-◌, ◌<◌, ◌≤◌, true, false, List, ◌++◌, length, get_or, take, drop, Option, None, Some, refl, sym, ◌∙◌, ap, subst, arith, length-append, length-drop}
use Rattle.std.specs.List.{list_any}
use Rattle.std.proofs.lemmas.Bool.{cases_eq, cases_lt, false≢true, or_parts}
use Rattle.std.proofs.lemmas.List.{drop-append-le, drop-drop, get_or-drop, get_or-take, length-take-le}
use Rattle.std.proofs.lemmas.List.Folds.{list_any_at}
use Rattle.std.proofs.lemmas.List.Quantifiers.{position-Some}
use Rattle.glob_matcher.specs.declared.wildmatch.way.Way.{Way}
use Rattle.glob_matcher.specs.Bytes.{HasByte, backslash, fold, is_special, open_bracket}
use Rattle.glob_matcher.specs.Matching.{SplitsBy}
use Rattle.glob_patterns.specs.Folding.{folding_of}
use Rattle.glob_patterns.specs.GitPaths.{FrontAndRest}
use Rattle.glob_patterns.specs.Laws.LiteralBytes.{AreAlike, EndsAlike, HasAlike, HasAlikePair, IsUnescapedUpTo, is_joining}
use Rattle.glob_patterns.specs.Patterns.{first_special}
use Rattle.glob_patterns.specs.Private.Fronts.{BeginsAlike}
use Rattle.glob_patterns.proofs.lemmas.FrontLemmas.{front_all, front_cut, front_inside}
use Rattle.glob_patterns.proofs.lemmas.LiteralBytes.{literal_bytes, literal_pairs}
use Rattle.glob_patterns.proofs.lemmas.LiteralEnds.{end_at, literal_ends}
use Rattle.glob_patterns.proofs.lemmas.LiteralLemmas.{AreAlike-at}

cases_place : (place : Option ℕ) → (place ≡ None) ⊎ ((n : ℕ) × (place ≡ Some n))
cases_place None = inl refl
cases_place (Some n) = inr (n, refl)

-- a value that ends as a text does from a place on ends so as a whole
whole_ends : (way : Way) (value end : List ℕ) (n : ℕ) → n ≤ length value → EndsAlike way (drop n value) end → EndsAlike way value end
whole_ends way value end n inside h =
    let left = length-drop n value in
    let fits : length end ≤ length (drop n value) = h.fits in
    let at : ℕ = length (drop n value) - length end in
    let place : n + at ≡ length value - length end = omega arith in
    record {
      fits = omega arith;
      alike = h.alike ∙ ap (folding_of way) (drop-drop at n value) ∙ ap (λ (m : ℕ). folding_of way (drop m value)) place;
    }

-- ---- a front that ends inside the text

module _ (value text : List ℕ) (way : Way) (n : ℕ) (first : first_special text ≡ Some n) (h : FrontAndRest value text way) where
  inside : n ≤ length text
  inside = front_inside text n first

  found : (n < length text) × (is_special (get_or text n 0) ≡ true) × ((k : ℕ) → k < n → is_special (get_or text k 0) ≡ false)
  found = position-Some is_special text n 0 first

  begins : BeginsAlike way value (take n text)
  begins = (front_cut value text way n first h).0

  rest_splits : SplitsBy (drop n value) (drop n text) way
  rest_splits = (front_cut value text way n first h).1

  long : length (take n text) ≡ n
  long = length-take-le n text inside

  fits : n ≤ length value
  fits = let enough : length (take n text) ≤ length value = begins.fits in omega (arith, long)

  -- a byte of the front stands in the value where it stands in the text
  front_byte : (i b : ℕ) → i < n → HasByte text i b → fold way (get_or value i 0) ≡ fold way b
  front_byte i b below there =
      let small : i < length (take n text) = omega (arith, long) in
      sym (ap (fold way) (get_or-take (length (take n text)) value i 0 small))
      ∙ sym (AreAlike-at way (take n text) (take (length (take n text)) value) begins.alike i small)
      ∙ ap (fold way) (get_or-take n text i 0 below)
      ∙ ap (fold way) there.is

  -- a byte past the front is one of the rest
  rest_byte : (i b : ℕ) → n ≤ i → HasByte text i b → HasByte (drop n text) (i - n) b
  rest_byte i b past there =
      let within : i < length text = there.inside in
      let left = length-drop n text in
      let place : n + (i - n) ≡ i = omega arith in
      record { inside = omega arith; is = get_or-drop n text (i - n) 0 ∙ ap (λ (m : ℕ). get_or text m 0) place ∙ there.is }

  byte_back : (j b : ℕ) → HasByte (drop n text) j b → HasByte text (n + j) b
  byte_back j b there =
      let within : j < length (drop n text) = there.inside in
      let left = length-drop n text in
      record { inside = omega arith; is = sym (get_or-drop n text j 0) ∙ there.is }

  rest_unescaped : (i : ℕ) → n ≤ i → IsUnescapedUpTo text i → IsUnescapedUpTo (drop n text) (i - n)
  rest_unescaped i past clean = record {
    no_set = λ j low there. clean.no_set (n + j) (omega arith) (byte_back j open_bracket there);
    no_escape = λ j low there. clean.no_escape (n + j) (omega arith) (byte_back j backslash there);
  }

  -- the place where the front ends has no byte that stands for itself
  not_at_end : (b : ℕ) → HasByte text n b → ¬ (is_joining b ≡ false)
  not_at_end b there plain = false≢true (sym (or_parts _ _ plain).0 ∙ (ap is_special (sym there.is) ∙ found.1))

  cut_bytes : (i b : ℕ) → IsUnescapedUpTo text i → HasByte text i b → is_joining b ≡ false → HasAlike way value b
  cut_bytes i b clean there plain = elim (cases_lt i n) [
    | inl below ↦ record { place = i; inside = omega (arith, fits); alike = front_byte i b below there }
    | inr past ↦
        (let has = literal_bytes (drop n text) (drop n value) way (i - n) b (rest_unescaped i past clean) (rest_byte i b past there) plain rest_splits in
        let within : has.place < length (drop n value) = has.inside in
        let left = length-drop n value in
        record { place = n + has.place; inside = omega arith; alike = ap (fold way) (sym (get_or-drop n value has.place 0)) ∙ has.alike })
  ]

  cut_pairs : (i a b : ℕ) → IsUnescapedUpTo text (i + 1) → HasByte text i a → HasByte text (i + 1) b → is_joining a ≡ false → is_joining b ≡ false → HasAlikePair way value a b
  cut_pairs i a b clean here next plain plain' = elim (cases_lt i n) [
    | inl below ↦ elim (cases_lt (i + 1) n) [
      | inl both ↦ record { place = i; inside = omega (arith, fits); alike = front_byte i a below here; next_alike = front_byte (i + 1) b both next }
      | inr seam ↦ (let place : i + 1 ≡ n = omega arith in absurd (not_at_end b (subst (λ (m : ℕ). HasByte text m b) place next) plain'))
    ]
    | inr past ↦
        (let place : i + 1 - n ≡ i - n + 1 = omega arith in
        let clean' : IsUnescapedUpTo (drop n text) (i - n + 1) = subst (λ (m : ℕ). IsUnescapedUpTo (drop n text) m) place (rest_unescaped (i + 1) (omega arith) clean) in
        let next' : HasByte (drop n text) (i - n + 1) b = subst (λ (m : ℕ). HasByte (drop n text) m b) place (rest_byte (i + 1) b (omega arith) next) in
        let has = literal_pairs (drop n text) (drop n value) way (i - n) a b clean' (rest_byte i a past here) next' plain plain' rest_splits in
        let within : has.place + 1 < length (drop n value) = has.inside in
        let left = length-drop n value in
        let behind : n + has.place + 1 ≡ n + (has.place + 1) = omega arith in
        record {
          place = n + has.place;
          inside = omega arith;
          alike = ap (fold way) (sym (get_or-drop n value has.place 0)) ∙ has.alike;
          next_alike = ap (λ (m : ℕ). fold way (get_or value m 0)) behind ∙ ap (fold way) (sym (get_or-drop n value (has.place + 1) 0)) ∙ has.next_alike;
        })
  ]

-- a front that ends inside a text with a literal end ends before this one
cut_ends : (front end value : List ℕ) (way : Way) (n : ℕ) → first_special (front ++ end) ≡ Some n → list_any is_joining end ≡ false → FrontAndRest value (front ++ end) way → EndsAlike way value end
cut_ends front end value way n first none h =
    let text : List ℕ = front ++ end in
    let there = found value text way n first h in
    let long = length-append front end in
    let before : n ≤ length front = elim (cases_lt (length front) n) [
      | inr low ↦ low
      | inl past ↦
          (let m : ℕ = n - length front in
          let place : length front + m ≡ n = omega arith in
          let within : m < length end = omega (arith, there.0) in
          let same : get_or end m 0 ≡ get_or text n 0 = sym (end_at front end m) ∙ ap (λ (k : ℕ). get_or text k 0) place in
          let special : is_special (get_or end m 0) ≡ true = ap is_special same ∙ there.1 in
          absurd (false≢true (sym none ∙ list_any_at is_joining end m 0 within (rw special refl))))
    ] in
    let split : SplitsBy (drop n value) (drop n front ++ end) way =
    subst (λ (t : List ℕ). SplitsBy (drop n value) t way) (drop-append-le n front end before) (rest_splits value text way n first h) in
    whole_ends way value end n (fits value text way n first h) (literal_ends (drop n front) end (drop n value) way none split)

-- ---- any text

pub front_ends : (front end value : List ℕ) (way : Way) → list_any is_joining end ≡ false → FrontAndRest value (front ++ end) way → EndsAlike way value end
front_ends front end value way none h = ⊎_elim
    (λ plain. literal_ends front end value way none ((front_all value (front ++ end) way plain).0 h))
    (λ cut. cut_ends front end value way cut.0 cut.1 none h)
    (cases_place (first_special (front ++ end)))

pub front_bytes : (text value : List ℕ) (way : Way) (i b : ℕ) → IsUnescapedUpTo text i → HasByte text i b → is_joining b ≡ false → FrontAndRest value text way → HasAlike way value b
front_bytes text value way i b clean there plain h = ⊎_elim
    (λ none. literal_bytes text value way i b clean there plain ((front_all value text way none).0 h))
    (λ cut. cut_bytes value text way cut.0 cut.1 h i b clean there plain)
    (cases_place (first_special text))

pub front_pairs : (text value : List ℕ) (way : Way) (i a b : ℕ) → IsUnescapedUpTo text (i + 1) → HasByte text i a → HasByte text (i + 1) b → is_joining a ≡ false → is_joining b ≡ false
    → FrontAndRest value text way → HasAlikePair way value a b
front_pairs text value way i a b clean here next plain plain' h = ⊎_elim
    (λ none. literal_pairs text value way i a b clean here next plain plain' ((front_all value text way none).0 h))
    (λ cut. cut_pairs value text way cut.0 cut.1 h i a b clean here next plain plain')
    (cases_place (first_special text))
