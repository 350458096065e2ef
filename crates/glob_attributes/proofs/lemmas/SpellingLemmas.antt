-- The head of a line: the relation and the equation agree.
use Rattle.std.proofs.Common.{◌≡◌, ◌≢◌, ◌⊎◌, inl, inr, ⊎_elim, ℕ, zero, suc, ◌+◌, ◌-◌, ◌*◌, ◌<◌, ◌≤◌, Bool, true, false, cond, List, [], ◌∷◌, ◌++◌, length, drop, Option, None, Some, Vec, refl, sym, ap, subst, ◌∙◌, append_assoc, le_refl, take-append-drop, arith}
use Rattle.std.specs.Prelude.{◌==◌, ◌&&◌, ◌↔◌, codes, nat_eq, nat_le, option_map, slice_index_or}
use Rattle.std.specs.List.{AllByRecursion, AllZip, IsAmong, before_first, concat, position_or_len, starts_with}
use Rattle.std.specs.Borrow.{Bor}
use Rattle.std.specs.Map.{lookup}
use Rattle.std.specs.Option.{MatchOption}
use Rattle.std.proofs.lemmas.Bool.{and_parts, cases_Bool, eqb-true, false≢true, le-leb, leb-true, ne_eqb}
use Rattle.std.proofs.lemmas.Bool.Decides.{eqb_tells}
use Rattle.std.proofs.lemmas.List.{append_cancel_left}
use Rattle.std.proofs.lemmas.Option.{same_Some}
use Rattle.gix_glob.specs.Bytes.{backslash}
use Rattle.glob_attributes.specs.Heads.{IsHead, IsQuotedHead, SpellsByte, escapes}
use Rattle.glob_attributes.specs.Words.{is_blank}
use Rattle.glob_attributes.specs.Equations.Heads.{bare_head, escape_at, head_of, is_octal, letter_byte, octal_byte, quote, quoted_from, unit_at, with_front}
use Rattle.glob_attributes.proofs.lemmas.HeadLemmas.{head_of-bare, head_of-quoted, head_of-wrong, quoted_from-end, quoted_from-none, quoted_from-unit}

cases_Option : {A : Type 0} (o : Option A) → (o ≡ None) ⊎ ((x : A) × (o ≡ Some x))
cases_Option None = inl refl
cases_Option (Some x) = inr (x, refl)

abbrev some_unit : ℕ → ℕ → Option (ℕ × ℕ)
some_unit b more = Some (b, more)

abbrev letter_unit : Option ℕ → Option (ℕ × ℕ)
letter_unit letter = option_map (λ x. (x, 1)) letter

abbrev numbers : ℕ → ℕ → ℕ × ℕ
numbers a b = (a, b)

same_byte : (a n b m : ℕ) → some_unit a n ≡ some_unit b m → a ≡ b
same_byte a n b m is = let pair : numbers a n ≡ numbers b m = cc in ap (λ (p : ℕ × ℕ). p.0) pair

same_count : (a n b m : ℕ) → some_unit a n ≡ some_unit b m → n ≡ m
same_count a n b m is = let pair : numbers a n ≡ numbers b m = cc in ap (λ (p : ℕ × ℕ). p.1) pair

abbrev texts : List ℕ → List ℕ → List ℕ × List ℕ
texts a b = (a, b)

abbrev some_texts : List ℕ → List ℕ → Option (List ℕ × List ℕ)
some_texts a b = Some (a, b)

same_head : (a n b m : List ℕ) → some_texts a n ≡ some_texts b m → a ≡ b
same_head a n b m is = let pair : texts a n ≡ texts b m = cc in ap (λ (p : List ℕ × List ℕ). p.0) pair

same_rest : (a n b m : List ℕ) → some_texts a n ≡ some_texts b m → n ≡ m
same_rest a n b m is = let pair : texts a n ≡ texts b m = cc in ap (λ (p : List ℕ × List ℕ). p.1) pair

-- ---- the table of escapes

among-at : {X : Type 0} (P : X → Type 0) (xs : List X) (v : X) (i : ℕ) → AllByRecursion P xs → i < length xs → v ≡ slice_index_or xs i v → P v
among-at P [] v i all within is = absurd (omega arith)
among-at P (x ∷ xs) v zero all within is = subst P (sym is) all.0
among-at P (x ∷ xs) v (suc i) all within is = among-at P xs v i all.1 (omega arith) is

abbrev is_letter : ℕ × ℕ → Type 0
is_letter pair = letter_byte pair.0 ≡ Some pair.1

each_letter : AllByRecursion is_letter escapes
each_letter = (refl, (refl, (refl, (refl, (refl, (refl, (refl, (refl, (refl, tt)))))))))

escape_letter : (c b : ℕ) → IsAmong escapes (c, b) → letter_byte c ≡ Some b
escape_letter c b is = among-at is_letter escapes (c, b) is.0 each_letter is.1.0 is.1.1

looked_up : (table : List (ℕ × ℕ)) (c b : ℕ) → lookup (λ k. c == k) table ≡ Some b → IsAmong table (c, b)
looked_up [] c b is = absurd (cc)
looked_up (pair ∷ table) c b is =
    ⊎_elim
    (λ yes. let value : pair.1 ≡ b = same_Some pair.1 b (sym (ap (λ t. cond t (Some pair.1) (lookup (λ k. c == k) table)) yes.0) ∙ is) in
    (0, (omega arith, ap (λ n. (n, b)) yes.1 ∙ ap (λ n. (pair.0, n)) (sym value))))
    (λ no. let later = looked_up table c b (sym (ap (λ t. cond t (Some pair.1) (lookup (λ k. c == k) table)) no.0) ∙ is) in
    let within = later.1.0 in
    (suc later.0, (omega arith, later.1.1)))
    (eqb_tells c pair.0)

letter_escape : (c b : ℕ) → letter_byte c ≡ Some b → IsAmong escapes (c, b)
letter_escape c b is = looked_up escapes c b is

-- ---- octal digits

octal_digit : (greatest x : ℕ) → x ≤ greatest → is_octal greatest (48 + x) ≡ true
octal_digit greatest x low =
    ap (λ t. t && nat_le (48 + x) (48 + greatest)) (le-leb 48 (48 + x) (omega arith)) ∙ le-leb (48 + x) (48 + greatest) (omega arith)

octal_digits : (x y z : ℕ) → x ≤ 3 → y ≤ 7 → z ≤ 7 → (is_octal 3 (48 + x) && (is_octal 7 (48 + y) && is_octal 7 (48 + z))) ≡ true
octal_digits x y z first second third =
    ap (λ t. t && (is_octal 7 (48 + y) && is_octal 7 (48 + z))) (octal_digit 3 x first)
    ∙ ap (λ t. t && is_octal 7 (48 + z)) (octal_digit 7 y second)
    ∙ octal_digit 7 z third

octal_value : (x y z : ℕ) → octal_byte (48 + x) (48 + y) (48 + z) ≡ 64 * x + 8 * y + z
octal_value x y z = omega arith

-- the number of a digit
record IsDigit (greatest c : ℕ) : Type 0 where
  low : c - 48 ≤ greatest
  is : c ≡ 48 + (c - 48)

digit_number : (greatest c : ℕ) → is_octal greatest c ≡ true → IsDigit greatest c
digit_number greatest c digit =
    let parts = and_parts (nat_le 48 c) (nat_le c (48 + greatest)) digit in
    let above : 48 ≤ c = leb-true 48 c parts.0 in
    let below : c ≤ 48 + greatest = leb-true c (48 + greatest) parts.1 in
    record { low = omega arith; is = omega arith }

-- ---- one unit

-- a digit is no letter of an escape
no_letter : (c : ℕ) → is_octal 3 c ≡ true → letter_byte c ≡ None
no_letter c digit =
    let parts = and_parts (nat_le 48 c) (nat_le c 51) digit in
    let low : 48 ≤ c = leb-true 48 c parts.0 in
    let high : c ≤ 51 = leb-true c 51 parts.1 in
    rw (
      ne_eqb c 97 (λ e. absurd (omega arith)),
      ne_eqb c 98 (λ e. absurd (omega arith)),
      ne_eqb c 116 (λ e. absurd (omega arith)),
      ne_eqb c 110 (λ e. absurd (omega arith)),
      ne_eqb c 118 (λ e. absurd (omega arith)),
      ne_eqb c 102 (λ e. absurd (omega arith)),
      ne_eqb c 114 (λ e. absurd (omega arith)),
      ne_eqb c 34 (λ e. absurd (omega arith)),
      ne_eqb c 92 (λ e. absurd (omega arith)),
    ) refl

letter_no_digit : (c b : ℕ) → letter_byte c ≡ Some b → is_octal 3 c ≡ false
letter_no_digit c b is =
    ⊎_elim
    (λ digit. let none : None ≡ Some b = sym (no_letter c digit) ∙ is in absurd (cc))
    (λ other. other)
    (cases_Bool (is_octal 3 c))

escape_at-letter : (c b : ℕ) (rest : List ℕ) → letter_byte c ≡ Some b → escape_at (c ∷ rest) ≡ Some (b, 1)
escape_at-letter c b [] is = ap (option_map (λ x. (x, 1))) is
escape_at-letter c b (y ∷ []) is = ap (option_map (λ x. (x, 1))) is
escape_at-letter c b (y ∷ z ∷ rest) is =
    ap (λ t. cond (t && (is_octal 7 y && is_octal 7 z)) (Some (octal_byte c y z, 3)) (option_map (λ x. (x, 1)) (letter_byte c))) (letter_no_digit c b is)
    ∙ ap (option_map (λ x. (x, 1))) is

-- the unit at the front, and what follows it
record HasUnit (b : ℕ) (text rest : List ℕ) : Type 0 where
  more : ℕ
  at : unit_at text ≡ Some (b, more)
  behind : drop (more + 1) text ≡ rest

unit_spelled : (b : ℕ) (unit rest : List ℕ) → SpellsByte b unit → HasUnit b (unit ++ rest) rest
unit_spelled b unit rest (inl itself) =
    subst (λ u. HasUnit b (u ++ rest) rest) (sym itself.2) (record {
      more = 0;
      at = ap (λ t. cond t None (cond (b == backslash) (escape_at rest) (Some (b, 0)))) (ne_eqb b quote itself.0)
          ∙ ap (λ t. cond t (escape_at rest) (Some (b, 0))) (ne_eqb b backslash itself.1);
      behind = refl;
    })
unit_spelled b unit rest (inr (inl letter)) =
    subst (λ u. HasUnit b (u ++ rest) rest) (sym letter.2)
    (record { more = 1; at = escape_at-letter letter.0 b rest (escape_letter letter.0 b letter.1); behind = refl })
unit_spelled b unit rest (inr (inr octal)) =
    let x = 48 + octal.0 in
    let spelled = octal_byte x (48 + octal.1) (48 + octal.2) in
    subst (λ u. HasUnit b (u ++ rest) rest) (sym octal.6) (record {
      more = 3;
      at = ap (λ t. cond t (Some (spelled, 3)) (option_map (λ l. (l, 1)) (letter_byte x))) (octal_digits octal.0 octal.1 octal.2 octal.3 octal.4 octal.5)
          ∙ ap (λ n. Some (n, 3)) (octal_value octal.0 octal.1 octal.2 ∙ sym octal.7);
      behind = refl;
    })

-- ---- the quoted head

quoted_spelled : (head : List ℕ) (units : List (List ℕ)) (rest : List ℕ) → AllZip SpellsByte head units → quoted_from 0 (concat units ++ quote ∷ rest) ≡ Some (head, rest)
quoted_spelled [] [] rest each = quoted_from-end rest
quoted_spelled [] (unit ∷ units) rest each = absurd each
quoted_spelled (b ∷ head) [] rest each = absurd each
quoted_spelled (b ∷ head) (unit ∷ units) rest each =
    let more = concat units ++ quote ∷ rest in
    let first = unit_spelled b unit more each.0 in
    ap (quoted_from 0) (append_assoc unit (concat units) (quote ∷ rest))
    ∙ quoted_from-unit (unit ++ more) b first.more first.at
    ∙ ap (λ l. option_map (with_front (b ∷ [])) (quoted_from 0 l)) first.behind
    ∙ ap (option_map (with_front (b ∷ []))) (quoted_spelled head units rest each.1)

-- what a unit at the front spells
record SpellsFront (b more : ℕ) (text : List ℕ) : Type 0 where
  unit : List ℕ
  spells : SpellsByte b unit
  joined : text ≡ unit ++ drop (more + 1) text
  shorter : length (drop (more + 1) text) < length text

letter_front : (c b more : ℕ) (rest : List ℕ) → letter_unit (letter_byte c) ≡ some_unit b more → SpellsFront b more (backslash ∷ c ∷ rest)
letter_front c b more rest is =
    ⊎_elim
    (λ none. let never : None ≡ Some (b, more) = sym (ap letter_unit none) ∙ is in absurd (cc))
    (λ some. let same : some_unit some.0 1 ≡ some_unit b more = sym (ap letter_unit some.1) ∙ is in
    let byte = same_byte some.0 1 b more same in
    let count = same_count some.0 1 b more same in
    subst (λ n. SpellsFront b n (backslash ∷ c ∷ rest)) count (record {
      unit = backslash ∷ c ∷ [];
      spells = inr (inl (c, letter_escape c b (some.1 ∙ ap Some byte), refl));
      joined = refl;
      shorter = omega arith;
    }))
    (cases_Option (letter_byte c))

octal_front : (c y z b more : ℕ) (rest : List ℕ) → (is_octal 3 c && (is_octal 7 y && is_octal 7 z)) ≡ true → some_unit (octal_byte c y z) 3 ≡ some_unit b more → SpellsFront b more (backslash ∷ c ∷ y ∷ z ∷ rest)
octal_front c y z b more rest digits is =
    let tests = and_parts (is_octal 3 c) (is_octal 7 y && is_octal 7 z) digits in
    let later = and_parts (is_octal 7 y) (is_octal 7 z) tests.1 in
    let first = digit_number 3 c tests.0 in
    let second = digit_number 7 y later.0 in
    let third = digit_number 7 z later.1 in
    let unit : backslash ∷ c ∷ y ∷ z ∷ [] ≡ backslash ∷ (48 + (c - 48)) ∷ (48 + (y - 48)) ∷ (48 + (z - 48)) ∷ [] =
    ap (λ n. backslash ∷ n ∷ y ∷ z ∷ []) first.is ∙ ap (λ n. backslash ∷ (48 + (c - 48)) ∷ n ∷ z ∷ []) second.is
    ∙ ap (λ n. backslash ∷ (48 + (c - 48)) ∷ (48 + (y - 48)) ∷ n ∷ []) third.is in
    let byte = same_byte (octal_byte c y z) 3 b more is in
    let count = same_count (octal_byte c y z) 3 b more is in
    subst (λ n. SpellsFront b n (backslash ∷ c ∷ y ∷ z ∷ rest)) count (record {
      unit = backslash ∷ c ∷ y ∷ z ∷ [];
      spells = inr (inr (c - 48, y - 48, z - 48, first.low, second.low, third.low, unit, sym byte));
      joined = refl;
      shorter = omega arith;
    })

escape_front : (bytes : List ℕ) (b more : ℕ) → escape_at bytes ≡ Some (b, more) → SpellsFront b more (backslash ∷ bytes)
escape_front [] b more is = absurd (cc)
escape_front (c ∷ []) b more is = letter_front c b more [] is
escape_front (c ∷ y ∷ []) b more is = letter_front c b more (y ∷ []) is
escape_front (c ∷ y ∷ z ∷ rest) b more is =
    ⊎_elim
    (λ digits. octal_front c y z b more rest digits (sym (ap (λ t. cond t (Some (octal_byte c y z, 3)) (option_map (λ x. (x, 1)) (letter_byte c))) digits) ∙ is))
    (λ other. letter_front c b more (y ∷ z ∷ rest) (sym (ap (λ t. cond t (Some (octal_byte c y z, 3)) (option_map (λ x. (x, 1)) (letter_byte c))) other) ∙ is))
    (cases_Bool (is_octal 3 c && (is_octal 7 y && is_octal 7 z)))

unit_front : (a : ℕ) (bytes : List ℕ) (b more : ℕ) → a ≢ quote → unit_at (a ∷ bytes) ≡ Some (b, more) → SpellsFront b more (a ∷ bytes)
unit_front a bytes b more other is =
    let tested : cond (a == backslash) (escape_at bytes) (Some (a, 0)) ≡ Some (b, more) =
    sym (ap (λ t. cond t None (cond (a == backslash) (escape_at bytes) (Some (a, 0)))) (ne_eqb a quote other)) ∙ is in
    ⊎_elim
    (λ escape. subst (λ x. SpellsFront b more (x ∷ bytes)) (sym escape.1)
    (escape_front bytes b more (sym (ap (λ t. cond t (escape_at bytes) (Some (a, 0))) escape.0) ∙ tested)))
    (λ plain. let same : some_unit a 0 ≡ some_unit b more = sym (ap (λ t. cond t (escape_at bytes) (Some (a, 0))) plain.0) ∙ tested in
    let byte = same_byte a 0 b more same in
    let count = same_count a 0 b more same in
    subst (λ n. SpellsFront b n (a ∷ bytes)) count (record {
      unit = a ∷ [];
      spells = inl (subst (λ x. x ≢ quote) byte other, subst (λ x. x ≢ backslash) byte plain.1, ap (λ x. x ∷ []) byte);
      joined = refl;
      shorter = omega arith;
    }))
    (eqb_tells a backslash)

-- what was read is spelled so
record IsSpelled (text head rest : List ℕ) : Type 0 where
  units : List (List ℕ)
  spells : AllZip SpellsByte head units
  joined : text ≡ concat units ++ quote ∷ rest

spelled_first : (b : ℕ) (unit text left head rest : List ℕ) → SpellsByte b unit → text ≡ unit ++ left → IsSpelled left head rest → IsSpelled text (b ∷ head) rest
spelled_first b unit text left head rest spells joined h = record {
  units = unit ∷ h.units;
  spells = (spells, h.spells);
  joined = joined ∙ ap (λ l. unit ++ l) h.joined ∙ sym (append_assoc unit (concat h.units) (quote ∷ rest));
}

quoted_is_spelled : (n : ℕ) (text head rest : List ℕ) → length text ≤ n → quoted_from 0 text ≡ Some (head, rest) → IsSpelled text head rest
quoted_is_spelled n [] head rest low is = absurd (cc)
quoted_is_spelled zero (a ∷ bytes) head rest low is = absurd (omega arith)
quoted_is_spelled (suc n) (a ∷ bytes) head rest low is =
    ⊎_elim
    (λ end. let same : some_texts [] bytes ≡ some_texts head rest = sym (ap (λ x. quoted_from 0 (x ∷ bytes)) end.1 ∙ quoted_from-end bytes) ∙ is in
    let none = same_head [] bytes head rest same in
    let left = same_rest [] bytes head rest same in
    record { units = []; spells = subst (λ h. AllZip SpellsByte h []) none tt; joined = ap (λ x. x ∷ bytes) end.1 ∙ ap (λ l. quote ∷ l) left })
    (λ other. ⊎_elim
    (λ none. let never : None ≡ Some (head, rest) = sym (quoted_from-none (a ∷ bytes) none (λ behind e. let first : a ≡ quote = cc in other.1 first)) ∙ is in absurd (cc))
    (λ some. let unit = some.0 in
    let front = unit_front a bytes unit.0 unit.1 other.1 some.1 in
    let left = drop (unit.1 + 1) (a ∷ bytes) in
    let read : option_map (with_front (unit.0 ∷ [])) (quoted_from 0 left) ≡ Some (head, rest) = sym (quoted_from-unit (a ∷ bytes) unit.0 unit.1 some.1) ∙ is in
    ⊎_elim
    (λ nothing. let never : None ≡ Some (head, rest) = sym (ap (option_map (with_front (unit.0 ∷ []))) nothing) ∙ read in absurd (cc))
    (λ found. let same : some_texts (unit.0 ∷ found.0.0) found.0.1 ≡ some_texts head rest = sym (ap (option_map (with_front (unit.0 ∷ []))) found.1) ∙ read in
    let heads = same_head (unit.0 ∷ found.0.0) found.0.1 head rest same in
    let rests = same_rest (unit.0 ∷ found.0.0) found.0.1 head rest same in
    let shorter = front.shorter in
    subst (λ h. IsSpelled (a ∷ bytes) h rest) heads (subst (λ r. IsSpelled (a ∷ bytes) (unit.0 ∷ found.0.0) r) rests
    (spelled_first unit.0 front.unit (a ∷ bytes) left found.0.0 found.0.1 front.spells front.joined (quoted_is_spelled n left found.0.0 found.0.1 (omega arith) found.1))))
    (cases_Option (quoted_from 0 left)))
    (cases_Option (unit_at (a ∷ bytes))))
    (eqb_tells a quote)

-- ---- the head

abbrev pub begins : List ℕ → Bool
begins text = starts_with nat_eq text (codes "\"")

quote_first : (text : List ℕ) → begins text ≡ true → text ≡ quote ∷ drop 1 text
quote_first [] is = absurd (false≢true is)
quote_first (b ∷ text) is =
    let parts = and_parts (quote == b) true is in
    ap (λ x. x ∷ text) (sym (eqb-true quote b parts.0))

-- a text that has no quoted head, by equation
no_quoted : (text : List ℕ) → begins text ≡ true → quoted_from 0 (drop 1 text) ≡ None → (head rest : List ℕ) → IsQuotedHead text head rest → ⊥
no_quoted text quoted none head rest q =
    let found : None ≡ some_texts head rest = sym none ∙ ap (λ t. quoted_from 0 (drop 1 t)) q.2 ∙ quoted_spelled head q.0 rest q.1 in absurd (cc)

pub no_quote : (text : List ℕ) → begins text ≡ false → (head rest : List ℕ) → IsQuotedHead text head rest → ⊥
no_quote text other head rest q = false≢true (sym other ∙ ap begins q.2)

quoted_head : (text head rest : List ℕ) → begins text ≡ true → quoted_from 0 (drop 1 text) ≡ Some (head, rest) → IsQuotedHead text head rest
quoted_head text head rest quoted found =
    let spelled = quoted_is_spelled (length (drop 1 text)) (drop 1 text) head rest (le_refl _) found in
    (spelled.units, spelled.spells, quote_first text quoted ∙ ap (λ l. quote ∷ l) spelled.joined)

-- what was read behind a quote at the front, where anything was, is a quoted head
pub quoted_or_none : {Z : Type 0} (text : List ℕ) → begins text ≡ true → (read : Option (Vec ℕ Z × Bor (List ℕ))) → option_map (λ found. (found.0.items, found.1.now)) read ≡ quoted_from 0 (drop 1 text)
    → MatchOption read ((head rest : List ℕ) → ¬ IsQuotedHead text head rest) (λ found. IsQuotedHead text found.0.items found.1.now)
quoted_or_none text begun None is = λ head rest. no_quoted text begun (sym is) head rest
quoted_or_none text begun (Some found) is = quoted_head text found.0.items found.1.now begun (sym is)

-- a quoted head is the head, and else the bare one is
data HeadCase (text : List ℕ) : Type 0 where
  quoted_case : (found : List ℕ × List ℕ) → IsQuotedHead text found.0 found.1 → head_of text ≡ found → HeadCase text
  bare_case : ((head rest : List ℕ) → IsQuotedHead text head rest → ⊥) → head_of text ≡ bare_head text → HeadCase text

head_case : (text : List ℕ) → HeadCase text
head_case text =
    ⊎_elim
    (λ yes. ⊎_elim
    (λ none. bare_case (no_quoted text yes none) (head_of-wrong text (drop 1 text) yes refl none))
    (λ found. quoted_case found.0 (quoted_head text found.0.0 found.0.1 yes found.1) (head_of-quoted text (drop 1 text) found.0 yes refl found.1))
    (cases_Option (quoted_from 0 (drop 1 text))))
    (λ no. bare_case (no_quote text no) (head_of-bare text no))
    (cases_Bool (begins text))

IsHead-by_case : (text : List ℕ) → HeadCase text → IsHead text (head_of text).0 (head_of text).1
IsHead-by_case text (quoted_case found q is) = subst (λ (f : List ℕ × List ℕ). IsHead text f.0 f.1) (sym is) (inl q)
IsHead-by_case text (bare_case unquoted is) = subst (λ (f : List ℕ × List ℕ). IsHead text f.0 f.1) (sym is) (inr (unquoted, refl, sym (take-append-drop (position_or_len is_blank text) text)))

bare_only : (text head rest : List ℕ) → ((other behind : List ℕ) → IsQuotedHead text other behind → ⊥) → head ≡ before_first is_blank text → text ≡ head ++ rest
    → HeadCase text → (head, rest) ≡ head_of text
bare_only text head rest unquoted whole joined (quoted_case found q is) = absurd (unquoted found.0 found.1 q)
bare_only text head rest unquoted whole joined (bare_case none is) =
    let behind = drop (position_or_len is_blank text) text in
    let both : head ++ rest ≡ head ++ behind =
    sym joined ∙ sym (take-append-drop (position_or_len is_blank text) text) ∙ ap (λ h. h ++ behind) (sym whole) in
    ap (λ h. (h, rest)) whole ∙ ap (λ r. (before_first is_blank text, r)) (append_cancel_left head rest behind both) ∙ sym is

IsHead-only : (text head rest : List ℕ) → IsHead text head rest → (head, rest) ≡ head_of text
IsHead-only text head rest (inl q) =
    sym (head_of-quoted text (concat q.0 ++ quote ∷ rest) (head, rest) (ap begins q.2) (sym (ap (drop 1) q.2)) (quoted_spelled head q.0 rest q.1))
IsHead-only text head rest (inr b) = bare_only text head rest b.0 b.1 b.2 (head_case text)

-- the relation and the equation agree
pub heads_are_these : (text head rest : List ℕ) → IsHead text head rest ↔ ((head, rest) ≡ head_of text)
heads_are_these text head rest =
    (IsHead-only text head rest, λ is. subst (λ (f : List ℕ × List ℕ). IsHead text f.0 f.1) (sym is) (IsHead-by_case text (head_case text)))
