-- The spaces at the end of a line: the relation, the equation, and what the code takes off.
use Rattle.std.proofs.Common.{◌≡◌, ◌≢◌, inl, inr, ⊎_elim, ℕ, zero, suc, ◌+◌, ◌-◌, ◌%◌, ◌<◌, ◌≤◌, true, false, cond, List, [], ◌∷◌, ◌++◌, length, take, drop, get_or, refl, sym, ap, subst, ◌∙◌, append_assoc, append-nil, length-append, take_at, take-append-drop, arith}
use Rattle.std.specs.Prelude.{◌⊎◌, ◌==◌}
use Rattle.std.specs.List.{AllByRecursion, concat, list_all}
use Rattle.std.specs.Str.{bytes_eq}
use Rattle.std.proofs.lemmas.Bool.{cases_Bool, false≢true, ne_eqb, eqb-true, eq-eqb}
use Rattle.std.proofs.lemmas.Bool.Decides.{eqb_tells}
use Rattle.std.proofs.lemmas.List.{nil_from_length, same_from_push, take_more}
use Rattle.std.proofs.lemmas.List.Folds.{concat-append}
use Rattle.std.proofs.lemmas.Slice.Eq.{bytes_eq-Decides}
use Rattle.gix_glob.specs.Bytes.{backslash}
use Rattle.glob_lines.specs.Ignore.{Trims, units_of}
use Rattle.glob_lines.specs.Equations.Ignore.{space, units_before_spaces, text_before_spaces}
use Rattle.glob_lines.specs.Private.Trimming.{StandsBefore, is_open}
use Rattle.glob_lines.proofs.lemmas.ListLemmas.{AllByRecursion-append_parts, push_not-nil}

-- ---- the last unit that is kept

abbrev Spaces : List (List ℕ) → Type 0
Spaces units = AllByRecursion (λ unit. unit ≡ space) units

-- no unit of a row is a space at its end
abbrev EndsOtherwise : List (List ℕ) → Type 0
EndsOtherwise units = (before : List (List ℕ)) → units ≢ before ++ space ∷ []

is_space : (unit : List ℕ) → (bytes_eq space unit ≡ true) ⊎ (bytes_eq space unit ≡ false)
is_space unit = cases_Bool (bytes_eq space unit)

list_all-Spaces : (units : List (List ℕ)) → Spaces units → list_all (bytes_eq space) units ≡ true
list_all-Spaces [] h = refl
list_all-Spaces (unit ∷ units) h = rw h.0 (list_all-Spaces units h.1)

Spaces-list_all : (units : List (List ℕ)) → list_all (bytes_eq space) units ≡ true → Spaces units
Spaces-list_all [] h = tt
Spaces-list_all (unit ∷ units) h =
    ⊎_elim
    (λ (same : bytes_eq space unit ≡ true). (sym ((bytes_eq-Decides space unit).0 same), Spaces-list_all units (rw same at h)))
    (λ (other : bytes_eq space unit ≡ false). absurd (false≢true (rw other at h)))
    (is_space unit)

-- a row of spaces that isn't empty ends in one
spaces_end : (unit : List ℕ) (units : List (List ℕ)) → Spaces (unit ∷ units) → (before : List (List ℕ)) × (unit ∷ units ≡ before ++ space ∷ [])
spaces_end unit [] h = ([], ap (λ u. u ∷ []) h.0)
spaces_end unit (next ∷ units) h = let end = spaces_end next units h.1 in (unit ∷ end.0, ap (λ l. unit ∷ l) end.1)

-- ---- the equation

-- the spaces that `units_before_spaces` leaves out
record Keeps (units : List (List ℕ)) : Type 0 where
  spaces : List (List ℕ)
  split : units ≡ units_before_spaces units ++ spaces
  each : Spaces spaces
  last : EndsOtherwise (units_before_spaces units)

keeps_none : (units : List (List ℕ)) → list_all (bytes_eq space) units ≡ true → units_before_spaces units ≡ [] → Keeps units
keeps_none units all none = record {
  spaces = units;
  split = sym (ap (λ l. l ++ units) none);
  each = Spaces-list_all units all;
  last = λ before is. push_not-nil before space (sym none ∙ is);
}

-- the unit before a row that ends otherwise, where not all of them are spaces
keeps_last : (unit : List ℕ) (units : List (List ℕ)) → list_all (bytes_eq space) (unit ∷ units) ≡ false → Keeps units → EndsOtherwise (unit ∷ units_before_spaces units)
keeps_last unit units some h [] is =
    let first : unit ≡ space = cc in
    let none : units_before_spaces units ≡ [] = cc in
    let rest : units ≡ h.spaces = h.split ∙ ap (λ l. l ++ h.spaces) none in
    let all : Spaces (unit ∷ units) = (first, subst Spaces (sym rest) h.each) in
    absurd (false≢true (sym some ∙ list_all-Spaces (unit ∷ units) all))
keeps_last unit units some h (b ∷ before) is =
    let rest : units_before_spaces units ≡ before ++ space ∷ [] = cc in h.last before rest

keeps_some : (unit : List ℕ) (units : List (List ℕ)) → list_all (bytes_eq space) (unit ∷ units) ≡ false → Keeps units → Keeps (unit ∷ units)
keeps_some unit units some h =
    let is : units_before_spaces (unit ∷ units) ≡ unit ∷ units_before_spaces units = ap (λ b. cond b [] (unit ∷ units_before_spaces units)) some in
    record {
      spaces = h.spaces;
      split = ap (λ l. unit ∷ l) h.split ∙ sym (ap (λ l. l ++ h.spaces) is);
      each = h.each;
      last = λ before e. keeps_last unit units some h before (sym is ∙ e);
    }

keeps : (units : List (List ℕ)) → Keeps units
keeps [] = record { spaces = []; split = refl; each = tt; last = λ before. push_not-nil before space }
keeps (unit ∷ units) =
    ⊎_elim
    (λ all. keeps_none (unit ∷ units) all (ap (λ b. cond b [] (unit ∷ units_before_spaces units)) all))
    (λ some. keeps_some unit units some (keeps units))
    (cases_Bool (list_all (bytes_eq space) (unit ∷ units)))

pub Trims-text_before_spaces : (line : List ℕ) → Trims line (text_before_spaces line)
unfolding text_before_spaces
Trims-text_before_spaces line =
    let h = keeps (units_of line) in
    record { kept = units_before_spaces (units_of line); spaces = h.spaces; units = h.split; each = h.each; last = h.last; joined = refl }

units_before_spaces-Spaces : (units : List (List ℕ)) → Spaces units → units_before_spaces units ≡ []
units_before_spaces-Spaces [] h = refl
units_before_spaces-Spaces (unit ∷ units) h = ap (λ b. cond b [] (unit ∷ units_before_spaces units)) (list_all-Spaces (unit ∷ units) h)

units_before_spaces-append : (kept spaces : List (List ℕ)) → Spaces spaces → EndsOtherwise kept → units_before_spaces (kept ++ spaces) ≡ kept
units_before_spaces-append [] spaces each last = units_before_spaces-Spaces spaces each
units_before_spaces-append (unit ∷ kept) spaces each last =
    ⊎_elim
    (λ all. let end = spaces_end unit kept (AllByRecursion-append_parts (λ u. u ≡ space) (unit ∷ kept) spaces (Spaces-list_all (unit ∷ (kept ++ spaces)) all)).0 in absurd (last end.0 end.1))
    (λ some. ap (λ b. cond b [] (unit ∷ units_before_spaces (kept ++ spaces))) some ∙ ap (λ l. unit ∷ l) (units_before_spaces-append kept spaces each (λ before is. last (unit ∷ before) (ap (λ l. unit ∷ l) is))))
    (cases_Bool (list_all (bytes_eq space) (unit ∷ (kept ++ spaces))))

pub Trims-only : (line text : List ℕ) → Trims line text → text ≡ text_before_spaces line
unfolding text_before_spaces
Trims-only line text h = h.joined ∙ sym (ap concat (ap units_before_spaces h.units ∙ units_before_spaces-append h.kept h.spaces h.each h.last))

-- ---- units

units_of-escape : (b c : ℕ) (bytes : List ℕ) → b ≡ backslash → units_of (b ∷ c ∷ bytes) ≡ (b ∷ c ∷ []) ∷ units_of bytes
units_of-escape b c bytes is = rw is refl

units_of-other : (b : ℕ) (bytes : List ℕ) → b ≢ backslash → units_of (b ∷ bytes) ≡ (b ∷ []) ∷ units_of bytes
units_of-other b [] other = refl
units_of-other b (c ∷ bytes) other = ap (λ test. cond test ((b ∷ c ∷ []) ∷ units_of bytes) ((b ∷ []) ∷ units_of (c ∷ bytes))) (ne_eqb b backslash other)

is_open-escape : (b c : ℕ) (bytes : List ℕ) → b ≡ backslash → is_open (b ∷ c ∷ bytes) ≡ is_open bytes
is_open-escape b c bytes is = rw is refl

is_open-other : (b c : ℕ) (bytes : List ℕ) → b ≢ backslash → is_open (b ∷ c ∷ bytes) ≡ is_open (c ∷ bytes)
is_open-other b c bytes other = ap (λ test. cond test (is_open bytes) (is_open (c ∷ bytes))) (ne_eqb b backslash other)

is_backslash : (b : ℕ) → (b ≡ backslash) ⊎ (b ≢ backslash)
is_backslash b = ⊎_elim (λ is. inl is.1) (λ is. inr is.1) (eqb_tells b backslash)

-- the units are the line
concat-units_of : (line : List ℕ) → concat (units_of line) ≡ line
concat-units_of [] = refl
concat-units_of (b ∷ []) = refl
concat-units_of (b ∷ c ∷ bytes) =
    ⊎_elim
    (λ is. ap concat (units_of-escape b c bytes is) ∙ ap (λ l. b ∷ c ∷ l) (concat-units_of bytes))
    (λ other. ap concat (units_of-other b (c ∷ bytes) other) ∙ ap (λ l. b ∷ l) (concat-units_of (c ∷ bytes)))
    (is_backslash b)

-- a front that isn't open has units of its own
units_of-closed : (front bytes : List ℕ) → is_open front ≡ false → units_of (front ++ bytes) ≡ units_of front ++ units_of bytes
units_of-closed [] bytes closed = refl
units_of-closed (b ∷ []) bytes closed = units_of-other b bytes (λ is. false≢true (sym closed ∙ eq-eqb b backslash is))
units_of-closed (b ∷ c ∷ front) bytes closed =
    ⊎_elim
    (λ is. units_of-escape b c (front ++ bytes) is
    ∙ ap (λ l. (b ∷ c ∷ []) ∷ l) (units_of-closed front bytes (sym (is_open-escape b c front is) ∙ closed))
    ∙ sym (ap (λ l. l ++ units_of bytes) (units_of-escape b c front is)))
    (λ other. units_of-other b (c ∷ (front ++ bytes)) other
    ∙ ap (λ l. (b ∷ []) ∷ l) (units_of-closed (c ∷ front) bytes (sym (is_open-other b c front other) ∙ closed))
    ∙ sym (ap (λ l. l ++ units_of bytes) (units_of-other b (c ∷ front) other)))
    (is_backslash b)

-- the units of a front that is open, with the byte that its last unit lacks
record OpenUnits (front : List ℕ) (next : ℕ) : Type 0 where
  before : List (List ℕ)
  units : (bytes : List ℕ) → units_of (front ++ next ∷ bytes) ≡ (before ++ (backslash ∷ next ∷ []) ∷ []) ++ units_of bytes

more_open : (unit front whole : List ℕ) (next : ℕ) → ((bytes : List ℕ) → units_of (whole ++ next ∷ bytes) ≡ unit ∷ units_of (front ++ next ∷ bytes)) → OpenUnits front next → OpenUnits whole next
more_open unit front whole next is h = record {
  before = unit ∷ h.before;
  units = λ bytes. is bytes ∙ ap (λ l. unit ∷ l) (h.units bytes);
}

units_of-open : (front : List ℕ) (next : ℕ) → is_open front ≡ true → OpenUnits front next
units_of-open [] next open_ = absurd (false≢true open_)
units_of-open (b ∷ []) next open_ =
    let is : b ≡ backslash = eqb-true _ _ open_ in
    record { before = []; units = λ bytes. units_of-escape b next bytes is ∙ ap (λ x. (x ∷ next ∷ []) ∷ units_of bytes) is }
units_of-open (b ∷ c ∷ front) next open_ =
    ⊎_elim
    (λ is. more_open (b ∷ c ∷ []) front (b ∷ c ∷ front) next (λ bytes. units_of-escape b c (front ++ next ∷ bytes) is)
    (units_of-open front next (sym (is_open-escape b c front is) ∙ open_)))
    (λ other. more_open (b ∷ []) (c ∷ front) (b ∷ c ∷ front) next (λ bytes. units_of-other b (c ∷ (front ++ next ∷ bytes)) other)
    (units_of-open (c ∷ front) next (sym (is_open-other b c front other) ∙ open_)))
    (is_backslash b)

-- ---- an odd number of backslashes leaves the last one open

abbrev Are : ℕ → List ℕ → Type 0
Are byte bytes = AllByRecursion (λ b. b ≡ byte) bytes

is_open-other_end : (front : List ℕ) → ((before : List ℕ) → front ≢ before ++ backslash ∷ []) → is_open front ≡ false
is_open-other_end [] other = refl
is_open-other_end (b ∷ []) other = ne_eqb b backslash (λ is. other [] (ap (λ x. x ∷ []) is))
is_open-other_end (b ∷ c ∷ front) other =
    ⊎_elim
    (λ is. is_open-escape b c front is ∙ is_open-other_end front (λ before e. other (b ∷ c ∷ before) (ap (λ l. b ∷ c ∷ l) e)))
    (λ not. is_open-other b c front not ∙ is_open-other_end (c ∷ front) (λ before e. other (b ∷ before) (ap (λ l. b ∷ l) e)))
    (is_backslash b)

is_open-append : (front bytes : List ℕ) → is_open front ≡ false → is_open (front ++ bytes) ≡ is_open bytes
is_open-append [] bytes closed = refl
is_open-append (b ∷ []) [] closed = closed
is_open-append (b ∷ []) (c ∷ bytes) closed = is_open-other b c bytes (λ is. false≢true (sym closed ∙ eq-eqb b backslash is))
is_open-append (b ∷ c ∷ front) bytes closed =
    ⊎_elim
    (λ is. is_open-escape b c (front ++ bytes) is ∙ is_open-append front bytes (sym (is_open-escape b c front is) ∙ closed))
    (λ other. is_open-other b c (front ++ bytes) other ∙ is_open-append (c ∷ front) bytes (sym (is_open-other b c front other) ∙ closed))
    (is_backslash b)

two_more : (n : ℕ) → suc (suc n) % 2 ≡ n % 2
two_more n = omega arith

is_open-Are : (bytes : List ℕ) → Are backslash bytes → is_open bytes ≡ (length bytes % 2 == 1)
is_open-Are [] h = refl
is_open-Are (b ∷ []) h = eq-eqb b backslash h.0
is_open-Are (b ∷ c ∷ bytes) h = is_open-escape b c bytes h.0 ∙ is_open-Are bytes h.1.1 ∙ ap (λ n. n == 1) (sym (two_more (length bytes)))

pub is_open-StandsBefore : (bytes front : List ℕ) → StandsBefore backslash bytes front → ((length bytes - length front) % 2 == 1) ≡ is_open bytes
is_open-StandsBefore bytes front h =
    let long : length bytes - length front ≡ length h.rest = omega (arith, ap length h.joined, length-append front h.rest) in
    ap (λ n. n % 2 == 1) long ∙ sym (is_open-Are h.rest h.each) ∙ sym (is_open-append front h.rest (is_open-other_end front h.last)) ∙ sym (ap is_open h.joined)

-- ---- what the code takes off

units_of-Are : (bytes : List ℕ) → Are 32 bytes → Spaces (units_of bytes)
units_of-Are [] h = tt
units_of-Are (b ∷ bytes) h =
    let dark : b ≢ backslash = λ (is : b ≡ backslash). let no : 32 ≡ backslash = sym h.0 ∙ is in absurd (omega arith) in
    subst Spaces (sym (units_of-other b bytes dark)) (ap (λ x. x ∷ []) h.0, units_of-Are bytes h.1)

-- the units of a front that doesn't end in a space
units_end : (front : List ℕ) → ((before : List ℕ) → front ≢ before ++ 32 ∷ []) → EndsOtherwise (units_of front)
units_end front other before is =
    other (concat before) (sym (concat-units_of front) ∙ ap concat is ∙ concat-append before (space ∷ []))

pub Trims-closed : (line front : List ℕ) → StandsBefore 32 line front → is_open front ≡ false → Trims line front
Trims-closed line front h closed = record {
  kept = units_of front;
  spaces = units_of h.rest;
  units = ap units_of h.joined ∙ units_of-closed front h.rest closed;
  each = units_of-Are h.rest h.each;
  last = units_end front h.last;
  joined = sym (concat-units_of front);
}

pub Trims-whole : (line front : List ℕ) → StandsBefore 32 line front → length line ≤ length front → Trims line front
Trims-whole line front h whole =
    let none : length h.rest ≡ 0 = omega (arith, ap length h.joined, length-append front h.rest) in
    let is : h.rest ≡ [] = nil_from_length h.rest none in
    let same : line ≡ front = h.joined ∙ ap (λ l. front ++ l) is ∙ append-nil front in
    record {
      kept = units_of front;
      spaces = [];
      units = ap units_of same ∙ sym (append-nil (units_of front));
      each = tt;
      last = units_end front h.last;
      joined = sym (concat-units_of front);
    }

escaped_is_no_space : (next : ℕ) → (backslash ∷ next ∷ []) ≢ space
escaped_is_no_space next e = cc

Trims-escaped : (line front rest : List ℕ) → line ≡ front ++ 32 ∷ rest → Are 32 rest → is_open front ≡ true → Trims line (front ++ 32 ∷ [])
Trims-escaped line front rest joined each open_ =
    let h = units_of-open front 32 open_ in
    let unit : List ℕ = backslash ∷ 32 ∷ [] in
    record {
      kept = h.before ++ unit ∷ [];
      spaces = units_of rest;
      units = ap units_of joined ∙ h.units rest;
      each = units_of-Are rest each;
      last = λ before is. escaped_is_no_space 32 (same_from_push h.before before unit space is).1;
      joined = sym (concat-units_of (front ++ 32 ∷ [])) ∙ ap concat (h.units [] ∙ append-nil (h.before ++ unit ∷ []));
    }

first_space : (line front rest : List ℕ) → line ≡ front ++ rest → Are 32 rest → length front < length line → is_open front ≡ true → Trims line (take (length front + 1) line)
first_space line front [] joined each more open_ = absurd (omega (arith, ap length joined, length-append front []))
first_space line front (b ∷ rest) joined each more open_ =
    let is : line ≡ front ++ 32 ∷ rest = joined ∙ ap (λ x. front ++ x ∷ rest) each.0 in
    let taken : take (length front + 1) line ≡ front ++ 32 ∷ [] =
    ap (take (length front + 1)) (is ∙ sym (append_assoc front (32 ∷ []) rest))
    ∙ take_at (front ++ 32 ∷ []) rest (length front + 1) (length-append front (32 ∷ [])) in
    subst (Trims line) (sym taken) (Trims-escaped line front rest is each.1 open_)

pub Trims-open : (line front : List ℕ) → StandsBefore 32 line front → length front < length line → is_open front ≡ true → Trims line (take (length front + 1) line)
Trims-open line front h more open_ = first_space line front h.rest h.joined h.each more open_

-- ---- the bytes at the end

Are-drop : (byte : ℕ) (bytes : List ℕ) (i : ℕ) → ((k : ℕ) → i ≤ k → k < length bytes → get_or bytes k 0 ≡ byte) → Are byte (drop i bytes)
Are-drop byte [] zero h = tt
Are-drop byte [] (suc i) h = tt
Are-drop byte (b ∷ bytes) zero h = (h 0 (omega arith) (omega arith), Are-drop byte bytes 0 (λ k low high. h (suc k) (omega arith) (omega arith)))
Are-drop byte (b ∷ bytes) (suc i) h = Are-drop byte bytes i (λ k low high. h (suc k) (omega arith) (omega arith))

-- a front that ends at place i doesn't end in another byte than the one there
last_of_front : (byte : ℕ) (bytes : List ℕ) (i : ℕ) (before : List ℕ) → i < length bytes → get_or bytes i 0 ≢ byte → take (i + 1) bytes ≢ before ++ byte ∷ []
last_of_front byte bytes i before inside other is =
    let parts : take i bytes ++ get_or bytes i 0 ∷ [] ≡ before ++ byte ∷ [] = sym (take_more bytes i 0 inside) ∙ is in
    other (same_from_push (take i bytes) before (get_or bytes i 0) byte parts).1

pub StandsBefore-last : (byte : ℕ) (bytes : List ℕ) (i : ℕ) → i < length bytes → get_or bytes i 0 ≢ byte → ((k : ℕ) → i + 1 ≤ k → k < length bytes → get_or bytes k 0 ≡ byte) → StandsBefore byte bytes (take (i + 1) bytes)
StandsBefore-last byte bytes i inside other after = record {
  rest = drop (i + 1) bytes;
  joined = sym (take-append-drop (i + 1) bytes);
  each = Are-drop byte bytes (i + 1) (λ k low high. after k low high);
  last = λ before. last_of_front byte bytes i before inside other;
}

pub StandsBefore-none : (byte : ℕ) (bytes : List ℕ) → ((k : ℕ) → k < length bytes → get_or bytes k 0 ≡ byte) → StandsBefore byte bytes []
StandsBefore-none byte bytes all = record {
  rest = bytes;
  joined = refl;
  each = Are-drop byte bytes 0 (λ k low high. all k high);
  last = λ before. push_not-nil before byte;
}
