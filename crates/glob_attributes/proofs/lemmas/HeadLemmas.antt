-- The quoted head of a line, one byte after the other, by equation.
use Rattle.std.proofs.Common.{◌≡◌, ◌≢◌, ⊎_elim, ℕ, zero, suc, ◌+◌, ◌≤◌, Bool, true, false, cond, List, [], ◌∷◌, ◌++◌, length, drop, Option, None, Some, refl, sym, ap, ◌∙◌, append_assoc, arith}
use Rattle.std.specs.Prelude.{◌==◌, ◌&&◌, codes, nat_eq, option_map, unwrap_or}
use Rattle.std.specs.List.{starts_with}
use Rattle.std.specs.Option.{option_and_then}
use Rattle.std.proofs.lemmas.Bool.{cases_Bool}
use Rattle.std.proofs.lemmas.Bool.Decides.{eqb_tells}
use Rattle.std.proofs.lemmas.Option.{same_Some}
use Rattle.std.proofs.Math.Seq.{drop-nil}
use Rattle.gix_glob.specs.Bytes.{backslash}
use Rattle.glob_attributes.specs.Equations.Heads.{bare_head, escape_at, head_of, is_octal, letter_byte, octal_byte, quote, quoted_from, quoted_of, unit_at, with_front}

pub quoted_from-skip : (n : ℕ) (bytes : List ℕ) → quoted_from n bytes ≡ quoted_from 0 (drop n bytes)
quoted_from-skip zero bytes = refl
quoted_from-skip (suc n) [] = refl
quoted_from-skip (suc n) (b ∷ bytes) = quoted_from-skip n bytes

pub drop-drop : (bytes : List ℕ) (first more : ℕ) → drop more (drop first bytes) ≡ drop (first + more) bytes
drop-drop bytes zero more = ap (λ n. drop n bytes) (omega arith)
drop-drop [] (suc first) more = drop-nil more ∙ sym (drop-nil (suc first + more))
drop-drop (b ∷ bytes) (suc first) more =
    let next : suc (first + more) ≡ suc first + more = omega arith in
    drop-drop bytes first more ∙ ap (λ n. drop n (b ∷ bytes)) next

-- a byte that is spelled at the front is the first one of the head
abbrev after_unit : Option (ℕ × ℕ) → List ℕ → Option (List ℕ × List ℕ)
after_unit unit bytes = option_and_then (λ u. option_map (with_front (u.0 ∷ [])) (quoted_from u.1 bytes)) unit

pub quoted_from-unit : (bytes : List ℕ) (byte more : ℕ) → unit_at bytes ≡ Some (byte, more)
    → quoted_from 0 bytes ≡ option_map (with_front (byte ∷ [])) (quoted_from 0 (drop (more + 1) bytes))
quoted_from-unit [] byte more is = absurd (cc)
quoted_from-unit (b ∷ bytes) byte more is =
    ⊎_elim
    (λ (yes : (b == quote) ≡ true).
    let none : None ≡ Some (byte, more) = sym (ap (λ t. cond t None (cond (b == backslash) (escape_at bytes) (Some (b, 0)))) yes) ∙ is in absurd (cc))
    (λ (no : (b == quote) ≡ false).
    let place : more + 1 ≡ suc more = omega arith in
    ap (λ t. cond t (Some ([], bytes)) (after_unit (unit_at (b ∷ bytes)) bytes)) no
    ∙ ap (λ unit. after_unit unit bytes) is
    ∙ ap (option_map (with_front (byte ∷ []))) (quoted_from-skip more bytes)
    ∙ sym (ap (λ n. option_map (with_front (byte ∷ [])) (quoted_from 0 (drop n (b ∷ bytes)))) place))
    (cases_Bool (b == quote))

-- its spelling is a part of the bytes
one_more : (letter : Option ℕ) (byte more : ℕ) → option_map {U = ℕ × ℕ} (λ b. (b, 1)) letter ≡ Some (byte, more) → 1 ≡ more
one_more None byte more is = absurd (cc)
one_more (Some b) byte more is = ap (λ (unit : ℕ × ℕ). unit.1) (same_Some _ _ is)

escape_at-inside : (bytes : List ℕ) (byte more : ℕ) → escape_at bytes ≡ Some (byte, more) → more ≤ length bytes
escape_at-inside [] byte more is = absurd (cc)
escape_at-inside (c ∷ []) byte more is = let one = one_more (letter_byte c) byte more is in omega (arith, one)
escape_at-inside (c ∷ y ∷ []) byte more is = let one = one_more (letter_byte c) byte more is in omega (arith, one)
escape_at-inside (c ∷ y ∷ z ∷ bytes) byte more is =
    let digits = is_octal 3 c && (is_octal 7 y && is_octal 7 z) in
    let by_digits = λ (t : Bool). cond t (Some (octal_byte c y z, 3)) (option_map {U = ℕ × ℕ} (λ b. (b, 1)) (letter_byte c)) in
    ⊎_elim
    (λ (yes : digits ≡ true). let three = ap (λ (unit : ℕ × ℕ). unit.1) (same_Some _ _ (sym (ap by_digits yes) ∙ is)) in omega (arith, three))
    (λ (no : digits ≡ false). let one = one_more (letter_byte c) byte more (sym (ap by_digits no) ∙ is) in omega (arith, one))
    (cases_Bool digits)

pub unit_at-inside : (bytes : List ℕ) (byte more : ℕ) → unit_at bytes ≡ Some (byte, more) → more + 1 ≤ length bytes
unit_at-inside [] byte more is = absurd (cc)
unit_at-inside (b ∷ bytes) byte more is =
    ⊎_elim
    (λ (yes : (b == quote) ≡ true).
    let none : None ≡ Some (byte, more) = sym (ap (λ t. cond t None (cond (b == backslash) (escape_at bytes) (Some (b, 0)))) yes) ∙ is in absurd (cc))
    (λ (no : (b == quote) ≡ false).
    let by_backslash : cond (b == backslash) (escape_at bytes) (Some (b, 0)) ≡ Some (byte, more) = sym (ap (λ t. cond t None (cond (b == backslash) (escape_at bytes) (Some (b, 0)))) no) ∙ is in
    ⊎_elim
    (λ (escape : (b == backslash) ≡ true).
    let at : escape_at bytes ≡ Some (byte, more) = sym (ap (λ t. cond t (escape_at bytes) (Some (b, 0))) escape) ∙ by_backslash in
    let inside = escape_at-inside bytes byte more at in omega (arith, inside))
    (λ (plain : (b == backslash) ≡ false).
    let at : Some (b, 0) ≡ Some (byte, more) = sym (ap (λ t. cond t (escape_at bytes) (Some (b, 0))) plain) ∙ by_backslash in
    let none = ap (λ (unit : ℕ × ℕ). unit.1) (same_Some _ _ at) in omega (arith, none))
    (cases_Bool (b == backslash)))
    (cases_Bool (b == quote))

-- where none is, the head ends at a quote, or there is none
pub quoted_from-end : (behind : List ℕ) → quoted_from 0 (quote ∷ behind) ≡ Some ([], behind)
quoted_from-end behind = refl

pub quoted_from-none : (bytes : List ℕ) → unit_at bytes ≡ None → ((behind : List ℕ) → bytes ≢ quote ∷ behind) → quoted_from 0 bytes ≡ None
quoted_from-none [] is other = refl
quoted_from-none (b ∷ bytes) is other =
    ⊎_elim
    (λ yes. absurd (other bytes (ap (λ x. x ∷ bytes) yes.1)))
    (λ no.
    ap (λ t. cond t (Some ([], bytes)) (after_unit (unit_at (b ∷ bytes)) bytes)) no.0
    ∙ ap (λ unit. after_unit unit bytes) is)
    (eqb_tells b quote)

-- one byte more of the head was read
pub with_front-more : (head : List ℕ) (byte : ℕ) (found : Option (List ℕ × List ℕ)) → option_map (with_front (head ++ byte ∷ [])) found ≡ option_map (with_front head) (option_map (with_front (byte ∷ [])) found)
with_front-more head byte None = refl
with_front-more head byte (Some found) = ap (λ l. Some (l, found.1)) (append_assoc head (byte ∷ []) found.0)

-- ---- the head of a text

pub head_of-quoted : (text quoted : List ℕ) (found : List ℕ × List ℕ) → starts_with nat_eq text (codes "\"") ≡ true → quoted ≡ drop 1 text → quoted_from 0 quoted ≡ Some found → head_of text ≡ found
unfolding head_of
head_of-quoted text quoted found begins is read =
    ap (λ t. cond t (unwrap_or (quoted_from 0 (drop 1 text)) (bare_head text)) (bare_head text)) begins
    ∙ ap (λ r. unwrap_or r (bare_head text)) (ap (quoted_from 0) (sym is) ∙ read)

pub head_of-wrong : (text quoted : List ℕ) → starts_with nat_eq text (codes "\"") ≡ true → quoted ≡ drop 1 text → quoted_from 0 quoted ≡ None → head_of text ≡ bare_head text
unfolding head_of
head_of-wrong text quoted begins is read =
    ap (λ t. cond t (unwrap_or (quoted_from 0 (drop 1 text)) (bare_head text)) (bare_head text)) begins
    ∙ ap (λ r. unwrap_or r (bare_head text)) (ap (quoted_from 0) (sym is) ∙ read)

pub head_of-bare : (text : List ℕ) → starts_with nat_eq text (codes "\"") ≡ false → head_of text ≡ bare_head text
unfolding head_of
head_of-bare text other = ap (λ t. cond t (unwrap_or (quoted_from 0 (drop 1 text)) (bare_head text)) (bare_head text)) other

-- the head between quotes, where there is one, and else the bare one
pub quoted_tells : (text : List ℕ) (found : List ℕ × List ℕ) → quoted_of text ≡ Some found → (quoted_from 0 (drop 1 text) ≡ Some found) × (head_of text ≡ found)
quoted_tells text found is =
    let begins = starts_with nat_eq text (codes "\"") in
    ⊎_elim
    (λ (yes : begins ≡ true). let read = sym (ap (λ t. cond t (quoted_from 0 (drop 1 text)) None) yes) ∙ is in (read, head_of-quoted text (drop 1 text) found yes refl read))
    (λ (no : begins ≡ false). let none : None ≡ Some found = sym (ap (λ t. cond t (quoted_from 0 (drop 1 text)) None) no) ∙ is in absurd (cc))
    (cases_Bool begins)

pub head_of-none : (text : List ℕ) → quoted_of text ≡ None → head_of text ≡ bare_head text
head_of-none text is =
    let begins = starts_with nat_eq text (codes "\"") in
    ⊎_elim
    (λ (yes : begins ≡ true). head_of-wrong text (drop 1 text) yes refl (sym (ap (λ t. cond t (quoted_from 0 (drop 1 text)) None) yes) ∙ is))
    (λ (no : begins ≡ false). head_of-bare text no)
    (cases_Bool begins)
