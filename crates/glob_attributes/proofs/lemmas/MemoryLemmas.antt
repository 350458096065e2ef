-- A head spells no more bytes than its line has.
use Rattle.std.proofs.Common.{◌≡◌, ⊎_elim, ℕ, zero, suc, ◌≤◌, Bool, true, false, cond, List, [], ◌∷◌, length, drop, Option, None, Some, refl, sym, ap, ◌∙◌, arith}
use Rattle.std.specs.Prelude.{◌==◌, nat_le, option_map, unwrap_or}
use Rattle.std.specs.List.{before_first, position_or_len, prefix_len}
use Rattle.std.specs.Option.{option_and_then}
use Rattle.std.proofs.lemmas.Bool.{cases_Bool}
use Rattle.std.proofs.lemmas.List.{length-drop, length-take}
use Rattle.std.proofs.lemmas.Option.{same_Some}
use Rattle.glob_attributes.specs.Borrowed.{memory_for}
use Rattle.glob_attributes.specs.Equations.Heads.{quote, quoted_from, quoted_of, unit_at, with_front}
use Rattle.glob_attributes.specs.Words.{after_blanks, is_blank}
use Rattle.glob_attributes.proofs.lemmas.HeadLemmas.{quoted_tells}

-- a byte more is spelled by a byte more, or by several
more_spelled : (b : ℕ) (bytes : List ℕ) (byte : ℕ) (rest : Option (List ℕ × List ℕ)) (found : List ℕ × List ℕ)
    → ((other : List ℕ × List ℕ) → rest ≡ Some other → length other.0 ≤ length bytes)
    → option_map (with_front (byte ∷ [])) rest ≡ Some found → length found.0 ≤ length (b ∷ bytes)
more_spelled b bytes byte None found shorter is = absurd (cc)
more_spelled b bytes byte (Some other) found shorter is =
    let less = shorter other refl in
    let same : suc (length other.0) ≡ length found.0 = ap (λ (f : List ℕ × List ℕ). length f.0) (same_Some _ _ is) in
    omega (arith, less, same)

unit_short : (b : ℕ) (bytes : List ℕ) (unit : Option (ℕ × ℕ)) (found : List ℕ × List ℕ)
    → ((skip : ℕ) (other : List ℕ × List ℕ) → quoted_from skip bytes ≡ Some other → length other.0 ≤ length bytes)
    → option_and_then (λ (u : ℕ × ℕ). option_map (with_front (u.0 ∷ [])) (quoted_from u.1 bytes)) unit ≡ Some found → length found.0 ≤ length (b ∷ bytes)
unit_short b bytes None found shorter is = absurd (cc)
unit_short b bytes (Some u) found shorter is = more_spelled b bytes u.0 (quoted_from u.1 bytes) found (shorter u.1) is

quoted_short : (skip : ℕ) (bytes : List ℕ) (found : List ℕ × List ℕ) → quoted_from skip bytes ≡ Some found → length found.0 ≤ length bytes
quoted_short zero [] found is = absurd (cc)
quoted_short (suc skip) [] found is = absurd (cc)
quoted_short (suc skip) (b ∷ bytes) found is = let less = quoted_short skip bytes found is in omega (arith, less)
quoted_short zero (b ∷ bytes) found is =
    let by_quote = λ (t : Bool). cond t (Some ([], bytes)) (option_and_then (λ (u : ℕ × ℕ). option_map (with_front (u.0 ∷ [])) (quoted_from u.1 bytes)) (unit_at (b ∷ bytes))) in
    ⊎_elim
    (λ (yes : (b == quote) ≡ true). let none = ap (λ (f : List ℕ × List ℕ). length f.0) (same_Some _ _ (sym (ap by_quote yes) ∙ is)) in omega (arith, none))
    (λ (no : (b == quote) ≡ false). unit_short b bytes (unit_at (b ∷ bytes)) found (λ skip other. quoted_short skip bytes other) (sym (ap by_quote no) ∙ is))
    (cases_Bool (b == quote))

head_short : (text : List ℕ) (quoted : Option (List ℕ × List ℕ)) → quoted_of text ≡ quoted → length (unwrap_or (option_map (λ (found : List ℕ × List ℕ). found.0) quoted) []) ≤ length text
head_short text None is = omega arith
head_short text (Some found) is =
    let less = quoted_short 0 (drop 1 text) found (quoted_tells text found is).0 in
    omega (arith, less, length-drop 1 text)

pub memory_for-short : (line : List ℕ) → memory_for line ≤ length line
memory_for-short line =
    let text = before_first (λ b. b == 0) line in
    let inner = after_blanks text in
    let by_length = λ (t : Bool). length (unwrap_or (cond t None (option_map (λ (found : List ℕ × List ℕ). found.0) (quoted_of inner))) []) in
    let cut = length-take (position_or_len (λ b. b == 0) line) line in
    let begun = length-drop (prefix_len is_blank text) text in
    let less = head_short inner (quoted_of inner) refl in
    ⊎_elim
    (λ (long : nat_le 2048 (length text) ≡ true). let none = ap by_length long in omega (arith, none))
    (λ (short : nat_le 2048 (length text) ≡ false). let same = ap by_length short in omega (arith, same, less, cut, begun))
    (cases_Bool (nat_le 2048 (length text)))
