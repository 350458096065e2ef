-- Patterns of white space alone.
use Rattle.std.proofs.Common.{◌≡◌, ℕ, true, false, cond, List, [], ◌∷◌, length, None, Some, refl, ap, ◌∙◌, arith}
use Rattle.std.specs.Char.{is_ascii_whitespace}
use Rattle.std.specs.List.{position_or_len}
use Rattle.std.proofs.lemmas.Bool.{and_parts, le-ltb}
use Rattle.gix_glob.specs.Bytes.{is_special}
use Rattle.gix_glob.specs.Patterns.{first_special, is_blank}
use Rattle.glob_attributes.proofs.lemmas.PlaceLemmas.{place-later}

no_special : (b : ℕ) → is_ascii_whitespace b ≡ true → is_special b ≡ false
no_special b white = grind arith

blank-place : (text : List ℕ) → is_blank text ≡ true → position_or_len is_special text ≡ length text
blank-place [] blank = refl
blank-place (b ∷ text) blank =
    let parts = and_parts (is_ascii_whitespace b) (is_blank text) blank in
    let more = blank-place text parts.1 in
    place-later is_special b text (no_special b parts.0) ∙ omega arith

pub first_special-blank : (text : List ℕ) → is_blank text ≡ true → first_special text ≡ None
first_special-blank text blank =
    ap (λ t. cond t (Some (position_or_len is_special text)) None)
    (le-ltb (position_or_len is_special text) (length text) (let e = blank-place text blank in omega arith))
