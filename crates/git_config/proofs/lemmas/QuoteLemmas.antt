-- What is quoted reads back.
use Rattle.std.proofs.Common.{◌≡◌, ⊎_elim, ℕ, ◌+◌, Bool, true, false, not, List, [], ◌∷◌, ◌++◌, Some, refl, sym, ap, ◌∙◌, append_assoc, append-nil}
use Rattle.std.specs.Prelude.{◌&&◌, ◌==◌}
use Rattle.std.specs.List.{flat_map}
use Rattle.std.proofs.lemmas.Bool.{cases_Bool, eqb-false, eqb-true}
use Rattle.git_config.specs.Grammar.{Part, Place, before, before_zero, between, entry_of, escaped, filled, in_escape, in_value, is_blank, is_mark, no_part, place_behind, read, with_byte}
use Rattle.git_config.specs.Quoting.{quoted_byte, quoted_of}
use Rattle.git_config.proofs.lemmas.ReadLemmas.{goes_here, if_false, placed, read-cons}
use Rattle.git_config.proofs.lemmas.TurnLemmas.{escape-byte, value-byte}

and_false : (x : Bool) → (x && false) ≡ false
and_false true = refl
and_false false = refl

-- a value in an open quote, with these bytes so far
abbrev open_with : List ℕ → Part
open_with bytes = record { quoted = true; blanks = 0; bytes = bytes }

module _ (name : List ℕ) (line : ℕ) where
  -- no blank is left to fill
  in_quotes-byte : (front text : List ℕ) (b : ℕ) (next : Part → Place) → (b ≡ 10 → ⊥) → ((part : Part) → place_behind name part b ≡ next part)
      → read (b ∷ text) line (in_value name (open_with front)) ≡ read text line (next (open_with front))
  in_quotes-byte front text b next other is =
      goes_here b text line (in_value name (open_with front)) (place_behind name (filled (open_with front)) b) other
      (value-byte line b name (open_with front) other (and_false (is_blank b)) (and_false (is_mark b)))
      ∙ placed text line (λ (bytes : List ℕ). place_behind name (open_with bytes) b) (append-nil front)
      ∙ placed text line (λ (place : Place). place) (is (open_with front))

  -- a byte behind a backslash
  escaped-byte : (front text : List ℕ) (b meant : ℕ) → (b ≡ 10 → ⊥) → escaped b ≡ Some meant
      → read (92 ∷ b ∷ text) line (in_value name (open_with front)) ≡ read text line (in_value name (open_with (front ++ meant ∷ [])))
  escaped-byte front text b meant other is =
      in_quotes-byte front (b ∷ text) 92 (λ part. in_escape name part) (λ (e : 92 ≡ 10). cc) (λ part. refl)
      ∙ goes_here b text line (in_escape name (open_with front)) (in_value name (with_byte (open_with front) meant)) other (escape-byte line b name (open_with front) meant other is)

  one-byte : (front text : List ℕ) (b : ℕ) → read (quoted_byte b ++ text) line (in_value name (open_with front)) ≡ read text line (in_value name (open_with (front ++ b ∷ [])))
  one-byte front text b = ⊎_elim
      (λ (feed : (b == 10) ≡ true). rw feed (escaped-byte front text 110 10 (λ (e : 110 ≡ 10). cc) refl ∙ placed text line (λ (x : ℕ). in_value name (open_with (front ++ x ∷ []))) (sym (eqb-true b 10 feed))))
      (λ (no_feed : (b == 10) ≡ false). ⊎_elim
      (λ (quote : (b == 34) ≡ true). rw (no_feed, quote) (escaped-byte front text 34 34 (λ (e : 34 ≡ 10). cc) refl ∙ placed text line (λ (x : ℕ). in_value name (open_with (front ++ x ∷ []))) (sym (eqb-true b 34 quote))))
      (λ (no_quote : (b == 34) ≡ false). ⊎_elim
      (λ (slash : (b == 92) ≡ true). rw (no_feed, no_quote, slash) (escaped-byte front text 92 92 (λ (e : 92 ≡ 10). cc) refl ∙ placed text line (λ (x : ℕ). in_value name (open_with (front ++ x ∷ []))) (sym (eqb-true b 92 slash))))
      (λ (no_slash : (b == 92) ≡ false). rw (no_feed, no_quote, no_slash) (in_quotes-byte front text b (λ part. in_value name (with_byte part b)) (eqb-false b 10 no_feed)
      (λ part. if_false (b == 92) _ _ no_slash ∙ if_false (b == 34) _ _ no_quote)))
      (cases_Bool (b == 92)))
      (cases_Bool (b == 34)))
      (cases_Bool (b == 10))

  closed : (front text : List ℕ) → read (34 ∷ 10 ∷ text) line (in_value name (open_with front)) ≡ before (entry_of name (Some (before_zero front)) line) (read text (line + 1) between)
  closed front text =
      in_quotes-byte front (10 ∷ text) 34 (λ part. in_value name (record { quoted = not part.quoted; blanks = part.blanks; bytes = part.bytes })) (λ (e : 34 ≡ 10). cc) (λ part. refl)
      ∙ read-cons 10 text line (in_value name (record { quoted = false; blanks = 0; bytes = front }))

  all-bytes : (value front text : List ℕ) → read ((flat_map quoted_byte value ++ 34 ∷ []) ++ 10 ∷ text) line (in_value name (open_with front))
      ≡ before (entry_of name (Some (before_zero (front ++ value))) line) (read text (line + 1) between)
  all-bytes [] front text = closed front text ∙ ap (λ (bytes : List ℕ). before (entry_of name (Some (before_zero bytes)) line) (read text (line + 1) between)) (sym (append-nil front))
  all-bytes (b ∷ value) front text =
      ap (λ (left : List ℕ). read left line (in_value name (open_with front)))
      (ap (λ (left : List ℕ). left ++ 10 ∷ text) (append_assoc (quoted_byte b) (flat_map quoted_byte value) (34 ∷ [])) ∙ append_assoc (quoted_byte b) (flat_map quoted_byte value ++ 34 ∷ []) (10 ∷ text))
      ∙ one-byte front ((flat_map quoted_byte value ++ 34 ∷ []) ++ 10 ∷ text) b
      ∙ all-bytes value (front ++ b ∷ []) text
      ∙ ap (λ (bytes : List ℕ). before (entry_of name (Some (before_zero bytes)) line) (read text (line + 1) between)) (append_assoc front (b ∷ []) value)

  pub quoted-reads : (value text : List ℕ) → before_zero value ≡ value → read (quoted_of value ++ 10 ∷ text) line (in_value name no_part)
      ≡ before (entry_of name (Some value) line) (read text (line + 1) between)
  quoted-reads value text whole =
      goes_here 34 ((flat_map quoted_byte value ++ 34 ∷ []) ++ 10 ∷ text) line (in_value name no_part) (in_value name (open_with [])) (λ (e : 34 ≡ 10). cc) refl
      ∙ all-bytes value [] text
      ∙ ap (λ (bytes : List ℕ). before (entry_of name (Some bytes) line) (read text (line + 1) between)) whole
