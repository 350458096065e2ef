-- A text as a line shows it, character by character.
use Rattle.std.proofs.Common.{◌≡◌, ℕ, List, [], ◌++◌, length, chars, encode_utf8, encode_utf8_all, map, IsUtf8, ap, ◌∙◌}
use Rattle.std.proofs.lemmas.Str.{chars_past_char, chars-nil}
use Rattle.std.proofs.lemmas.List.{nil_from_length}
use Rattle.tree_files.specs.Telling.{shown, shown_text}

pub shown_empty : (text : List ℕ) → length text ≡ 0 → shown_text text ≡ []
unfolding shown_text
shown_empty text none = ap (λ cs. encode_utf8_all (map shown cs)) (ap chars (nil_from_length text none) ∙ chars-nil)

pub shown_step : (text rest : List ℕ) (c : ℕ) → IsUtf8 text → text ≡ encode_utf8 c ++ rest → shown_text text ≡ encode_utf8 (shown c) ++ shown_text rest
unfolding shown_text
shown_step text rest c utf8 parts = ap (λ cs. encode_utf8_all (map shown cs)) (chars_past_char text rest c utf8 parts)
