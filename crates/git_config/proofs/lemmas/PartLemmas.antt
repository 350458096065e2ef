-- The bytes of a value.
use Rattle.std.proofs.Common.{◌≡◌, ◌≤◌, ⊎_elim, ℕ, ◌+◌, ◌-◌, List, ◌++◌, length, take, sym, ap, ◌∙◌, arith}
use Rattle.std.specs.Prelude.{replicate, ◌==◌}
use Rattle.std.proofs.lemmas.Bool.{cases_Bool}
use Rattle.std.proofs.lemmas.List.{take_all}
use Rattle.git_config.specs.Grammar.{Part, in_escape, in_value, read, text_of, value_ended, with_blank}
use Rattle.git_config.specs.Private.Taking.{IsAtEnd}
use Rattle.git_config.proofs.lemmas.ReadLemmas.{at_end, read-end}

-- what a longer length fills up with
pub filled_up : (bytes new : List ℕ) (count len blanks : ℕ) → count ≡ length bytes → len ≡ count + blanks → new ≡ take len bytes ++ replicate (len - count) 32
    → new ≡ bytes ++ replicate blanks 32
filled_up bytes new count len blanks counted is made =
    made ∙ ap (λ (front : List ℕ). front ++ replicate (len - count) 32) (take_all len bytes (omega arith))
    ∙ ap (λ (n : ℕ). bytes ++ replicate n 32) (omega arith)

-- a part with these bytes
pub part_with : (quoted_blanks : List ℕ → Part) {x y : List ℕ} → x ≡ y → quoted_blanks x ≡ quoted_blanks y
part_with part e = ap part e

-- the end of the file behind a backslash is an empty line more
pub escape_at_end : {old new : List ℕ} {old_line new_line : ℕ} (name : List ℕ) (part : Part) → IsAtEnd old new old_line new_line
    → read (text_of old) old_line (in_escape name part) ≡ read (text_of new) (new_line + 1) (in_value name part)
escape_at_end {old} {new} {old_line} {new_line} name part e =
    at_end (in_escape name part) e
    ∙ sym (ap (λ (bytes : List ℕ). read (text_of bytes) (new_line + 1) (in_value name part)) e.is ∙ read-end (new_line + 1) (in_value name part)
    ∙ ap (λ (line : ℕ). value_ended (line + 1) name part) e.line)

-- a blank more at most
pub with_blank-le : (part : Part) → (with_blank part).blanks ≤ part.blanks + 1
with_blank-le part = ⊎_elim (λ yes. rw yes (omega arith)) (λ no. rw no (omega arith)) (cases_Bool (length part.bytes == 0))
