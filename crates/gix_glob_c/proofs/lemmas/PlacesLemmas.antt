-- Where texts stand in others.
use Rattle.std.proofs.Common.{◌≡◌, ⊎_elim, ℕ, ◌+◌, ◌-◌, ◌≤◌, Bool, true, false, cond, List, [], ◌∷◌, ◌++◌, length, drop, ap, sym, refl, subst, ◌∙◌, append_assoc, append-nil, bit_and, take-append-drop, arith, Option, None, Some, nat_eq}
use Rattle.std.specs.Borrow.{Bor, MutBor}
use Rattle.std.specs.List.{concat, position_or_len}
use Rattle.std.proofs.lemmas.List.Folds.{concat-append}
use Rattle.glob_patterns.specs.declared.mode.Mode.{Mode}
use Rattle.glob_patterns.specs.GitLines.{GitReads}
use Rattle.glob_patterns.specs.Patterns.{Reads, is_for_directories, slash_if}
use Rattle.glob_patterns.proofs.lemmas.ModeBits.{is_for_directories-sum}
use Rattle.glob_patterns.proofs.lemmas.ShownLines.{slash_if-lead}
use Rattle.glob_lines.specs.GitLines.{BeginsWithGitLine, before_zero, return_of}
use Rattle.glob_lines.specs.Ignore.{BeginsWithLine, Trims, units_of, without_mark}
use Rattle.glob_lines.specs.Memory.{end_of}
use Rattle.std.specs.Prelude.{◌==◌}
use Rattle.std.specs.Option.{ForSome}
use Rattle.std.specs.List.{starts_with}
use Rattle.std.proofs.lemmas.Bool.{cases_Bool}
use Rattle.std.proofs.lemmas.List.{length-drop}
use Rattle.std.proofs.lemmas.Option.{none-some, same_Some}
use Rattle.gix_glob.specs.Bytes.{backslash}
use Rattle.glob_attributes.specs.declared.borrowed.line.LineParts.{LineParts}
use Rattle.glob_attributes.specs.declared.borrowed.line.LineParts.TheVariants as parts
use Rattle.glob_attributes.specs.Borrowed.{LieIn, place_of}
use Rattle.glob_attributes.specs.Patterns.{IsPatternAs}
use Rattle.glob_attributes.proofs.lemmas.PartLemmas.{part_of_part, part_of_place}
use Rattle.glob_lists.specs.declared.rules.Reading.{Reading}
use Rattle.glob_lists.specs.declared.rules.Reading.TheVariants.{Crate, Git}
use Rattle.gix_glob_c.specs.Places.{IsPartOf}
use Rattle.gix_glob_c.specs.Private.Parts.{BeginsSo, HasBefore}

-- a line has the text of its pattern before a slash, or at its end
pub read_before : (line text : List ℕ) (may_negate : Bool) (mode : Mode) (place : Option ℕ) → Reads line may_negate text mode place → HasBefore line text (length (slash_if (is_for_directories mode)))
read_before line text may_negate mode place r = record {
  before = r.sign ++ r.lead;
  behind = r.tail;
  joined = r.joined ∙ sym (append_assoc r.sign r.lead (text ++ r.tail));
  many = sym (ap length (ap slash_if (is_for_directories-sum mode _ _ _ _ _ r.bits) ∙ slash_if-lead r.tail _ r.trails));
}

pub git_read_before : (line text : List ℕ) (mode : Mode) (place : Option ℕ) → GitReads line text mode place → HasBefore line text (length (slash_if (is_for_directories mode)))
git_read_before line text mode place r = record {
  before = r.sign ++ r.lead;
  behind = r.tail;
  joined = r.joined ∙ sym (append_assoc r.sign r.lead (text ++ r.tail));
  many = sym (ap length (ap slash_if (is_for_directories-sum mode _ _ _ _ _ r.bits) ∙ slash_if-lead r.tail _ r.trails));
}

-- the same of the pattern of a line of an attribute file; white space alone is its own text
pub attribute_read_before : (reading : Reading) (bytes text : List ℕ) (mode : Mode) (place : Option ℕ) → IsPatternAs reading bytes text mode place → HasBefore bytes text (length (slash_if (is_for_directories mode)))
attribute_read_before Git bytes text mode place r = git_read_before bytes text mode place r
attribute_read_before Crate bytes text mode place r =
    ⊎_elim
    (λ read. read_before bytes text false mode place read)
    (λ blank. record {
      before = [];
      behind = [];
      joined = sym blank.1 ∙ sym (append-nil text);
      many = ap (λ (bits : ℕ). length (slash_if (bit_and bits 4 == 4))) (sym blank.2);
    })
    r

-- the units of a line are all of it
units_whole : (line : List ℕ) → concat (units_of line) ≡ line
units_whole [] = refl
units_whole (b ∷ []) = refl
units_whole (b ∷ c ∷ bytes) =
    let by_test = λ (test : Bool). concat (cond test ((b ∷ c ∷ []) ∷ units_of bytes) ((b ∷ []) ∷ units_of (c ∷ bytes))) in
    ⊎_elim
    (λ (is : (b == backslash) ≡ true). ap by_test is ∙ ap (λ l. b ∷ c ∷ l) (units_whole bytes))
    (λ (other : (b == backslash) ≡ false). ap by_test other ∙ ap (λ l. b ∷ l) (units_whole (c ∷ bytes)))
    (cases_Bool (b == backslash))

-- a line begins with the text that is left of it
trimmed_so : (line text : List ℕ) → Trims line text → BeginsSo line text
trimmed_so line text h = (
  concat h.spaces,
  sym (units_whole line) ∙ ap concat h.units ∙ concat-append h.kept h.spaces ∙ ap (λ t. t ++ concat h.spaces) (sym h.joined),
)

begins_longer : (bytes line text more : List ℕ) → bytes ≡ line ++ more → BeginsSo line text → BeginsSo bytes text
begins_longer bytes line text more joined h = (h.0 ++ more, joined ∙ ap (λ l. l ++ more) h.1 ∙ append_assoc text h.0 more)

pub line_begins : (bytes : List ℕ) (text : Option (List ℕ)) (rest : List ℕ) → BeginsWithLine bytes text rest → ForSome text (BeginsSo bytes)
line_begins bytes None rest h = λ text same. absurd (none-some text same)
line_begins bytes (Some text) rest h = λ other same.
    subst (BeginsSo bytes) (same_Some text other same) (begins_longer bytes h.line text (h.cut.ending ++ rest) h.cut.joined (trimmed_so h.line text h.gives.trims))

-- what stands before the first byte 0 begins the bytes
zero_rest : (bytes : List ℕ) → bytes ≡ before_zero bytes ++ drop (position_or_len (λ b. b == 0) bytes) bytes
zero_rest bytes = sym (take-append-drop (position_or_len (λ b. b == 0) bytes) bytes)

pub git_line_begins : (bytes : List ℕ) (text : Option (List ℕ)) (rest : List ℕ) → BeginsWithGitLine bytes text rest → ForSome text (BeginsSo bytes)
git_line_begins bytes None rest h = λ text same. absurd (none-some text same)
git_line_begins bytes (Some text) rest h = λ other same.
    let body = h.gives.body in
    let in_body = begins_longer body (before_zero body) text (drop (position_or_len (λ b. b == 0) body) body) (zero_rest body) (trimmed_so (before_zero body) text h.gives.trims) in
    subst (BeginsSo bytes) (same_Some text other same)
    (begins_longer bytes h.line text (h.cut.ending ++ rest) h.cut.joined (begins_longer h.line body text (return_of h.line) h.gives.returned in_body))

-- what ends where the bytes end, and is no longer, is a part of them
pub part_at_end : (text bytes : Bor (List ℕ)) → end_of text ≡ end_of bytes → length text.now ≤ length bytes.now → IsPartOf text bytes
part_at_end text bytes ends shorter =
    let space : text.ref_ptr.0 ≡ bytes.ref_ptr.0 = ap (λ (at : ℕ × ℕ). at.0) ends in
    let last : text.ref_ptr.1 + length text.now ≡ bytes.ref_ptr.1 + length bytes.now = ap (λ (at : ℕ × ℕ). at.1) ends in
    let first : text.ref_ptr.1 ≡ bytes.ref_ptr.1 + (length bytes.now - length text.now) = omega (arith, last, shorter) in
    record {
      place = length bytes.now - length text.now;
      begins = ap (λ n. (n, text.ref_ptr.1)) space ∙ ap (λ n. (bytes.ref_ptr.0, n)) first;
      inside = omega (arith, shorter);
    }

-- what a byte order mark leaves is no longer
pub mark_shorter : (bytes : List ℕ) → length (without_mark bytes) ≤ length bytes
mark_shorter bytes =
    let marked = starts_with nat_eq bytes (239 ∷ 187 ∷ 191 ∷ []) in
    let by_test = λ (test : Bool). length (cond test (drop 3 bytes) bytes) in
    ⊎_elim
    (λ (is : marked ≡ true). (let same = ap by_test is in omega (arith, same, length-drop 3 bytes)))
    (λ (other : marked ≡ false). (let same = ap by_test other in omega (arith, same)))
    (cases_Bool marked)

-- what lies in a part of the lines, and in a memory, lies in the lines, and in that memory
pub lies_wider : (parts : LineParts) (spelled : Option (List ℕ)) (memory : MutBor (List ℕ)) (line lines : Bor (List ℕ)) → IsPartOf line lines
    → LieIn (place_of spelled memory line) line parts → LieIn (place_of spelled memory lines) lines parts
lies_wider parts.Nothing spelled memory line lines inside lie = tt
lies_wider (parts.Silent silence) spelled memory line lines inside lie = tt
lies_wider (parts.Macro name words) spelled memory line lines inside lie = (part_of_place spelled memory name line lines inside lie.0, part_of_part words line lines lie.1 inside)
lies_wider (parts.Pattern bytes pattern words) spelled memory line lines inside lie = (part_of_place spelled memory bytes line lines inside lie.0, part_of_part words line lines lie.1 inside)
