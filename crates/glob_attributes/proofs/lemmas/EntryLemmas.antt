-- The entries of an attribute file: the relation and the equation agree.
use Rattle.std.proofs.Common.{◌≡◌, inl, inr, ⊎_elim, ℕ, ◌+◌, true, false, cond, List, [], ◌∷◌, length, None, Some, refl, sym, ap, subst, ◌∙◌}
use Rattle.std.specs.Prelude.{◌↔◌, nat_le}
use Rattle.std.specs.List.{AllZip, cons_option, enumerate_from, filter_map}
use Rattle.std.proofs.lemmas.Bool.{cases_Bool}
use Rattle.gix_glob.specs.Equations.Entries.{entry_with}
use Rattle.gix_glob.specs.Equations.Readings.{Reading, lead_of, reading_after_lead, reading_after_sign, reading_of, rest_after}
use Rattle.gix_glob.specs.Patterns.{is_blank}
use Rattle.glob_lines.specs.Equations.Ignore.{without_returns}
use Rattle.glob_lines.specs.Equations.Lines.{lines_of}
use Rattle.glob_lines.specs.Ignore.{EndsIgnoreLine, without_mark}
use Rattle.glob_lines.specs.Lines.{Lines}
use Rattle.glob_lines.proofs.lemmas.IgnoreLemmas.{TellsLines-ignore}
use Rattle.glob_lines.proofs.lemmas.LinesLemmas.{Lines-are, Lines-only}
use Rattle.glob_attributes.specs.Assignments.{Assigned}
use Rattle.glob_attributes.specs.Equations.Files.{AttributeEntry, attributes_of, entries_from, entry_given, file_lines, pattern_of}
use Rattle.glob_attributes.specs.Files.{Attributes, FileLines, IsEntryOf, pattern_given}
use Rattle.glob_attributes.specs.Patterns.{IsPatternAs}
use Rattle.glob_lists.specs.declared.rules.Reading as whose
use Rattle.glob_lists.specs.declared.rules.Reading.TheVariants.{Crate, Git}
use Rattle.gix_glob.specs.Equations.GitLines.{git_reading_of}
use Rattle.glob_attributes.specs.Readings.{Gives, a_macro, a_pattern, line_gives, nothing, silent}
use Rattle.glob_attributes.proofs.lemmas.FileLemmas.{ReadingLaws, pattern_of-is, reading}

-- ---- lines

abbrev ignore_lines : List ℕ → List (List ℕ)
ignore_lines bytes = lines_of (without_returns bytes)

-- the bytes that hold the lines
abbrev held : List ℕ → List ℕ
held bytes = cond (nat_le 104857600 (length bytes)) [] (without_mark bytes)

held_lines : (bytes : List ℕ) → ignore_lines (held bytes) ≡ file_lines bytes
held_lines bytes =
    ⊎_elim
    (λ long. ap (λ t. ignore_lines (cond t [] (without_mark bytes))) long ∙ sym (ap (λ t. cond t [] (ignore_lines (without_mark bytes))) long))
    (λ short. ap (λ t. ignore_lines (cond t [] (without_mark bytes))) short ∙ sym (ap (λ t. cond t [] (ignore_lines (without_mark bytes))) short))
    (cases_Bool (nat_le 104857600 (length bytes)))

pub FileLines-are : (bytes : List ℕ) → FileLines bytes (file_lines bytes)
FileLines-are bytes = subst (Lines EndsIgnoreLine (held bytes)) (held_lines bytes) (Lines-are EndsIgnoreLine ignore_lines TellsLines-ignore (held bytes))

pub FileLines-only : (bytes : List ℕ) (lines : List (List ℕ)) → FileLines bytes lines → lines ≡ file_lines bytes
FileLines-only bytes lines h = Lines-only EndsIgnoreLine ignore_lines TellsLines-ignore (held bytes) lines h ∙ held_lines bytes

-- ---- patterns

-- a pattern that isn't blank has a reading
has_reading : (bytes : List ℕ) → is_blank bytes ≡ false → (r : Reading) × (reading_of false bytes ≡ Some r)
unfolding reading_of reading_after_sign
has_reading bytes other =
    let r = reading_after_lead [] (lead_of bytes) (rest_after (lead_of bytes) bytes) in
    (r, ap (λ t. cond t None (Some r)) other)

pub IsPatternAs-pattern_of : ReadingLaws → (reader : whose.Reading) (bytes : List ℕ) → IsPatternAs reader bytes (pattern_of reader bytes).text (pattern_of reader bytes).mode (pattern_of reader bytes).place
IsPatternAs-pattern_of laws Git bytes =
    let P : Reading → Type 0 = λ r. IsPatternAs Git bytes r.text r.mode r.place in
    let read : Reading = git_reading_of bytes in
    let some : P read = (laws.git bytes read.text read.mode read.place).1 refl in
    subst P (pattern_of-is laws Git bytes read.text read.mode read.place some) some
IsPatternAs-pattern_of laws Crate bytes =
    let P : Reading → Type 0 = λ r. IsPatternAs Crate bytes r.text r.mode r.place in
    ⊎_elim
    (λ blank. let alone : P (reading bytes (record { 0 = 1 }) None) = inr (blank, refl, refl, refl) in
    subst P (pattern_of-is laws Crate bytes bytes (record { 0 = 1 }) None alone) alone)
    (λ other. let read = has_reading bytes other in
    let some : P read.0 = inl ((laws.some bytes false read.0.text read.0.mode read.0.place).1 read.1) in
    subst P (pattern_of-is laws Crate bytes read.0.text read.0.mode read.0.place some) some)
    (cases_Bool (is_blank bytes))

-- ---- entries

-- the lines that give a pattern, where the first line has this number
abbrev patterns_from : ℕ → List (List ℕ) → List (ℕ × List ℕ × List Assigned)
patterns_from number lines = filter_map (λ line. pattern_given line.0 (line_gives true line.1)) (enumerate_from number lines)

module _ (laws : ReadingLaws) (reader : whose.Reading) where
  are_given : (number : ℕ) (given : Gives) (lines : List (ℕ × List ℕ × List Assigned)) (entries : List AttributeEntry) → AllZip (IsEntryOf reader) lines entries
      → AllZip (IsEntryOf reader) (cons_option (pattern_given number given) lines) (cons_option (entry_given reader number given) entries)
  are_given number nothing lines entries h = h
  are_given number (silent silence) lines entries h = h
  are_given number (a_macro name assigned) lines entries h = h
  are_given number (a_pattern bytes assigned) lines entries h = ((refl, IsPatternAs-pattern_of laws reader bytes, refl), h)

  entries-are : (number : ℕ) (lines : List (List ℕ)) → AllZip (IsEntryOf reader) (patterns_from number lines) (entries_from reader number lines)
  entries-are number [] = tt
  entries-are number (line ∷ lines) =
      are_given number (line_gives true line) (patterns_from (number + 1) lines) (entries_from reader (number + 1) lines) (entries-are (number + 1) lines)

  entry_is : (number : ℕ) (bytes : List ℕ) (assigned : List Assigned) (entry : AttributeEntry) → IsEntryOf reader (number, bytes, assigned) entry
      → entry ≡ entry_with assigned number (pattern_of reader bytes)
  entry_is number bytes assigned entry h =
      ap (λ n. entry_with entry.value n (reading entry.text entry.mode entry.place)) h.0
      ∙ ap (λ v. entry_with v number (reading entry.text entry.mode entry.place)) h.2
      ∙ ap (λ r. entry_with assigned number r) (pattern_of-is laws reader bytes entry.text entry.mode entry.place h.1)

  only_given : (number : ℕ) (given : Gives) (lines : List (ℕ × List ℕ × List Assigned)) (more entries : List AttributeEntry)
      → ((others : List AttributeEntry) → AllZip (IsEntryOf reader) lines others → others ≡ more)
      → AllZip (IsEntryOf reader) (cons_option (pattern_given number given) lines) entries → entries ≡ cons_option (entry_given reader number given) more
  only_given number nothing lines more entries rest h = rest entries h
  only_given number (silent silence) lines more entries rest h = rest entries h
  only_given number (a_macro name assigned) lines more entries rest h = rest entries h
  only_given number (a_pattern bytes assigned) lines more [] rest h = absurd h
  only_given number (a_pattern bytes assigned) lines more (entry ∷ entries) rest h =
      ap (λ e. e ∷ entries) (entry_is number bytes assigned entry h.0)
      ∙ ap (λ l. entry_with assigned number (pattern_of reader bytes) ∷ l) (rest entries h.1)

  entries-only : (number : ℕ) (lines : List (List ℕ)) (entries : List AttributeEntry) → AllZip (IsEntryOf reader) (patterns_from number lines) entries → entries ≡ entries_from reader number lines
  entries-only number [] [] h = refl
  entries-only number [] (entry ∷ entries) h = absurd h
  entries-only number (line ∷ lines) entries h =
      only_given number (line_gives true line) (patterns_from (number + 1) lines) (entries_from reader (number + 1) lines) entries
      (λ others more. entries-only (number + 1) lines others more) h

  pub attributes_are_these : (bytes : List ℕ) (entries : List AttributeEntry) → Attributes reader bytes entries ↔ (entries ≡ attributes_of reader bytes)
  attributes_are_these bytes entries = (
    entries-only 1 (file_lines bytes) entries,
    λ is. subst (Attributes reader bytes) (sym is) (entries-are 1 (file_lines bytes)),
  )
