-- The lines of an attribute file, and the entries of those that give a pattern.
use Rattle.std.proofs.Common.{◌≡◌, inl, inr, ⊎_elim, ℕ, ◌+◌, ◌≤◌, Bool, true, false, List, [], ◌∷◌, ◌++◌, length, map, Option, None, refl, sym, ap, ◌∙◌, append_assoc, arith}
use Rattle.std.specs.Prelude.{◌↔◌, Vec, nat_le, unwrap_or}
use Rattle.std.specs.List.{cons_option}
use Rattle.std.specs.declared.alloc.Global.{Global}
use Rattle.std.proofs.lemmas.Bool.{cases_Bool, false≢true}
use Rattle.std.proofs.lemmas.List.{map_push}
use Rattle.gix_glob.specs.declared.pattern.Mode.{Mode}
use Rattle.gix_glob.specs.declared.search.pattern.mapping.Mapping.{Mapping}
use Rattle.gix_glob.specs.Entries.{entry_of}
use Rattle.gix_glob.specs.Equations.Entries.{entry_with}
use Rattle.gix_glob.specs.Equations.Readings.{Reading, reading_of}
use Rattle.gix_glob.specs.PatternParts.{mode_of, place_of, text_of}
use Rattle.gix_glob.specs.Patterns.{HasReading, is_blank}
use Rattle.glob_lines.specs.Equations.Ignore.{without_returns}
use Rattle.glob_lines.specs.Equations.Lines.{lines_of}
use Rattle.glob_lines.specs.Ignore.{EndsIgnoreLine}
use Rattle.glob_lines.specs.Lines.{CutsLine}
use Rattle.glob_lines.proofs.lemmas.EntriesLemmas.{ReadingsAreThese}
use Rattle.glob_lines.proofs.lemmas.IgnoreLemmas.{TellsLines-ignore, length-ignore_lines-le}
use Rattle.glob_attributes.specs.declared.assignment.Assignment.{Assignment}
use Rattle.glob_attributes.specs.declared.line.LineReading.{LineReading}
use Rattle.glob_attributes.specs.declared.line.LineReading.TheVariants as read
use Rattle.glob_attributes.specs.Equations.Files.{AttributeEntry, entries_from, entry_given, file_lines, pattern_of}
use Rattle.glob_attributes.specs.Patterns.{IsPatternAs}
use Rattle.glob_lists.specs.declared.rules.Reading as whose
use Rattle.glob_lists.specs.declared.rules.Reading.TheVariants.{Crate, Git}
use Rattle.gix_glob.specs.Equations.GitLines.{git_reading_of}
use Rattle.gix_glob.specs.GitLines.{GitReads}
use Rattle.glob_attributes.specs.Readings.{a_pattern, line_gives}
use Rattle.glob_attributes.specs.Views.{seen_assignments, seen_reading}

-- ---- lines

pub file_lines_shorter : (bytes : List ℕ) → length (file_lines bytes) ≤ length bytes
file_lines_shorter bytes =
    ⊎_elim
    (λ e. rw e (omega arith))
    (λ e. rw e (length-ignore_lines-le bytes))
    (cases_Bool (nat_le 104857600 (length bytes)))

pub lines_of-rest : (bytes line rest : List ℕ) → CutsLine EndsIgnoreLine bytes line rest → lines_of (without_returns bytes) ≡ line ∷ lines_of (without_returns rest)
lines_of-rest = TellsLines-ignore.first

-- ---- the pattern of a line

-- the second part of the law `readings_are_these`, restated: a lemma can't cite a clause
abbrev pub BlankAreThese : Type 0
BlankAreThese = (line : List ℕ) (may_alter : Bool) → (HasReading line may_alter → ⊥) ↔ (reading_of may_alter line ≡ None)

no_reading : (bytes : List ℕ) → is_blank bytes ≡ true → HasReading bytes false → ⊥
no_reading bytes blank has =
    let reads = has.3 in
    let is : bytes ≡ reads.lead ++ (has.0 ++ reads.tail) = reads.joined ∙ ap (λ s. s ++ (reads.lead ++ (has.0 ++ reads.tail))) reads.signed in
    false≢true (sym reads.not_blank ∙ ap is_blank (sym is) ∙ blank)

abbrev pub reading : List ℕ → Mode → Option ℕ → Reading
reading text mode place = record { text = text; mode = mode; place = place }

-- the law `git_readings_are_these`, restated
abbrev pub GitReadingsAreThese : Type 0
GitReadingsAreThese = (line text : List ℕ) (mode : Mode) (place : Option ℕ) → GitReads line text mode place ↔ (git_reading_of line ≡ reading text mode place)

-- the three laws of readings
pub record ReadingLaws : Type 0 where
  pub some : ReadingsAreThese
  pub none : BlankAreThese
  pub git : GitReadingsAreThese

pub pattern_of-is : ReadingLaws → (reader : whose.Reading) (bytes text : List ℕ) (mode : Mode) (place : Option ℕ) → IsPatternAs reader bytes text mode place → reading text mode place ≡ pattern_of reader bytes
unfolding pattern_of
pattern_of-is laws Git bytes text mode place reads = sym ((laws.git bytes text mode place).0 reads)
pattern_of-is laws Crate bytes text mode place (inl reads) =
    let alone : Reading = reading bytes (record { 0 = 1 }) None in
    sym (ap (λ r. unwrap_or r alone) ((laws.some bytes false text mode place).0 reads))
pattern_of-is laws Crate bytes text mode place (inr blank) =
    let alone : Reading = reading bytes (record { 0 = 1 }) None in
    ap (λ t. reading t mode place) blank.1
    ∙ ap (λ n. reading bytes (record { 0 = n }) place) blank.2
    ∙ ap (λ p. reading bytes (record { 0 = 1 }) p) blank.3
    ∙ sym (ap (λ r. unwrap_or r alone) ((laws.none bytes false).0 (no_reading bytes blank.0)))

-- ---- the entries

abbrev pub Assigning : Type 0
Assigning = Mapping (Vec (Assignment (Vec ℕ Global)) Global)

abbrev pub entries : List Assigning → List AttributeEntry
entries mappings = map (entry_of seen_assignments) mappings

-- a line was read that gives a pattern
pub meant-pattern : (reader : whose.Reading) (old new : List Assigning) (m : Assigning) (number : ℕ) (lines more : List (List ℕ)) (line bytes : List ℕ) (all : List AttributeEntry)
    → new ≡ old ++ m ∷ [] → lines ≡ line ∷ more → line_gives true line ≡ a_pattern bytes (seen_assignments m.value) → m.sequence_number ≡ number
    → reading (text_of m.pattern) (mode_of m.pattern) (place_of m.pattern) ≡ pattern_of reader bytes
    → entries old ++ entries_from reader number lines ≡ all → entries new ++ entries_from reader (number + 1) more ≡ all
meant-pattern reader old new m number lines more line bytes all grown is gives numbered pattern meant =
    let rest = entries_from reader (number + 1) more in
    let value = seen_assignments m.value in
    let entry : entry_with value number (pattern_of reader bytes) ≡ entry_of seen_assignments m =
    ap (λ r. entry_with value number r) (sym pattern)
    ∙ ap (λ n. entry_with value n (reading (text_of m.pattern) (mode_of m.pattern) (place_of m.pattern))) (sym numbered) in
    let here : entries_from reader number lines ≡ entry_of seen_assignments m ∷ rest =
    ap (entries_from reader number) is ∙ ap (λ g. cons_option (entry_given reader number g) rest) gives ∙ ap (λ e. e ∷ rest) entry in
    ap (λ l. entries l ++ rest) grown
    ∙ ap (λ l. l ++ rest) (map_push (entry_of seen_assignments) old m)
    ∙ append_assoc (entries old) (entry_of seen_assignments m ∷ []) rest
    ∙ ap (λ l. entries old ++ l) (sym here)
    ∙ meant

-- a line was read that gives none
pub meant-other : (reader : whose.Reading) (old : List Assigning) (number : ℕ) (lines more : List (List ℕ)) (line : List ℕ) (all : List AttributeEntry)
    → lines ≡ line ∷ more → entry_given reader number (line_gives true line) ≡ None
    → entries old ++ entries_from reader number lines ≡ all → entries old ++ entries_from reader (number + 1) more ≡ all
meant-other reader old number lines more line all is none meant =
    let rest = entries_from reader (number + 1) more in
    ap (λ l. entries old ++ l) (sym (ap (entries_from reader number) is ∙ ap (λ o. cons_option o rest) none)) ∙ meant

pub entry_given-other : (reader : whose.Reading) (number : ℕ) (given : LineReading) → ((pattern : Vec ℕ Global) (assignments : Vec (Assignment (Vec ℕ Global)) Global) → given ≡ read.Pattern pattern assignments → ⊥) → entry_given reader number (seen_reading given) ≡ None
entry_given-other reader number read.Nothing other = refl
entry_given-other reader number (read.Silent silence) other = refl
entry_given-other reader number (read.Macro name assignments) other = refl
entry_given-other reader number (read.Pattern pattern assignments) other = absurd (other pattern assignments refl)
