-- Lines in memory of a caller: what their words assign, and what their parts say.
use Rattle.std.specs.Prelude.{◌≡◌, ℕ, ◌==◌, nat_le, if◌then◌else◌, List, [], length, map, take, Option, None, Some, option_map, unwrap_or}
use Rattle.std.specs.Borrow.{Bor, MutBor}
use Rattle.std.specs.List.{before_first, flat_map}
use Rattle.gix_glob.specs.Patterns.{IsPattern}
use Rattle.glob_lists.specs.declared.rules.Reading.{Reading}
use Rattle.glob_attributes.specs.declared.borrowed.line.LineParts.{LineParts}
use Rattle.glob_attributes.specs.declared.borrowed.line.LineParts.TheVariants as parts
use Rattle.glob_attributes.specs.declared.borrowed.telling.Text.{Text}
use Rattle.glob_attributes.specs.declared.borrowed.telling.TextMacro.{TextMacro}
use Rattle.glob_attributes.specs.Assignments.{assignment_of}
use Rattle.glob_attributes.specs.Equations.Heads.{quoted_of}
use Rattle.glob_attributes.specs.Macros.{Definition}
use Rattle.glob_attributes.specs.Patterns.{IsPatternAs}
use Rattle.glob_attributes.specs.Places.{IsPartOf}
use Rattle.glob_attributes.specs.Readings.{Gives, a_macro, a_pattern, nothing, silent}
use Rattle.glob_attributes.specs.States.{Assigned}
use Rattle.glob_attributes.specs.Words.{after_blanks, words_of}

-- what the words of a text assign, whether their names are valid or not
abbrev pub assigned_by : List ℕ → List Assigned
assigned_by text = map assignment_of (words_of text)

-- the parts of a line say what the line gives, by this reading of its pattern
abbrev pub GivesParts : Reading → Gives → LineParts → Type 0
GivesParts reading gives parts.Nothing = gives ≡ nothing
GivesParts reading gives (parts.Silent silence) = gives ≡ silent silence
GivesParts reading gives (parts.Macro name words) = gives ≡ a_macro name.now (assigned_by words.now)
GivesParts reading gives (parts.Pattern bytes pattern words) =
    (gives ≡ a_pattern bytes.now (assigned_by words.now))
    × IsPatternAs reading bytes.now pattern.text.now pattern.mode pattern.first_wildcard_pos
    × IsPattern pattern.text.now pattern.mode pattern.first_wildcard_pos

-- the bytes that the head of a line spells between quotes; a line of 2,048 bytes or more isn't read
abbrev pub spelled_head : List ℕ → Option (List ℕ)
spelled_head line =
    let text = before_first (λ b. b == 0) line in
    if nat_le 2048 (length text) then None else option_map (λ found. found.0) (quoted_of (after_blanks text))

-- how many bytes of a memory the head of a line takes
abbrev pub memory_for : List ℕ → ℕ
memory_for line = length (unwrap_or (spelled_head line) [])

-- where a head lies that has these bytes between its quotes: where the memory began, and else in the line
abbrev pub place_of : Option (List ℕ) → MutBor (List ℕ) → Bor (List ℕ) → Bor (List ℕ)
place_of None memory line = line
place_of (Some bytes) memory line = record { ref_ptr = memory.ref_ptr; now = bytes }

-- the pattern's bytes or the macro's name are a part of the head, and the words a part of the line
abbrev pub LieIn : Bor (List ℕ) → Bor (List ℕ) → LineParts → Type 0
LieIn head line (parts.Macro name words) = IsPartOf name head × IsPartOf words line
LieIn head line (parts.Pattern bytes pattern words) = IsPartOf bytes head × IsPartOf words line
LieIn head line _ = Unit {0}

-- the macro as plain data
abbrev pub definition_of : TextMacro → Definition
definition_of macro = record { name = macro.name.now; assignments = assigned_by macro.words.now }

-- what the first texts assign, so many
abbrev pub row_of : List Text → ℕ → List Assigned
row_of texts count = flat_map (λ text. assigned_by text.bytes.now) (take count texts)
