-- Entries of numbered lines: the relation and the equation agree, and what a parser of lines makes of one line.
use Rattle.std.proofs.Common.{◌≡◌, inl, inr, ⊎_elim, ℕ, ◌+◌, Bool, true, List, [], ◌∷◌, ◌++◌, Option, None, Some, map, refl, sym, ap, subst, ◌∙◌, append_assoc}
use Rattle.std.specs.Prelude.{◌↔◌, ◌⊎◌}
use Rattle.std.specs.List.{cons_option}
use Rattle.std.specs.Option.{option_and_then, option_map, option_to_list}
use Rattle.gix_glob.specs.declared.pattern.Mode.{Mode}
use Rattle.gix_glob.specs.declared.search.pattern.mapping.Mapping.{Mapping}
use Rattle.gix_glob.specs.Entries.{Entry, entry_of}
use Rattle.gix_glob.specs.Equations.Entries.{entry_with}
use Rattle.gix_glob.specs.Patterns.{Reads}
use Rattle.gix_glob.specs.Equations.Readings.{Reading, reading_of}
use Rattle.glob_lines.specs.Entries.{Entries, EntriesFrom, HasNoEntry, IsEntryOf, Reader, ReadsLine}
use Rattle.glob_lines.specs.Equations.Entries.{LineContent, ReadBy, entries_from, entry_of_content, entry_of_line, entry_of_text, line_reading}
use Rattle.glob_lines.proofs.lemmas.LinesLemmas.{Lines-are, Lines-only, TellsLines}

-- the law `readings_are_these`, restated: a lemma can't cite a clause
abbrev pub ReadingsAreThese : Type 0
ReadingsAreThese = (line : List ℕ) (may_alter : Bool) (text : List ℕ) (mode : Mode) (place : Option ℕ)
    → Reads line may_alter text mode place ↔ (reading_of may_alter line ≡ Some (record { text = text; mode = mode; place = place }))

-- `read` is by equation what `IsRead` says
abbrev pub TellsReadings : Reader → ReadBy → Type 0
TellsReadings IsRead read = (line text : List ℕ) (mode : Mode) (place : Option ℕ)
    → IsRead line text mode place ↔ (read line ≡ Some (record { text = text; mode = mode; place = place }))

pub TellsReadings-line : ReadingsAreThese → TellsReadings ReadsLine line_reading
TellsReadings-line these = λ line. these line true

-- `content_of` is by equation what `Gives` says
pub record Tells {V : Type 0} (Gives : List ℕ → List ℕ → V → Type 0) (content_of : List ℕ → Option (LineContent V)) : Type 0 where
  pub found : (line text : List ℕ) (value : V) → Gives line text value → content_of line ≡ Some (record { text = text; value = value })
  pub gives : (line : List ℕ) (it : LineContent V) → content_of line ≡ Some it → Gives line it.text it.value

cases_Option : {A : Type 0} (o : Option A) → (o ≡ None) ⊎ ((x : A) × (o ≡ Some x))
cases_Option None = inl refl
cases_Option (Some x) = inr (x, refl)

-- ---- the entry of a line

module _ {V : Type 0} (Gives : List ℕ → List ℕ → V → Type 0) (content_of : List ℕ → Option (LineContent V)) (tells : Tells Gives content_of) (IsRead : Reader) (read : ReadBy) (readings : TellsReadings IsRead read) where
  entry_of_line-is : (number : ℕ) (line : List ℕ) (entry : Entry V) → IsEntryOf IsRead Gives line number entry → entry_of_line read content_of number line ≡ Some entry
  unfolding entry_of_line
  entry_of_line-is number line entry h =
      let reading : Reading = record { text = entry.text; mode = entry.mode; place = entry.place } in
      let numbered : ℕ → Entry V = λ n. entry_with entry.value n reading in
      ap (option_and_then (entry_of_content read number)) (tells.found line h.text entry.value h.given)
      ∙ ap (option_map (entry_with entry.value number)) ((readings h.text entry.text entry.mode entry.place).0 h.reads)
      ∙ ap (λ n. Some (numbered n)) (sym h.numbered)

  -- a line has an entry, or has none
  record TellsEntry (number : ℕ) (line : List ℕ) (entry : Entry V) : Type 0 where
    is : entry_of_line read content_of number line ≡ Some entry
    entry_is : IsEntryOf IsRead Gives line number entry

  record TellsNone (number : ℕ) (line : List ℕ) : Type 0 where
    is : entry_of_line read content_of number line ≡ None
    has_none : HasNoEntry IsRead Gives line

  no_content : (number : ℕ) (line : List ℕ) → content_of line ≡ None → TellsNone number line
  unfolding entry_of_line
  no_content number line nothing = record {
    is = ap (option_and_then (entry_of_content read number)) nothing;
    has_none = record { none = λ text value gives _. let both : None ≡ Some _ = sym nothing ∙ tells.found line text value gives in absurd (cc) };
  }

  no_reading : (number : ℕ) (line : List ℕ) (it : LineContent V) → content_of line ≡ Some it → read it.text ≡ None → TellsNone number line
  unfolding entry_of_line
  no_reading number line it is blank = record {
    is = ap (option_and_then (entry_of_content read number)) is ∙ ap (option_map (entry_with it.value number)) blank;
    has_none = record {
      none = λ text value gives pattern mode place has.
          let this : LineContent V = record { text = text; value = value } in
          let both : Some this ≡ Some it = sym (tells.found line text value gives) ∙ is in
          let equal : this ≡ it = cc in
          let same : text ≡ it.text = ap (λ (x : LineContent V). x.text) equal in
          let reading : Reading = record { text = pattern; mode = mode; place = place } in
          let none : None ≡ Some reading = sym blank ∙ sym (ap read same) ∙ (readings text pattern mode place).0 has in
          absurd (cc);
    };
  }

  entry_of_reading : (number : ℕ) (line : List ℕ) (it : LineContent V) (reading : Reading) → content_of line ≡ Some it → read it.text ≡ Some reading → TellsEntry number line (entry_with it.value number reading)
  entry_of_reading number line it reading is found =
      let entry_is : IsEntryOf IsRead Gives line number (entry_with it.value number reading) = record {
        text = it.text;
        given = tells.gives line it is;
        reads = (readings it.text reading.text reading.mode reading.place).1 found;
        numbered = refl;
      } in
      record { is = entry_of_line-is number line _ entry_is; entry_is = entry_is }

  entry_cases : (number : ℕ) (line : List ℕ) → TellsNone number line ⊎ ((entry : Entry V) × TellsEntry number line entry)
  entry_cases number line =
      ⊎_elim
      (λ nothing. inl (no_content number line nothing))
      (λ some. ⊎_elim
      (λ blank. inl (no_reading number line some.0 some.1 blank))
      (λ found. inr (entry_with some.0.value number found.0, entry_of_reading number line some.0 found.0 some.1 found.1))
      (cases_Option (read some.0.text)))
      (cases_Option (content_of line))

  -- ---- the entries of all lines

  entries_from-EntriesFrom : (number : ℕ) (lines : List (List ℕ)) → EntriesFrom IsRead Gives number lines (entries_from read content_of number lines)
  entries_from-EntriesFrom number [] = refl
  entries_from-EntriesFrom number (line ∷ lines) =
      let more = entries_from read content_of (number + 1) lines in
      let step : (o : Option (Entry V)) → entry_of_line read content_of number line ≡ o → entries_from read content_of number (line ∷ lines) ≡ cons_option o more =
      λ o is. ap (λ first. cons_option first more) is in
      ⊎_elim
      (λ none. inl (none.has_none, subst (EntriesFrom IsRead Gives (number + 1) lines) (sym (step None none.is)) (entries_from-EntriesFrom (number + 1) lines)))
      (λ some. inr (some.0, more, step (Some some.0) some.1.is, some.1.entry_is, entries_from-EntriesFrom (number + 1) lines))
      (entry_cases number line)

  EntriesFrom-only : (number : ℕ) (lines : List (List ℕ)) (entries : List (Entry V)) → EntriesFrom IsRead Gives number lines entries → entries ≡ entries_from read content_of number lines
  EntriesFrom-only number [] entries h = h
  EntriesFrom-only number (line ∷ lines) entries (inl h) =
      ⊎_elim
      (λ none. EntriesFrom-only (number + 1) lines entries h.1 ∙ sym (ap (λ o. cons_option o (entries_from read content_of (number + 1) lines)) none.is))
      (λ some. let e = some.1.entry_is in
      absurd (h.0.none e.text some.0.value e.given some.0.text some.0.mode some.0.place e.reads))
      (entry_cases number line)
  EntriesFrom-only number (line ∷ lines) entries (inr h) =
      h.2 ∙ ap (λ l. h.0 ∷ l) (EntriesFrom-only (number + 1) lines h.1 h.4)
      ∙ sym (ap (λ o. cons_option o (entries_from read content_of (number + 1) lines)) (entry_of_line-is number line h.0 h.3))

  -- ---- the entries of the lines of bytes

  pub Entries-are : (Ends : List ℕ → List ℕ → Type 0) (lines : List ℕ → List (List ℕ)) → TellsLines Ends lines → (bytes : List ℕ) → Entries IsRead Ends Gives bytes (entries_from read content_of 1 (lines bytes))
  Entries-are Ends lines are_lines bytes = record { lines = lines bytes; cut = Lines-are Ends lines are_lines bytes; each = entries_from-EntriesFrom 1 (lines bytes) }

  pub Entries-only : (Ends : List ℕ → List ℕ → Type 0) (lines : List ℕ → List (List ℕ)) → TellsLines Ends lines → (bytes : List ℕ) (entries : List (Entry V)) → Entries IsRead Ends Gives bytes entries
      → entries ≡ entries_from read content_of 1 (lines bytes)
  Entries-only Ends lines are_lines bytes entries h = EntriesFrom-only 1 h.lines entries h.each ∙ ap (entries_from read content_of 1) (Lines-only Ends lines are_lines bytes h.lines h.cut)

  -- the relation and the equation agree
  pub entries_are_these : (Ends : List ℕ → List ℕ → Type 0) (lines : List ℕ → List (List ℕ)) → TellsLines Ends lines → (bytes : List ℕ) (entries : List (Entry V))
      → Entries IsRead Ends Gives bytes entries ↔ (entries ≡ entries_from read content_of 1 (lines bytes))
  entries_are_these Ends lines are_lines bytes entries =
      (Entries-only Ends lines are_lines bytes entries, λ is. subst (Entries IsRead Ends Gives bytes) (sym is) (Entries-are Ends lines are_lines bytes))

-- ---- one line after the other

-- what is seen of the values, in place of the values
abbrev with_seen_value : {T V : Type 0} → (T → V) → Entry T → Entry V
with_seen_value seen entry = record { text = entry.text; mode = entry.mode; place = entry.place; value = seen entry.value; number = entry.number }

module _ {T V : Type 0} (seen : T → V) (read : ReadBy) where
  seen-entries : (mappings : List (Mapping T)) → map (with_seen_value seen) (map (entry_of (λ v. v)) mappings) ≡ map (entry_of seen) mappings
  seen-entries [] = refl
  seen-entries (m ∷ mappings) = ap (λ l. entry_of seen m ∷ l) (seen-entries mappings)

  seen-append : (old more : List (Entry T)) → map (with_seen_value seen) (old ++ more) ≡ map (with_seen_value seen) old ++ map (with_seen_value seen) more
  seen-append [] more = refl
  seen-append (e ∷ old) more = ap (λ l. with_seen_value seen e ∷ l) (seen-append old more)

  seen-option : (value : T) (number : ℕ) (reading : Option Reading) (more : List (Entry V)) → map (with_seen_value seen) (option_to_list (option_map (entry_with value number) reading)) ++ more ≡ cons_option (option_map (entry_with (seen value) number) reading) more
  seen-option value number None more = refl
  seen-option value number (Some reading) more = refl

  seen-text : (value : T) (number : ℕ) (text : Option (List ℕ)) (more : List (Entry V))
      → map (with_seen_value seen) (option_to_list (entry_of_text read value number text)) ++ more ≡ cons_option (option_and_then (entry_of_content read number) (option_map (λ t. record { text = t; value = seen value }) text)) more
  seen-text value number None more = refl
  seen-text value number (Some text) more = seen-option value number (read text) more

  -- a line was read, which may give no text: what is meant by those after it is still to come
  pub meant-more : (content_of : List ℕ → Option (LineContent V)) (old new : List (Mapping T)) (number : ℕ) (lines more : List (List ℕ)) (line : List ℕ) (text : Option (List ℕ)) (value : T) (all : List (Entry V))
      → map (entry_of (λ v. v)) new ≡ map (entry_of (λ v. v)) old ++ option_to_list (entry_of_text read value number text)
      → lines ≡ line ∷ more → content_of line ≡ option_map (λ t. record { text = t; value = seen value }) text
      → map (entry_of seen) old ++ entries_from read content_of number lines ≡ all → map (entry_of seen) new ++ entries_from read content_of (number + 1) more ≡ all
  unfolding entry_of_line
  meant-more content_of old new number lines more line text value all grown is gives meant =
      let added = option_to_list (entry_of_text read value number text) in
      let rest = entries_from read content_of (number + 1) more in
      let news : map (entry_of seen) new ≡ map (entry_of seen) old ++ map (with_seen_value seen) added =
      sym (seen-entries new) ∙ ap (map (with_seen_value seen)) grown ∙ seen-append (map (entry_of (λ v. v)) old) added ∙ ap (λ l. l ++ map (with_seen_value seen) added) (seen-entries old) in
      let here : entries_from read content_of number lines ≡ cons_option (option_and_then (entry_of_content read number) (option_map (λ t. record { text = t; value = seen value }) text)) rest =
      ap (entries_from read content_of number) is ∙ ap (λ o. cons_option (option_and_then (entry_of_content read number) o) rest) gives in
      ap (λ l. l ++ rest) news
      ∙ append_assoc (map (entry_of seen) old) (map (with_seen_value seen) added) rest
      ∙ ap (λ l. map (entry_of seen) old ++ l) (seen-text value number text rest ∙ sym here)
      ∙ meant
