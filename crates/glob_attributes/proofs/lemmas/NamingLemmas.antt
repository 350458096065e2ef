-- Lines assign to names that an attribute can have, and so do files.
use Rattle.std.proofs.Common.{◌≡◌, ⊎_elim, ℕ, zero, suc, ◌+◌, Bool, true, false, List, [], ◌∷◌, map, Option, None, Some, refl, sym, subst, ap, ◌∙◌}
use Rattle.std.specs.Prelude.{nat_eq, nat_le, slice_get}
use Rattle.std.specs.Prelude.{codes, length}
use Rattle.std.specs.List.{AllByRecursion, before_first, cons_option, filter_map, flat_map, list_all, starts_with}
use Rattle.std.specs.Option.{option_and_then, option_map_or}
use Rattle.std.specs.Str.{bytes_eq}
use Rattle.std.proofs.lemmas.Bool.{and_parts, cases_Bool, false≢true}
use Rattle.std.proofs.lemmas.Slice.Eq.{bytes_eq-Decides}
use Rattle.glob_lists.specs.declared.rules.Reading.{Reading}
use Rattle.glob_lists.specs.declared.rules.Rules.{Rules}
use Rattle.gix_glob.specs.EntryLists.{EntryList}
use Rattle.glob_lists.specs.Paths.{Path}
use Rattle.glob_attributes.specs.declared.assignment.State.TheVariants.{Unspecified}
use Rattle.glob_attributes.specs.Assignments.{assignment_of}
use Rattle.glob_attributes.specs.Equations.Files.{AttributeEntry, attributes_of, entries_from, entry_given, file_lines}
use Rattle.glob_attributes.specs.Equations.Heads.{head_of}
use Rattle.glob_attributes.specs.Laws.Naming.{EntriesHaveNames, HaveNames, MacrosHaveNames}
use Rattle.glob_attributes.specs.Laws.Totals.{NoMacroNames, NoneNames}
use Rattle.glob_attributes.specs.Macros.{Definition, definition_given, macros_of}
use Rattle.glob_attributes.specs.Names.{is_name}
use Rattle.glob_attributes.specs.Private.Readings.{is_macro, is_zero, macro_name, says_nothing}
use Rattle.glob_attributes.specs.Readings.{Gives, a_macro, a_pattern, line_gives, nothing, silent}
use Rattle.glob_attributes.specs.States.{Assigned, IsAssigned, Lists, assigned_at, state_in}
use Rattle.glob_attributes.specs.Words.{after_blanks, words_of}
use Rattle.glob_attributes.proofs.lemmas.LawLemmas.{all-append, all-reverse, unnamed-unspecified}
use Rattle.glob_attributes.proofs.lemmas.LineLemmas.{by_reasons, by_tests, line_gives-inner}

-- ---- what a line gives

all-passed : {X : Type 0} (test : X → Bool) (xs : List X) → list_all test xs ≡ true → AllByRecursion (λ x. test x ≡ true) xs
all-passed test [] is = record {}
all-passed test (x ∷ xs) is = let both = and_parts (test x) (list_all test xs) is in (both.0, all-passed test xs both.1)

abbrev GivesNames : Gives → Type 0
GivesNames nothing = Unit {0}
GivesNames (silent silence) = Unit {0}
GivesNames (a_macro name assigned) = HaveNames assigned
GivesNames (a_pattern bytes assigned) = HaveNames assigned

reasons-names : (macro top named valid negative : Bool) (name bytes : List ℕ) (assigned : List Assigned) → (valid ≡ true → HaveNames assigned)
    → GivesNames (by_reasons macro top named valid negative (a_macro name assigned) (a_pattern bytes assigned))
reasons-names true false named valid negative name bytes assigned have = tt
reasons-names true true false valid negative name bytes assigned have = tt
reasons-names true true true false negative name bytes assigned have = tt
reasons-names true true true true negative name bytes assigned have = have refl
reasons-names false top named false negative name bytes assigned have = tt
reasons-names false top named true true name bytes assigned have = tt
reasons-names false top named true false name bytes assigned have = have refl

tests-names : (says long : Bool) (given : Gives) → GivesNames given → GivesNames (by_tests says long given)
tests-names true long given have = tt
tests-names false true given have = tt
tests-names false false given have = have

line-names : (is_top : Bool) (line : List ℕ) → GivesNames (line_gives is_top line)
line-names is_top line =
    let text = before_first is_zero line in
    let inner = after_blanks text in
    let head = (head_of inner).0 in
    let assigned = map assignment_of (words_of (head_of inner).1) in
    let valid = list_all (λ (assignment : Assigned). is_name assignment.name) assigned in
    subst GivesNames (line_gives-inner is_top line text inner (record { text_is = refl; inner_is = refl }))
    (tests-names (says_nothing inner) (nat_le 2048 (length text))
    (by_reasons (is_macro head) is_top (is_name (macro_name head)) valid (starts_with nat_eq head (codes "!")) (a_macro (macro_name head) assigned) (a_pattern (before_first is_zero head) assigned))
    (reasons-names (is_macro head) is_top (is_name (macro_name head)) valid (starts_with nat_eq head (codes "!")) (macro_name head) (before_first is_zero head) assigned
    (all-passed (λ (assignment : Assigned). is_name assignment.name) assigned)))

-- ---- what a file gives

entry-names : (reader : Reading) (number : ℕ) (given : Gives) (more : List AttributeEntry) → GivesNames given → EntriesHaveNames more → EntriesHaveNames (cons_option (entry_given reader number given) more)
entry-names reader number nothing more have all = all
entry-names reader number (silent silence) more have all = all
entry-names reader number (a_macro name assigned) more have all = all
entry-names reader number (a_pattern bytes assigned) more have all = (have, all)

entries-names : (reader : Reading) (number : ℕ) (lines : List (List ℕ)) → EntriesHaveNames (entries_from reader number lines)
entries-names reader number [] = record {}
entries-names reader number (line ∷ lines) =
    entry-names reader number (line_gives true line) (entries_from reader (number + 1) lines) (line-names true line) (entries-names reader (number + 1) lines)

pub attributes-names : (reader : Reading) (bytes : List ℕ) → EntriesHaveNames (attributes_of reader bytes)
attributes-names reader bytes = entries-names reader 1 (file_lines bytes)

macro-names : (given : Gives) (more : List Definition) → GivesNames given → MacrosHaveNames more → MacrosHaveNames (cons_option (definition_given given) more)
macro-names nothing more have all = all
macro-names (silent silence) more have all = all
macro-names (a_macro name assigned) more have all = (have, all)
macro-names (a_pattern bytes assigned) more have all = all

lines-names : (lines : List (List ℕ)) → MacrosHaveNames (filter_map (λ line. definition_given (line_gives true line)) lines)
lines-names [] = record {}
lines-names (line ∷ lines) =
    macro-names (line_gives true line) (filter_map (λ l. definition_given (line_gives true l)) lines) (line-names true line) (lines-names lines)

pub macros-names : (bytes : List ℕ) → MacrosHaveNames (macros_of bytes)
macros-names bytes = lines-names (file_lines bytes)

-- ---- a name that none of the assignments has

module _ {X : Type 0} (P Q : X → Type 0) (leads : (x : X) → P x → Q x) where
  all-lead : (xs : List X) → AllByRecursion P xs → AllByRecursion Q xs
  all-lead [] all = record {}
  all-lead (x ∷ xs) all = (leads x all.0, all-lead xs all.1)

-- what is got of elements that all meet a fact meets it
all-got : {X : Type 0} (P : X → Type 0) (Q : Option X → Type 0) → Q None → ((x : X) → P x → Q (Some x)) → (xs : List X) (i : ℕ) → AllByRecursion P xs → Q (slice_get xs i)
all-got P Q none some [] i all = none
all-got P Q none some (x ∷ xs) zero all = some x all.0
all-got P Q none some (x ∷ xs) (suc i) all = all-got P Q none some xs i all.1

module _ (name : List ℕ) (invalid : is_name name ≡ false) where
  another : (a : Assigned) → is_name a.name ≡ true → bytes_eq a.name name ≡ false
  another a valid =
      ⊎_elim
      (λ yes. absurd (false≢true (sym invalid ∙ sym (ap is_name ((bytes_eq-Decides a.name name).0 yes)) ∙ valid)))
      (λ no. no)
      (cases_Bool (bytes_eq a.name name))

  none-names : (assignments : List Assigned) → HaveNames assignments → NoneNames name assignments
  none-names = all-lead (λ (a : Assigned). is_name a.name ≡ true) (λ (a : Assigned). bytes_eq a.name name ≡ false) another

  no-macro-names : (macros : List Definition) → MacrosHaveNames macros → NoMacroNames name macros
  no-macro-names = all-lead (λ (m : Definition). HaveNames m.assignments) (λ (m : Definition). NoneNames name m.assignments) (λ m. none-names m.assignments)

  module _ (lists : Lists) (valid : AllByRecursion (λ (list : EntryList (List Assigned)). EntriesHaveNames list.entries) lists) where
    pair-names : (pair : ℕ × ℕ) → NoneNames name (assigned_at lists pair)
    pair-names pair =
        all-got (λ (list : EntryList (List Assigned)). EntriesHaveNames list.entries)
        (λ found. NoneNames name (option_map_or (λ (entry : AttributeEntry). entry.value) (option_and_then (λ (list : EntryList (List Assigned)). slice_get list.entries pair.1) found) []))
        (record {})
        (λ list all. all-got (λ (entry : AttributeEntry). HaveNames entry.value) (λ found. NoneNames name (option_map_or (λ (entry : AttributeEntry). entry.value) found []))
        (record {}) (λ entry have. none-names entry.value have) list.entries pair.1 all)
        lists pair.0 valid

    pairs-names : (pairs : List (ℕ × ℕ)) → NoneNames name (flat_map (assigned_at lists) pairs)
    pairs-names [] = record {}
    pairs-names (pair ∷ pairs) =
        all-append (λ (a : Assigned). bytes_eq a.name name ≡ false) (assigned_at lists pair) (flat_map (assigned_at lists) pairs) (pair-names pair) (pairs-names pairs)

pub invalid-unspecified : (lists : Lists) (macros : List Definition) (path : Path) (rules : Rules) (filled : List Assigned) (name : List ℕ)
    → AllByRecursion (λ (list : EntryList (List Assigned)). EntriesHaveNames list.entries) lists → MacrosHaveNames macros → is_name name ≡ false
    → IsAssigned lists macros path rules filled → state_in filled name ≡ Unspecified
invalid-unspecified lists macros path rules filled name valid defined invalid h =
    let none : NoneNames name h.0 = subst (NoneNames name) (sym h.1.2)
    (all-reverse (λ (a : Assigned). bytes_eq a.name name ≡ false) (flat_map (assigned_at lists) h.1.0) (pairs-names name invalid lists valid h.1.0)) in
    unnamed-unspecified macros h.0 filled name h.2 none (no-macro-names name invalid macros defined)
