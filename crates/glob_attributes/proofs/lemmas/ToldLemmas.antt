-- What is told of lines, one line after the other.
use Rattle.std.proofs.Common.{◌≡◌, ℕ, ◌+◌, Bool, List, [], ◌∷◌, ◌++◌, None, Some, refl, sym, ap, ◌∙◌, append_assoc, take}
use Rattle.std.specs.Prelude.{if◌then◌else◌, slice_get}
use Rattle.std.specs.List.{cons_option, enumerate_from, filter_map, list_any}
use Rattle.std.specs.Str.{bytes_eq}
use Rattle.std.proofs.lemmas.List.{take_more}
use Rattle.std.proofs.lemmas.Option.{get_or_from_slice_get, slice_get_within}
use Rattle.glob_attributes.specs.declared.line.LineReading.{LineReading}
use Rattle.glob_attributes.specs.declared.line.LineReading.TheVariants as read
use Rattle.glob_attributes.specs.declared.line.Silence.{Silence}
use Rattle.glob_attributes.specs.declared.silences.SilentLine.{SilentLine}
use Rattle.glob_attributes.specs.Readings.{line_gives}
use Rattle.glob_attributes.specs.Views.{seen_reading}
use Rattle.glob_attributes.specs.Told.{AddsSome, silence_given, with_names}

module _ (is_top : Bool) where
  -- those of lines, the first of which has this number
  abbrev pub silences_from : ℕ → List (List ℕ) → List SilentLine
  silences_from number lines = filter_map (λ line. silence_given line.0 (line_gives is_top line.1)) (enumerate_from number lines)

  -- a line was read that says nothing for a reason
  pub silent-more : (old new : List SilentLine) (told : SilentLine) (number : ℕ) (lines more : List (List ℕ)) (line : List ℕ) (all : List SilentLine)
      → new ≡ old ++ told ∷ [] → lines ≡ line ∷ more → silence_given number (line_gives is_top line) ≡ Some told
      → old ++ silences_from number lines ≡ all → new ++ silences_from (number + 1) more ≡ all
  silent-more old new told number lines more line all grown is gives meant =
      let rest = silences_from (number + 1) more in
      let here : silences_from number lines ≡ told ∷ rest = ap (silences_from number) is ∙ ap (λ o. cons_option o rest) gives in
      ap (λ l. l ++ rest) grown ∙ append_assoc old (told ∷ []) rest ∙ ap (λ l. old ++ l) (sym here) ∙ meant

  -- another line was read
  pub silent-other : (old : List SilentLine) (number : ℕ) (lines more : List (List ℕ)) (line : List ℕ) (all : List SilentLine)
      → lines ≡ line ∷ more → silence_given number (line_gives is_top line) ≡ None
      → old ++ silences_from number lines ≡ all → old ++ silences_from (number + 1) more ≡ all
  silent-other old number lines more line all is none meant =
      let rest = silences_from (number + 1) more in
      ap (λ l. old ++ l) (sym (ap (silences_from number) is ∙ ap (λ o. cons_option o rest) none)) ∙ meant

pub silence_given-other : (number : ℕ) (given : LineReading) → ((silence : Silence) → given ≡ read.Silent silence → ⊥) → silence_given number (seen_reading given) ≡ None
silence_given-other number read.Nothing other = refl
silence_given-other number (read.Silent silence) other = absurd (other silence refl)
silence_given-other number (read.Macro name assignments) other = refl
silence_given-other number (read.Pattern pattern assignments) other = refl

-- ---- names

pub with_names-append : (names xs ys : List (List ℕ)) → with_names names (xs ++ ys) ≡ with_names (with_names names xs) ys
with_names-append names [] ys = refl
with_names-append names (x ∷ xs) ys = with_names-append (if list_any (λ other. bytes_eq other x) names then names else names ++ x ∷ []) xs ys

-- one name more of those that are added in turn
pub with_names-one : (old now new all : List (List ℕ)) (i : ℕ) (name : List ℕ) → slice_get all i ≡ Some name
    → now ≡ with_names old (take i all) → new ≡ with_names now (name ∷ []) → new ≡ with_names old (take (i + 1) all)
with_names-one old now new all i name there before added =
    let taken = take_more all i name (slice_get_within all i name there) ∙ ap (λ x. take i all ++ x ∷ []) (get_or_from_slice_get all i name name there) in
    added ∙ ap (λ l. with_names l (name ∷ [])) before ∙ sym (with_names-append old (take i all) (name ∷ [])) ∙ ap (with_names old) (sym taken)

-- ---- names of which some first ones were added

-- the names that were read before the rest are added
abbrev pub AddsUpTo : List (List ℕ) → List (List ℕ) → List (List ℕ) → List (List ℕ) → Type 0
AddsUpTo old read rest now = (first : List (List ℕ)) × (read ≡ first ++ rest) × (now ≡ with_names old first)

pub up_to-none : (old read rest : List (List ℕ)) → read ≡ rest → AddsUpTo old read rest old
up_to-none old read rest is = ([], is, refl)

pub up_to-more : (old read rest now mine others new : List (List ℕ)) → AddsUpTo old read rest now → rest ≡ mine ++ others → new ≡ with_names now mine
    → AddsUpTo old read others new
up_to-more old read rest now mine others new before is added = (
  before.0 ++ mine,
  before.1 ∙ ap (λ l. before.0 ++ l) is ∙ sym (append_assoc before.0 mine others),
  added ∙ ap (λ names. with_names names mine) before.2 ∙ sym (with_names-append old before.0 mine),
)

-- where nothing more was added
pub some-here : (old read rest now new : List (List ℕ)) → AddsUpTo old read rest now → new ≡ now → AddsSome old read new
some-here old read rest now new before same = (before.0, rest, before.1, same ∙ before.2)

-- where some more of the rest were added
pub some-more : (old read rest now mine others new : List (List ℕ)) → AddsUpTo old read rest now → rest ≡ mine ++ others → AddsSome now mine new
    → AddsSome old read new
some-more old read rest now mine others new before is some =
    let done = up_to-more old read rest now some.0 (some.1 ++ others) new before (is ∙ ap (λ l. l ++ others) some.2 ∙ append_assoc some.0 some.1 others) some.3 in
    (done.0, some.1 ++ others, done.1, done.2)
