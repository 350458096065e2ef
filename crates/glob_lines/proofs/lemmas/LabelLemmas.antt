-- Labels: what a line gives, by its first tab, and lines that have none.
use Rattle.std.proofs.Common.{◌≡◌, ◌≢◌, inl, inr, ⊎_elim, ℕ, ◌+◌, true, List, [], ◌∷◌, ◌++◌, length, take, drop, map, Option, None, Some, refl, sym, ap, subst, ◌∙◌, append_assoc, drop_at, le_refl, length-append, take_all, take_at, arith}
use Rattle.std.specs.List.{AllByRecursion, cons_option, onto_first, position_or_len}
use Rattle.std.specs.Option.{option_and_then, option_map}
use Rattle.std.proofs.lemmas.Bool.{ne_eqb}
use Rattle.std.proofs.lemmas.Bool.Decides.{eqb_tells}
use Rattle.std.proofs.lemmas.List.{drop_all}
use Rattle.memchr.specs.Find.{IsFirstByte, is_byte}
use Rattle.gix_glob.specs.Equations.Entries.{entry_with}
use Rattle.gix_glob.specs.Equations.Readings.{Reading, reading_of}
use Rattle.glob_lines.specs.Entries.{ReadsLine}
use Rattle.glob_lines.specs.Label.{GivesLabel, Label, tab}
use Rattle.glob_lines.specs.Laws.Label.{entry_with_empty_label}
use Rattle.glob_lines.specs.Equations.Label.{is_tab, label_of, label_content}
use Rattle.glob_lines.specs.Lines.{EndsInFeed, line_feed}
use Rattle.byte_streams.specs.Records.{HasNo}
use Rattle.glob_lines.specs.Equations.Lines.{lines_of}
use Rattle.glob_lines.specs.Equations.Entries.{LineContent, entries_from, entry_of_content, entry_of_line, line_reading}
use Rattle.glob_lines.specs.Plain.{GivesItself, Plain, PlainEntry}
use Rattle.glob_lines.specs.Equations.Plain.{plain_content}
use Rattle.glob_lines.proofs.lemmas.LinesLemmas.{TellsLines-lines_of}
use Rattle.byte_streams.proofs.lemmas.CutLemmas.{HasNo-not_found, IsCutAt-found}
use Rattle.glob_lines.proofs.lemmas.EntriesLemmas.{Entries-are, Entries-only, ReadingsAreThese, Tells, TellsReadings-line}
use Rattle.glob_lines.proofs.lemmas.PlainLemmas.{Tells-plain_content}

-- ---- the first tab

abbrev content : List ℕ → List ℕ → LineContent (List ℕ)
content text value = record { text = text; value = value }

place-tab : (text value : List ℕ) → HasNo tab text → position_or_len is_tab (text ++ tab ∷ value) ≡ length text
place-tab [] value none = refl
place-tab (b ∷ text) value none = let more = place-tab text value none.1 in rw (ne_eqb b tab none.0) (omega arith)

place-none : (text : List ℕ) → HasNo tab text → position_or_len is_tab text ≡ length text
place-none [] none = refl
place-none (b ∷ text) none = let more = place-none text none.1 in rw (ne_eqb b tab none.0) (omega arith)

abbrev content_at : ℕ → List ℕ → LineContent (List ℕ)
content_at place line = content (take place line) (drop (place + 1) line)

label_content-tab : (text value : List ℕ) → HasNo tab text → label_content (text ++ tab ∷ value) ≡ Some (content text value)
label_content-tab text value none =
    let line = text ++ tab ∷ value in
    let behind : drop (length text + 1) line ≡ value =
    ap (drop (length text + 1)) (sym (append_assoc text (tab ∷ []) value)) ∙ drop_at (text ++ tab ∷ []) value (length text + 1) (length-append text (tab ∷ [])) in
    ap (λ n. Some (content_at n line)) (place-tab text value none)
    ∙ ap (λ t. Some (content t (drop (length text + 1) line))) (take_at text (tab ∷ value) (length text) refl)
    ∙ ap (λ v. Some (content text v)) behind

label_content-none : (text : List ℕ) → HasNo tab text → label_content text ≡ Some (content text [])
label_content-none text none =
    ap (λ n. Some (content_at n text)) (place-none text none)
    ∙ ap (λ t. Some (content t (drop (length text + 1) text))) (take_all (length text) text (le_refl _))
    ∙ ap (λ v. Some (content text v)) (drop_all (length text + 1) text (omega arith))

label_content-found : (line text value : List ℕ) → GivesLabel line text value → label_content line ≡ Some (content text value)
label_content-found line text value h =
    ⊎_elim
    (λ cut. ap label_content cut ∙ label_content-tab text value h.first)
    (λ whole. ap label_content whole.0 ∙ label_content-none text h.first ∙ ap (λ v. Some (content text v)) (sym whole.1))
    h.cut

-- a line gives something
gives-more : (b : ℕ) (line text value : List ℕ) → b ≢ tab → GivesLabel line text value → GivesLabel (b ∷ line) (b ∷ text) value
gives-more b line text value other h = record {
  first = (other, h.first);
  cut = ⊎_elim (λ cut. inl (ap (λ l. b ∷ l) cut)) (λ whole. inr (ap (λ l. b ∷ l) whole.0, whole.1)) h.cut;
}

gives : (line : List ℕ) → (it : LineContent (List ℕ)) × GivesLabel line it.text it.value
gives [] = (content [] [], record { first = tt; cut = inr (refl, refl) })
gives (b ∷ line) =
    ⊎_elim
    (λ is. (content [] line, record { first = tt; cut = inl (ap (λ x. x ∷ line) is.1) }))
    (λ other. let more = gives line in (content (b ∷ more.0.text) more.0.value, gives-more b line more.0.text more.0.value other.1 more.1))
    (eqb_tells b tab)

GivesLabel-content : (line : List ℕ) (it : LineContent (List ℕ)) → label_content line ≡ Some it → GivesLabel line it.text it.value
GivesLabel-content line it is =
    let found = gives line in
    let both : Some found.0 ≡ Some it = sym (label_content-found line found.0.text found.0.value found.1) ∙ is in
    let same : found.0 ≡ it = cc in
    subst (λ (x : LineContent (List ℕ)). GivesLabel line x.text x.value) same found.1

pub Tells-label_content : Tells GivesLabel label_content
Tells-label_content = record { found = label_content-found; gives = GivesLabel-content }

pub label_content-label : (line text value label : List ℕ) → GivesLabel line text value → label ≡ value → label_content line ≡ Some (record { text = text; value = label })
label_content-label line text value label h is = label_content-found line text value h ∙ ap (λ v. Some (content text v)) (sym is)

-- ---- what a search for the first tab tells

pub GivesLabel-found : (line : List ℕ) (place : ℕ) → IsFirstByte (is_byte tab) line (Some place) → GivesLabel line (take place line) (drop (place + 1) line)
GivesLabel-found line place h =
    let found = IsCutAt-found tab line place h in record { first = found.none; cut = inl found.joined }

pub GivesLabel-none : (line : List ℕ) → IsFirstByte (is_byte tab) line None → GivesLabel line line []
GivesLabel-none line h = record { first = HasNo-not_found tab line h; cut = inr (refl, refl) }

-- ---- lines without a tab

same_entry : (number : ℕ) (reading : Option Reading) → option_map (entry_with [] number) reading ≡ option_map entry_with_empty_label (option_map (entry_with tt number) reading)
same_entry number None = refl
same_entry number (Some reading) = refl

entry-none : (number : ℕ) (line : List ℕ) → HasNo tab line → entry_of_line line_reading label_content number line ≡ option_map entry_with_empty_label (entry_of_line line_reading plain_content number line)
unfolding entry_of_line
entry-none number line none =
    ap (option_and_then (entry_of_content line_reading number)) (label_content-none line none) ∙ same_entry number (reading_of true line)

map-cons_option : (first : Option PlainEntry) (entries : List PlainEntry) → map entry_with_empty_label (cons_option first entries) ≡ cons_option (option_map entry_with_empty_label first) (map entry_with_empty_label entries)
map-cons_option None entries = refl
map-cons_option (Some entry) entries = refl

entries-none : (number : ℕ) (lines : List (List ℕ)) → AllByRecursion (HasNo tab) lines → entries_from line_reading label_content number lines ≡ map entry_with_empty_label (entries_from line_reading plain_content number lines)
entries-none number [] none = refl
entries-none number (line ∷ lines) none =
    ap (λ o. cons_option o (entries_from line_reading label_content (number + 1) lines)) (entry-none number line none.0)
    ∙ ap (cons_option (option_map entry_with_empty_label (entry_of_line line_reading plain_content number line))) (entries-none (number + 1) lines none.1)
    ∙ sym (map-cons_option (entry_of_line line_reading plain_content number line) (entries_from line_reading plain_content (number + 1) lines))

onto_first-none : (b : ℕ) (lines : List (List ℕ)) → b ≢ tab → AllByRecursion (HasNo tab) lines → AllByRecursion (HasNo tab) (onto_first b lines)
onto_first-none b [] other none = ((other, tt), tt)
onto_first-none b (line ∷ lines) other none = ((other, none.0), none.1)

lines-none : (bytes : List ℕ) → HasNo tab bytes → AllByRecursion (HasNo tab) (lines_of bytes)
lines-none [] none = tt
lines-none (b ∷ bytes) none =
    ⊎_elim
    (λ is. rw is.0 (tt, lines-none bytes none.1))
    (λ is. rw is.0 (onto_first-none b (lines_of bytes) none.0 (lines-none bytes none.1)))
    (eqb_tells b line_feed)

pub Label-without_tabs : ReadingsAreThese → (bytes : List ℕ) (entries : List PlainEntry) → HasNo tab bytes → Plain bytes entries → Label bytes (map entry_with_empty_label entries)
Label-without_tabs readings bytes entries none plain =
    let is : map entry_with_empty_label entries ≡ label_of bytes =
    ap (map entry_with_empty_label) (Entries-only GivesItself plain_content Tells-plain_content ReadsLine line_reading (TellsReadings-line readings) EndsInFeed lines_of TellsLines-lines_of bytes entries plain) ∙ sym (entries-none 1 (lines_of bytes) (lines-none bytes none)) in
    subst (Label bytes) (sym is) (Entries-are GivesLabel label_content Tells-label_content ReadsLine line_reading (TellsReadings-line readings) EndsInFeed lines_of TellsLines-lines_of bytes)
