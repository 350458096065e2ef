-- The lines that match a path, as they are found from the first one on.
use Rattle.std.proofs.Common.{◌≡◌, ℕ, ◌+◌, ◌<◌, ◌≤◌, true, false, List, [], ◌∷◌, ◌++◌, length, map, option_map, Option, None, Some, refl, sym, ap, subst, ◌∙◌, slice_index_or, arith}
use Rattle.std.specs.Prelude.{slice_get}
use Rattle.std.specs.List.{flat_map}
use Rattle.std.specs.Option.{option_and_then, option_map_or}
use Rattle.std.proofs.lemmas.Grind.{flat_map-append}
use Rattle.std.proofs.lemmas.List.{append-nil, length-map}
use Rattle.std.proofs.lemmas.Option.{slice_get-get_or, slice_get-map, slice_get_within}
use Rattle.glob_lists.specs.declared.rules.Rules.{Rules}
use Rattle.gix_glob.specs.Entries.{Entry}
use Rattle.gix_glob.specs.EntryLists.{EntryList}
use Rattle.gix_glob.specs.Stripping.{Rest}
use Rattle.glob_lists.specs.Deciding.{AnswersFor, AnswersUnder, PairAnswers}
use Rattle.glob_lists.specs.Matches.{AreMatches}
use Rattle.glob_lists.specs.Paths.{Path}
use Rattle.glob_lists.proofs.lemmas.Deciding.Answering.{AnswersAt-only, AnswersUnder-only, PairAnswers-only}
use Rattle.glob_lists.proofs.lemmas.Deciding.MatchesUpTo.{matches_all, matches_more, matches_of_list, matches_skip}
use Rattle.glob_attributes.specs.Borrowed.{assigned_by}
use Rattle.glob_attributes.specs.States.{Assigned, assigned_at}
use Rattle.gix_glob_c.specs.Attributes.{attribute_list, entry_of_line, lines_of}
use Rattle.gix_glob_c.specs.Lists.{names_folder}
use Rattle.gix_glob_c.specs.Private.Finding.{IsFoundUpTo, lines_at}
use Rattle.gix_glob_c.specs.Parsed.{entry_of_parts}
use Rattle.gix_glob_c.specs.declared.attribute_file.GlobAttributeLine.{GlobAttributeLine}
use Rattle.gix_glob_c.specs.declared.attributes.GlobAttributeList.{GlobAttributeList}

-- what the reading of a line and of a list takes where there is none
abbrev pub blank_line : GlobAttributeLine
blank_line = record {
  pattern = record { text = record { ref_ptr = (0, 0); now = [] }; first_wildcard_pos = 0; mode = record { bits = 0 }; reading = 0 };
  words = record { ref_ptr = (0, 0); now = [] };
}

abbrev pub blank_attributes : GlobAttributeList
blank_attributes = record { lines = record { ref_ptr = (0, 0); now = [] }; base = record { ref_ptr = (0, 0); now = [] } }

pub list_there : (lists : List GlobAttributeList) (i : ℕ) → i < length lists → slice_get (map attribute_list lists) i ≡ Some (attribute_list (slice_index_or lists i blank_attributes))
list_there lists i within = slice_get-map attribute_list lists i ∙ ap (option_map attribute_list) (slice_get-get_or lists i blank_attributes within)

-- a list of a folder has all its lines, and another one has none
lines_all : (list : GlobAttributeList) → names_folder list.base.now ≡ true → lines_of list ≡ list.lines.now
lines_all list folder = rw folder refl

lines_none : (list : GlobAttributeList) → names_folder list.base.now ≡ false → lines_of list ≡ []
lines_none list other = rw other refl

pub line_there : (list : GlobAttributeList) (m : ℕ) → names_folder list.base.now ≡ true → m < length list.lines.now
    → slice_get (map entry_of_line (lines_of list)) m ≡ Some (entry_of_line (slice_index_or list.lines.now m blank_line))
line_there list m folder within =
    subst (λ (ls : List GlobAttributeLine). slice_get (map entry_of_line ls) m ≡ Some (entry_of_line (slice_index_or list.lines.now m blank_line))) (sym (lines_all list folder))
    (slice_get-map entry_of_line list.lines.now m ∙ ap (option_map entry_of_line) (slice_get-get_or list.lines.now m blank_line within))

pub lines_at-is : (lists : List GlobAttributeList) (i : ℕ) → i < length lists → lines_at lists i ≡ length (slice_index_or lists i blank_attributes).lines.now
lines_at-is lists i within = ap (λ (o : Option GlobAttributeList). option_map_or (λ (list : GlobAttributeList). length list.lines.now) o 0) (slice_get-get_or lists i blank_attributes within)

abbrev Lists : Type 0
Lists = List (EntryList (List Assigned))

-- a pair of places more assigns what its entry does
one_more : (lists : Lists) (i m : ℕ) (list : EntryList (List Assigned)) (entry : Entry (List Assigned)) → slice_get lists i ≡ Some list → slice_get list.entries m ≡ Some entry
    → assigned_at lists (i, m) ≡ entry.value
one_more lists i m list entry there here =
    ap (λ (o : Option (EntryList (List Assigned))). option_map_or (λ (e : Entry (List Assigned)). e.value) (option_and_then (λ (l : EntryList (List Assigned)). slice_get l.entries m) o) []) there
    ∙ ap (λ (o : Option (Entry (List Assigned))). option_map_or (λ (e : Entry (List Assigned)). e.value) o []) here

module _ (lists : List GlobAttributeList) (path : Path) (rules : Rules) (i : ℕ) (list : GlobAttributeList) (there : slice_get (map attribute_list lists) i ≡ Some (attribute_list list)) where
  abbrev answers : ℕ → Type 0
  answers m = PairAnswers (map attribute_list lists) path.bytes path.is_dir rules i m

  -- the next list begins where no line of this one is left that matches
  pub found-list : (n : ℕ) (row : List Assigned) → ((m : ℕ) → answers m → m < n) → IsFoundUpTo lists path rules i n row → IsFoundUpTo lists path rules (i + 1) 0 row
  found-list n row most h = record { pairs = h.pairs; found = matches_of_list (map attribute_list lists) path.bytes path.is_dir rules i n h.pairs most h.found; same = h.same }

  answers-shown : (m : ℕ) → answers m → m < length (lines_of list)
  answers-shown m h =
      let at = PairAnswers-only (map attribute_list lists) path.bytes path.is_dir rules i m (attribute_list list) there h in
      let inside = slice_get_within (map entry_of_line (lines_of list)) m at.entry at.there in
      omega (arith, inside, length-map (lines_of list) entry_of_line)

  pub answers-within : names_folder list.base.now ≡ true → (m : ℕ) → answers m → m < length list.lines.now
  answers-within folder m h = subst (λ (ls : List GlobAttributeLine). m < length ls) (lines_all list folder) (answers-shown m h)

  pub answers-none : names_folder list.base.now ≡ false → (m : ℕ) → ¬ answers m
  answers-none other m h = let none = ap length (lines_none list other) in let inside = answers-shown m h in absurd (omega (arith, none, inside))

  module _ (m : ℕ) (line : GlobAttributeLine) (here : slice_get (map entry_of_line (lines_of list)) m ≡ Some (entry_of_line line)) where
    pub found-skip : (row : List Assigned) → ¬ answers m → IsFoundUpTo lists path rules i m row → IsFoundUpTo lists path rules i (m + 1) row
    found-skip row not h = record { pairs = h.pairs; found = matches_skip (map attribute_list lists) path.bytes path.is_dir rules i m h.pairs not h.found; same = h.same }

    pub found-more : (row : List Assigned) → answers m → IsFoundUpTo lists path rules i m row → IsFoundUpTo lists path rules i (m + 1) (row ++ assigned_by line.words.now)
    found-more row answered h = record {
      pairs = h.pairs ++ (i, m) ∷ [];
      found = matches_more (map attribute_list lists) path.bytes path.is_dir rules i m h.pairs answered h.found;
      same = ap (λ l. l ++ assigned_by line.words.now) h.same
          ∙ ap (λ l. flat_map (assigned_at (map attribute_list lists)) h.pairs ++ l) (sym (one_more (map attribute_list lists) i m (attribute_list list) (entry_of_line line) there here) ∙ sym (append-nil _))
          ∙ sym (flat_map-append (assigned_at (map attribute_list lists)) h.pairs ((i, m) ∷ []));
    }

    module _ (rest : List ℕ) (left : Rest rules.case list.base.now path.bytes rest) where
      pub answers-yes : AnswersUnder None (entry_of_parts line.pattern) rest path.is_dir rules → answers m
      answers-yes h = record {
        list = attribute_list list;
        there = there;
        answers = record {
          entry = entry_of_line line;
          there = here;
          answers = record { rest = rest; left = left; answers = subst (λ r. AnswersFor (entry_of_line line).text (entry_of_line line).mode r path.is_dir rules) h.left h.answers };
        };
      }

      pub answers-only : answers m → AnswersUnder None (entry_of_parts line.pattern) rest path.is_dir rules
      answers-only h =
          let at = PairAnswers-only (map attribute_list lists) path.bytes path.is_dir rules i m (attribute_list list) there h in
          let under = AnswersAt-only (attribute_list list) path.bytes path.is_dir rules m (entry_of_line line) here at in
          record { rest = rest; left = refl; answers = AnswersUnder-only (Some list.base.now) path.bytes path.is_dir rules (entry_of_line line) rest left under }

-- all lists were gone through
pub found-all : (lists : List GlobAttributeList) (path : Path) (rules : Rules) (i : ℕ) (row : List Assigned) → length (map attribute_list lists) ≤ i → IsFoundUpTo lists path rules i 0 row
    → (pairs : List (ℕ × ℕ)) × AreMatches (map attribute_list lists) path.bytes path.is_dir rules pairs × (row ≡ flat_map (assigned_at (map attribute_list lists)) pairs)
found-all lists path rules i row all h = (h.pairs, matches_all (map attribute_list lists) path.bytes path.is_dir rules i h.pairs all h.found, h.same)
