-- What is left to tell, in texts of words; and that every row can be filled in.
use Rattle.std.proofs.Common.{◌≡◌, ⊎_elim, ℕ, zero, suc, ◌+◌, ◌<◌, ◌≤◌, Bool, true, false, List, [], ◌∷◌, ◌++◌, length, map, reverse, replicate, take, set, get_or, option_map, slice_index_or, Option, Some, refl, sym, ap, subst, ◌∙◌, append_assoc, arith}
use Rattle.std.specs.Prelude.{◌||◌, slice_get}
use Rattle.std.specs.Borrow.{Bor}
use Rattle.std.specs.List.{flat_map, list_any}
use Rattle.std.specs.Option.{option_map_or}
use Rattle.std.specs.Str.{bytes_eq}
use Rattle.std.proofs.lemmas.Bool.{cases_Bool}
use Rattle.std.proofs.lemmas.Grind.{flat_map-append}
use Rattle.std.proofs.lemmas.List.{append-nil, map_push, reverse-append, take_more, take_more_set}
use Rattle.std.proofs.lemmas.Option.{none-some, same_Some, slice_get-get_or, slice_get-map}
use Rattle.glob_attributes.specs.declared.assignment.Assignment.{Assignment}
use Rattle.glob_attributes.specs.declared.assignment.State.{State}
use Rattle.glob_attributes.specs.declared.assignment.State.TheVariants.{Unspecified}
use Rattle.glob_attributes.specs.declared.borrowed.telling.Text.{Text}
use Rattle.glob_attributes.specs.declared.borrowed.telling.TextMacro.{TextMacro}
use Rattle.glob_attributes.specs.Assignments.{assignment_of}
use Rattle.glob_attributes.specs.Views.{assignment_with}
use Rattle.glob_attributes.specs.Borrowed.{assigned_by, definition_of, row_of}
use Rattle.glob_attributes.specs.Macros.{Definition}
use Rattle.glob_attributes.specs.Private.Filling.{AreMarked, assignments_at, last_place, unmarked}
use Rattle.glob_attributes.specs.Private.Telling.{unmarked_count}
use Rattle.glob_attributes.specs.States.{Assigned, IsFilledIn, put_in, state_in}
use Rattle.glob_attributes.specs.Words.{words_of}
use Rattle.glob_attributes.proofs.lemmas.FillingLemmas.{filled-more, marked-new, state_in-first}
use Rattle.glob_attributes.proofs.lemmas.LawLemmas.{length-put, step}

-- what is seen of an assignment whose bytes are borrowed
abbrev pub seen : Assignment (Bor (List ℕ)) → Assigned
seen assignment = assignment_with (λ bytes. bytes.now) assignment

-- ---- rows of texts

abbrev assigned : Text → List Assigned
assigned text = assigned_by text.bytes.now

-- what the reading of a text takes where there is none
abbrev pub blank_text : Text
blank_text = record { bytes = record { ref_ptr = (0, 0); now = [] } }

row_of-one : (front : List Text) (text : Text) → flat_map assigned (front ++ text ∷ []) ≡ flat_map assigned front ++ assigned text
row_of-one front text = flat_map-append assigned front (text ∷ []) ∙ ap (λ l. flat_map assigned front ++ l) (append-nil (assigned text))

pub row_of-more : (texts : List Text) (n : ℕ) → n < length texts → row_of texts (n + 1) ≡ row_of texts n ++ assigned (get_or texts n blank_text)
row_of-more texts n within = ap (flat_map assigned) (take_more texts n blank_text within) ∙ row_of-one (take n texts) (get_or texts n blank_text)

pub row_of-set : (texts : List Text) (n : ℕ) (text : Text) → n < length texts → row_of (set texts n text) (n + 1) ≡ row_of texts n ++ assigned text
row_of-set texts n text within = ap (flat_map assigned) (take_more_set texts n text within) ∙ row_of-one (take n texts) text

-- the last word of the last text is taken
pub row_of-taken : (texts : List Text) (n : ℕ) (text : Text) (word : List ℕ) → n < length texts
    → words_of (get_or texts n blank_text).bytes.now ≡ words_of text.bytes.now ++ word ∷ []
    → reverse (row_of texts (n + 1)) ≡ assignment_of word ∷ reverse (row_of (set texts n text) (n + 1))
row_of-taken texts n text word within parted =
    let grown : row_of texts (n + 1) ≡ row_of (set texts n text) (n + 1) ++ assignment_of word ∷ [] =
    row_of-more texts n within
    ∙ ap (λ (ws : List (List ℕ)). row_of texts n ++ map assignment_of ws) parted
    ∙ ap (λ (l : List Assigned). row_of texts n ++ l) (map_push assignment_of (words_of text.bytes.now) word)
    ∙ sym (append_assoc (row_of texts n) (assigned text) (assignment_of word ∷ []))
    ∙ ap (λ (l : List Assigned). l ++ assignment_of word ∷ []) (sym (row_of-set texts n text within)) in
    ap reverse grown ∙ reverse-append (row_of (set texts n text) (n + 1)) (assignment_of word ∷ [])

pub row_of-taken_at : (texts : List Text) (left n : ℕ) (text : Text) (word : List ℕ) (a : Assigned) → left ≡ n + 1 → n < length texts
    → words_of (get_or texts n blank_text).bytes.now ≡ words_of text.bytes.now ++ word ∷ [] → a ≡ assignment_of word
    → reverse (row_of texts left) ≡ a ∷ reverse (row_of (set texts n text) left)
row_of-taken_at texts left n text word a next within parted is =
    subst (λ k. reverse (row_of texts k) ≡ a ∷ reverse (row_of (set texts n text) k)) (sym next)
    (row_of-taken texts n text word within parted ∙ ap (λ x. x ∷ reverse (row_of (set texts n text) (n + 1))) (sym is))

-- ---- macros

abbrev pub blank_macro : TextMacro
blank_macro = record { name = record { ref_ptr = (0, 0); now = [] }; words = record { ref_ptr = (0, 0); now = [] } }

pub macro_there : (macros : List TextMacro) (p : ℕ) → p < length macros → slice_get (map definition_of macros) p ≡ Some (definition_of (slice_index_or macros p blank_macro))
macro_there macros p within = slice_get-map definition_of macros p ∙ ap (option_map definition_of) (slice_get-get_or macros p blank_macro within)

pub assignments_there : (macros : List TextMacro) (p : ℕ) → p < length macros → assigned_by (slice_index_or macros p blank_macro).words.now ≡ assignments_at (map definition_of macros) p
assignments_there macros p within = sym (ap (λ (o : Option Definition). option_map_or (λ (m : Definition). m.assignments) o []) (macro_there macros p within))

-- ---- marks

pub unmarked_count-less : (marks : List Bool) (p : ℕ) → slice_get marks p ≡ Some false → 1 + unmarked_count (set marks p true) ≤ unmarked_count marks
unmarked_count-less [] p there = absurd (none-some false there)
unmarked_count-less (b ∷ marks) zero there =
    let is : b ≡ false = same_Some b false there in
    rw is (omega arith)
unmarked_count-less (b ∷ marks) (suc p) there = omega (arith, unmarked_count-less marks p there)

pub unmarked_count-new : (n : ℕ) → unmarked_count (replicate n false) ≡ n
unmarked_count-new zero = refl
unmarked_count-new (suc n) = let more = unmarked_count-new n in omega (arith, more)

-- ---- every row can be filled in

-- what is told so far, the last first: it doesn't name the attribute, the marks tell whose names it has, and what fills in what is left behind
-- it fills in the row
pub record IsToldUpTo (macros : List Definition) (row : List Assigned) (marks : List Bool) (left : List Assigned) (name : List ℕ) : Type 0 where
  pub told : List Assigned
  pub marked : AreMarked macros (reverse told) marks
  pub other : list_any (λ assigned. bytes_eq assigned.name name) told ≡ false
  pub filled_in : (more : List Assigned) → IsFilledIn macros (reverse told) left more → IsFilledIn macros [] row (told ++ more)

filled_exists : (macros : List Definition) (n : ℕ) (before row : List Assigned) (marks : List Bool) → AreMarked macros before marks → length row + unmarked macros marks ≤ n
    → (filled : List Assigned) × IsFilledIn macros before row filled
filled_exists macros n before [] marks marked fits = ([], refl)
filled_exists macros zero before (a ∷ rest) marks marked fits = absurd (omega (arith, fits))
filled_exists macros (suc n) before (a ∷ rest) marks marked fits =
    let next = step macros before marks a marked (last_place a.name macros) refl in
    let less = next.less in
    let long = length-put (put_in macros before a) rest in
    let more = filled_exists macros n (a ∷ before) (put_in macros before a ++ rest) next.new next.marked (omega (arith, fits, less, long)) in
    (a ∷ more.0, (rest, refl, more.1))

-- what doesn't name an attribute may be left out in front
state_in-behind_more : (x : Assigned) (front more : List Assigned) (name : List ℕ) (b : Bool) → bytes_eq x.name name ≡ b
    → (b || list_any (λ assigned. bytes_eq assigned.name name) front) ≡ false
    → (list_any (λ assigned. bytes_eq assigned.name name) front ≡ false → state_in (front ++ more) name ≡ state_in more name)
    → state_in (x ∷ (front ++ more)) name ≡ state_in more name
state_in-behind_more x front more name true is none next = absurd (let no : true ≡ false = none in cc)
state_in-behind_more x front more name false is none next = state_in-first x (front ++ more) name false is ∙ next none

state_in-behind : (front more : List Assigned) (name : List ℕ) → list_any (λ assigned. bytes_eq assigned.name name) front ≡ false → state_in (front ++ more) name ≡ state_in more name
state_in-behind [] more name none = refl
state_in-behind (x ∷ front) more name none = state_in-behind_more x front more name (bytes_eq x.name name) refl none (state_in-behind front more name)

none_names-more : (front : List Assigned) (a : Assigned) (name : List ℕ) → list_any (λ assigned. bytes_eq assigned.name name) front ≡ false → bytes_eq a.name name ≡ false
    → list_any (λ assigned. bytes_eq assigned.name name) (front ++ a ∷ []) ≡ false
none_names-more [] a name none other = ap (λ b. b || false) other
none_names-more (x ∷ front) a name none other =
    ⊎_elim
    (λ (yes : bytes_eq x.name name ≡ true).
    let no : true ≡ false = sym (ap (λ b. b || list_any (λ (assigned : Assigned). bytes_eq assigned.name name) front) yes) ∙ none in absurd (cc))
    (λ (no : bytes_eq x.name name ≡ false).
    let rest = sym (ap (λ b. b || list_any (λ (assigned : Assigned). bytes_eq assigned.name name) front) no) ∙ none in
    ap (λ b. b || list_any (λ (assigned : Assigned). bytes_eq assigned.name name) (front ++ a ∷ [])) no ∙ none_names-more front a name rest other)
    (cases_Bool (bytes_eq x.name name))

-- the state of the attribute, and all that is assigned
pub record IsToldIn (macros : List Definition) (row : List Assigned) (name : List ℕ) (state : State (List ℕ)) : Type 0 where
  pub filled : List Assigned
  pub filled_in : IsFilledIn macros [] row filled
  pub decides : state ≡ state_in filled name

module _ (macros : List Definition) (row : List Assigned) (marks : List Bool) (left : List Assigned) (name : List ℕ) (h : IsToldUpTo macros row marks left name) where
  -- the next one names the attribute
  pub told-found : (a : Assigned) (rest : List Assigned) → left ≡ a ∷ rest → bytes_eq a.name name ≡ true → IsToldIn macros row name a.state
  told-found a rest is named =
      let next = step macros (reverse h.told) marks a h.marked (last_place a.name macros) refl in
      let gave = put_in macros (reverse h.told) a ++ rest in
      let more = filled_exists macros (length gave + unmarked macros next.new) (a ∷ reverse h.told) gave next.new next.marked (omega arith) in record {
        filled = h.told ++ a ∷ more.0;
        filled_in = h.filled_in (a ∷ more.0) (rest, is, more.1);
        decides = sym (state_in-behind h.told (a ∷ more.0) name h.other ∙ state_in-first a more.0 name true named);
      }

  -- nothing is left
  pub told-end : left ≡ [] → IsToldIn macros row name Unspecified
  told-end none = record {
    filled = h.told ++ [];
    filled_in = h.filled_in [] none;
    decides = sym (state_in-behind h.told [] name h.other);
  }

  -- the next one names another attribute
  pub told-more : (a : Assigned) (rest gave new_left : List Assigned) (new_marks : List Bool) → left ≡ a ∷ rest → bytes_eq a.name name ≡ false
      → gave ≡ put_in macros (reverse h.told) a → new_left ≡ gave ++ rest → AreMarked macros (a ∷ reverse h.told) new_marks → IsToldUpTo macros row new_marks new_left name
  told-more a rest gave new_left new_marks is other put added marked = record {
    told = h.told ++ a ∷ [];
    marked = subst (λ before. AreMarked macros before new_marks) (sym (reverse-append h.told (a ∷ []))) marked;
    other = none_names-more h.told a name h.other other;
    filled_in = filled-more macros row rest h.told (h.told ++ a ∷ []) left new_left a gave refl is added put h.filled_in;
  }

-- nothing is told yet
pub told-new : (macros : List Definition) (row left : List Assigned) (marks : List Bool) (name : List ℕ) → marks ≡ replicate (length macros) false → left ≡ row
    → IsToldUpTo macros row marks left name
told-new macros row left marks name is same = record {
  told = [];
  marked = subst (AreMarked macros []) (sym is) (marked-new macros);
  other = refl;
  filled_in = subst (λ l. (more : List Assigned) → IsFilledIn macros [] l more → IsFilledIn macros [] row more) (sym same) (λ more h. h);
}
