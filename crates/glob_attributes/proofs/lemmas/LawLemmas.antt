-- Laws of rows and of lines: how long a row gets, what names no attribute, and lines that are left out.
use Rattle.std.proofs.Common.{◌≡◌, inl, inr, ⊎_elim, ℕ, zero, suc, ◌+◌, ◌≤◌, Bool, true, false, not, ◌&&◌, List, [], ◌∷◌, ◌++◌, length, map, reverse, replicate, set, Option, None, Some, refl, sym, subst, ap, ◌∙◌, arith}
use Rattle.std.specs.Prelude.{if◌then◌else◌, slice_get}
use Rattle.std.specs.List.{AllByRecursion, cons_option, filter_map, find, list_any}
use Rattle.std.specs.Option.{option_map_or}
use Rattle.std.specs.Str.{bytes_eq}
use Rattle.std.proofs.lemmas.Bool.{cases_Bool}
use Rattle.std.proofs.lemmas.List.{reverse-append}
use Rattle.glob_attributes.specs.declared.assignment.State.TheVariants.{Unspecified}
use Rattle.glob_attributes.specs.Macros.{Definition, definition_given}
use Rattle.gix_glob.specs.Equations.Entries.{entry_with}
use Rattle.glob_lists.specs.declared.rules.Reading.{Reading}
use Rattle.glob_attributes.specs.Equations.Files.{AttributeEntry, entries_from, entry_given, pattern_of}
use Rattle.glob_attributes.specs.Laws.Leaving.{SaysNothing, unnumbered}
use Rattle.glob_attributes.specs.Laws.Totals.{NoMacroNames, NoneNames, macro_total}
use Rattle.glob_attributes.specs.Private.Filling.{AreMarked, assignments_at, is_set, last_place, unmarked}
use Rattle.glob_attributes.specs.Readings.{Gives, a_macro, a_pattern, line_gives, nothing, silent}
use Rattle.glob_attributes.specs.States.{Assigned, IsFilledIn, given_by, put_in, state_in}
use Rattle.glob_attributes.proofs.lemmas.FillingLemmas.{first_named, last_named, marked-more, marked-new, marked-none, marked-same, names, put_in-if, put_in-marked, put_in-none, put_in-set, put_in-unset, unmarked-less}
use Rattle.std.proofs.lemmas.List.{length-reverse}

-- ---- how long a row gets

-- after one assignment more, what it puts in counts no more
pub record Step (macros : List Definition) (before : List Assigned) (marks : List Bool) (a : Assigned) : Type 0 where
  pub new : List Bool
  pub marked : AreMarked macros (a ∷ before) new
  pub less : length (put_in macros before a) + unmarked macros new ≤ unmarked macros marks

module _ (macros : List Definition) (before : List Assigned) (marks : List Bool) (a : Assigned) (marked : AreMarked macros before marks) where
  step_fresh : (p : ℕ) → last_place a.name macros ≡ Some p → slice_get marks p ≡ Some false → (b : Bool) → is_set a.state ≡ b → Step macros before marks a
  step_fresh p is there true sets =
      let long = ap length (put_in-set macros before marks a p marked is there sets) in
      let same = length-reverse (assignments_at macros p) in
      let less = unmarked-less macros marks p there in
      record { new = set marks p true; marked = marked-more macros before marks a p marked is; less = omega (arith, long, same, less) }
  step_fresh p is there false unsets =
      let long = ap length (put_in-unset macros before a unsets) in
      let less = unmarked-less macros marks p there in
      record { new = set marks p true; marked = marked-more macros before marks a p marked is; less = omega (arith, long, less) }

  step_at : (p : ℕ) → last_place a.name macros ≡ Some p → (b : Bool) → slice_get marks p ≡ Some b → Step macros before marks a
  step_at p is true there =
      let long = ap length (put_in-marked macros before marks a p marked is there) in
      record { new = marks; marked = marked-same macros before marks a p marked is there; less = omega (arith, long) }
  step_at p is false there = step_fresh p is there (is_set a.state) refl

  pub step : (o : Option ℕ) → last_place a.name macros ≡ o → Step macros before marks a
  step None is =
      let long = ap length (put_in-none macros before a is) in
      record { new = marks; marked = marked-none macros before marks a marked is; less = omega (arith, long) }
  step (Some p) is = step_at p is (list_any (names a.name) before) (marked.each a.name p is)

pub length-put : (gave rest : List Assigned) → length (gave ++ rest) ≡ length gave + length rest
length-put [] rest = omega arith
length-put (a ∷ gave) rest = let more = length-put gave rest in omega (arith, more)

bounded : (macros : List Definition) (filled row before : List Assigned) (marks : List Bool) → AreMarked macros before marks → IsFilledIn macros before row filled
    → length filled ≤ length row + unmarked macros marks
bounded macros [] row before marks marked h = omega arith
bounded macros (a ∷ filled) row before marks marked h =
    let next = step macros before marks a marked (last_place a.name macros) refl in
    let more = bounded macros filled (put_in macros before a ++ h.0) (a ∷ before) next.new next.marked h.2 in
    let long = length-put (put_in macros before a) h.0 in
    let row_is = ap length h.1 in
    let less = next.less in
    omega (arith, more, long, row_is, less)

unmarked-new : (macros : List Definition) → unmarked macros (replicate (length macros) false) ≡ macro_total macros
unmarked-new [] = refl
unmarked-new (m ∷ macros) = ap (λ n. length m.assignments + n) (unmarked-new macros)

pub filled-bounded : (macros : List Definition) (row filled : List Assigned) → IsFilledIn macros [] row filled → length filled ≤ length row + macro_total macros
filled-bounded macros row filled h =
    let all = bounded macros filled row [] (replicate (length macros) false) (marked-new macros) h in
    let total = unmarked-new macros in
    omega (arith, all, total)

-- ---- a row is filled in

-- within so many steps: each takes one assignment of the row, and what a macro puts in is counted before
filled-within : (macros : List Definition) (n : ℕ) (row before : List Assigned) (marks : List Bool) → AreMarked macros before marks → length row + unmarked macros marks ≤ n
    → (filled : List Assigned) × IsFilledIn macros before row filled
filled-within macros n [] before marks marked small = ([], refl)
filled-within macros zero (a ∷ row) before marks marked small = absurd (omega (arith, small))
filled-within macros (suc n) (a ∷ row) before marks marked small =
    let next = step macros before marks a marked (last_place a.name macros) refl in
    let long = length-put (put_in macros before a) row in
    let less = next.less in
    let more = filled-within macros n (put_in macros before a ++ row) (a ∷ before) next.new next.marked (omega (arith, small, long, less)) in
    (a ∷ more.0, (row, refl, more.1))

pub filled-some : (macros : List Definition) (row : List Assigned) → (filled : List Assigned) × IsFilledIn macros [] row filled
filled-some macros row =
    let marks = replicate (length macros) false in
    filled-within macros (length row + unmarked macros marks) row [] marks (marked-new macros) (omega arith)

pub put-once : (macros : List Definition) (before : List Assigned) (assigned : Assigned) → list_any (λ (other : Assigned). bytes_eq other.name assigned.name) before ≡ true
    → put_in macros before assigned ≡ []
put-once macros before assigned decided = ap (λ b. if b then [] else given_by macros assigned.name assigned.state) decided

-- ---- what names no attribute

pub all-append : {X : Type 0} (P : X → Type 0) (xs ys : List X) → AllByRecursion P xs → AllByRecursion P ys → AllByRecursion P (xs ++ ys)
all-append P [] ys front back = back
all-append P (x ∷ xs) ys front back = (front.0, all-append P xs ys front.1 back)

pub all-reverse : {X : Type 0} (P : X → Type 0) (xs : List X) → AllByRecursion P xs → AllByRecursion P (reverse xs)
all-reverse P [] all = all
all-reverse P (x ∷ xs) all =
    subst (AllByRecursion P) (sym (reverse-append (x ∷ []) xs)) (all-append P (reverse xs) (x ∷ []) (all-reverse P xs all.1) (all.0, record {}))

-- what is found of elements that all meet a fact meets it
all-found : {X : Type 0} (P : X → Type 0) (test : X → Bool) (Q : Option X → Type 0) → Q None → ((x : X) → P x → Q (Some x)) → (xs : List X) → AllByRecursion P xs → Q (find test xs)
all-found P test Q none some [] all = none
all-found P test Q none some (x ∷ xs) all =
    ⊎_elim
    (λ yes. subst (λ b. Q (if b then Some x else find test xs)) (sym yes) (some x all.0))
    (λ no. subst (λ b. Q (if b then Some x else find test xs)) (sym no) (all-found P test Q none some xs all.1))
    (cases_Bool (test x))

module _ (name : List ℕ) (macros : List Definition) (unnamed : NoMacroNames name macros) where
  given_unnamed : (other : List ℕ) → NoneNames name (option_map_or (λ (macro : Definition). reverse macro.assignments) (last_named other macros) [])
  given_unnamed other =
      all-found (λ (macro : Definition). NoneNames name macro.assignments) (λ (macro : Definition). bytes_eq macro.name other)
      (λ o. NoneNames name (option_map_or (λ (macro : Definition). reverse macro.assignments) o []))
      (record {})
      (λ macro none. all-reverse (λ (assigned : Assigned). bytes_eq assigned.name name ≡ false) macro.assignments none)
      (reverse macros) (all-reverse (λ (macro : Definition). NoneNames name macro.assignments) macros unnamed)

  put_unnamed_if : (b : Bool) (other : List ℕ) → NoneNames name (if b then option_map_or (λ (macro : Definition). reverse macro.assignments) (last_named other macros) [] else [])
  put_unnamed_if true other = given_unnamed other
  put_unnamed_if false other = record {}

  put_unnamed : (before : List Assigned) (a : Assigned) → NoneNames name (put_in macros before a)
  put_unnamed before a =
      subst (NoneNames name) (sym (put_in-if macros before a)) (put_unnamed_if (is_set a.state && not (list_any (names a.name) before)) a.name)

  filled_unnamed : (filled row before : List Assigned) → IsFilledIn macros before row filled → NoneNames name row → NoneNames name filled
  filled_unnamed [] row before h none = record {}
  filled_unnamed (a ∷ filled) row before h none =
      let own = subst (NoneNames name) h.1 none in (
        own.0,
        filled_unnamed filled (put_in macros before a ++ h.0) (a ∷ before) h.2
            (all-append (λ (assigned : Assigned). bytes_eq assigned.name name ≡ false) (put_in macros before a) h.0 (put_unnamed before a) own.1),
      )

none_found : (name : List ℕ) (filled : List Assigned) → NoneNames name filled → first_named name filled ≡ None
none_found name [] none = refl
none_found name (a ∷ filled) none = ap (λ b. if b then Some a else first_named name filled) none.0 ∙ none_found name filled none.1

pub unnamed-unspecified : (macros : List Definition) (row filled : List Assigned) (name : List ℕ) → IsFilledIn macros [] row filled → NoneNames name row → NoMacroNames name macros → state_in filled name ≡ Unspecified
unnamed-unspecified macros row filled name h none unnamed =
    ap (λ o. option_map_or (λ (assigned : Assigned). assigned.state) o Unspecified) (none_found name filled (filled_unnamed name macros unnamed filled row [] h none))

-- ---- lines that are left out

renumbered_at : (reader : Reading) (n k : ℕ) (given : Gives) (more other : List AttributeEntry) → map unnumbered more ≡ map unnumbered other
    → map unnumbered (cons_option (entry_given reader n given) more) ≡ map unnumbered (cons_option (entry_given reader k given) other)
renumbered_at reader n k nothing more other same = same
renumbered_at reader n k (silent silence) more other same = same
renumbered_at reader n k (a_macro name assignments) more other same = same
renumbered_at reader n k (a_pattern bytes assignments) more other same = ap (λ l. unnumbered (entry_with assignments n (pattern_of reader bytes)) ∷ l) same

renumbered : (reader : Reading) (n k : ℕ) (lines : List (List ℕ)) → map unnumbered (entries_from reader n lines) ≡ map unnumbered (entries_from reader k lines)
renumbered reader n k [] = refl
renumbered reader n k (line ∷ lines) =
    renumbered_at reader n k (line_gives true line) (entries_from reader (n + 1) lines) (entries_from reader (k + 1) lines) (renumbered reader (n + 1) (k + 1) lines)

no_entry : (reader : Reading) (n : ℕ) (line : List ℕ) → SaysNothing line → entry_given reader n (line_gives true line) ≡ None
no_entry reader n line (inl is) = ap (entry_given reader n) is
no_entry reader n line (inr is) = ap (entry_given reader n) is.1

no_macro : (line : List ℕ) → SaysNothing line → definition_given (line_gives true line) ≡ None
no_macro line (inl is) = ap definition_given is
no_macro line (inr is) = ap definition_given is.1

pub entries-left_out : (reader : Reading) (front rest : List (List ℕ)) (line : List ℕ) (n k : ℕ) → SaysNothing line
    → map unnumbered (entries_from reader n (front ++ line ∷ rest)) ≡ map unnumbered (entries_from reader k (front ++ rest))
entries-left_out reader [] rest line n k says =
    ap (λ o. map unnumbered (cons_option o (entries_from reader (n + 1) rest))) (no_entry reader n line says) ∙ renumbered reader (n + 1) k rest
entries-left_out reader (first ∷ front) rest line n k says =
    renumbered_at reader n k (line_gives true first) (entries_from reader (n + 1) (front ++ line ∷ rest)) (entries_from reader (k + 1) (front ++ rest)) (entries-left_out reader front rest line (n + 1) (k + 1) says)

pub macros-left_out : (front rest : List (List ℕ)) (line : List ℕ) → SaysNothing line
    → filter_map (λ l. definition_given (line_gives true l)) (front ++ line ∷ rest) ≡ filter_map (λ l. definition_given (line_gives true l)) (front ++ rest)
macros-left_out [] rest line says =
    ap (λ o. cons_option o (filter_map (λ l. definition_given (line_gives true l)) rest)) (no_macro line says)
macros-left_out (first ∷ front) rest line says =
    ap (λ l. cons_option (definition_given (line_gives true first)) l) (macros-left_out front rest line says)
