-- The pattern that decides about a path, by the kind of what stands there.
use Rattle.std.proofs.Common.{◌≡◌, ◌↔◌, inl, inr, ⊎_elim, ℕ, Bool, true, false, List, map, Option, None, Some, IfSome, IfOk, IsTrue, Result, take, refl, sym, ap, subst, ◌∙◌}
use Rattle.std.specs.Prelude.{slice_get}
use Rattle.std.proofs.lemmas.Bool.{cases_Bool, false≢true}
use Rattle.std.proofs.lemmas.Option.{same_Some}
use Rattle.std.proofs.lemmas.Result.{IfOk-weaker}
use Rattle.gix_glob.specs.declared.search.pattern.list.List as patterns
use Rattle.gix_glob.specs.declared.search.pattern.mapping.Mapping.{Mapping}
use Rattle.gix_glob.specs.Entries.{Entry, entry_of}
use Rattle.gix_glob.specs.EntryLists.{EntryList, entry_list_of}
use Rattle.gix_glob.specs.PatternParts.{mode_of}
use Rattle.gix_glob.specs.Patterns.{is_for_directories}
use Rattle.glob_lists.specs.declared.rules.Reading.{Reading}
use Rattle.glob_lists.specs.declared.rules.Reading.TheVariants.{Crate, Git}
use Rattle.glob_lists.specs.declared.rules.Rules.{Rules}
use Rattle.glob_lists.specs.Rules.{AnswersAs}
use Rattle.gix_glob.specs.declared.pattern.Case.{Case}
use Rattle.gix_glob.specs.declared.pattern.Mode as pattern
use Rattle.glob_attributes.proofs.lemmas.RowLemmas.{get-map, get-unmap}
use Rattle.glob_lists.proofs.lemmas.Deciding.DecidingLemmas.{Decides-inside}
use Rattle.glob_lists.specs.Deciding.{HasEntryAt, IsEntryAt, PairAnswers}
use Rattle.glob_trees.proofs.lemmas.AnyKind.{file_as_folder, no_file_as_no_folder}
use Rattle.glob_trees.specs.TreeParts.{HasMappingAt, StandAt, TreeParts}
use Rattle.glob_trees.specs.Trees.{DecidesInTree}
use Rattle.glob_trees.specs.Ways.{AreOnTheWay, Folder}
use Rattle.tree_commands.specs.CheckIgnore.{IsLineAt}
use Rattle.tree_commands.specs.Tops.{DecidesForTop}
use Rattle.tree_commands.specs.Private.Finding.{IsFound, IsFoundAs, KeepsTree, WantsFolder, line_of, lists_of}

-- a pattern for folders alone answers for a folder
pub directory_as : (text : List ℕ) (mode : pattern.Mode) (path : List ℕ) (start : Option ℕ) (is_dir : Bool) (case : Case) (reading : Reading) → AnswersAs reading text mode path start is_dir case
    → is_for_directories mode ≡ true → Some is_dir ≡ Some true
directory_as text mode path start is_dir case Crate h only = h.directory only
directory_as text mode path start is_dir case Git h only = h.directory only

-- a kind that agrees with what is known
pub some_kind : (known : Option Bool) → (is_dir : Bool) × IfSome known (λ is_folder. is_dir ≡ is_folder)
some_kind None = (true, tt)
some_kind (Some is_folder) = (is_folder, refl)

-- an entry stands where a pattern decides
decides_inside : (lists : List (EntryList (Unit {0}))) (path : List ℕ) (is_dir : Bool) (rules : Rules) (pair : ℕ × ℕ) → DecidesInTree lists path is_dir rules (Some pair) → HasEntryAt lists pair
decides_inside lists path is_dir rules pair (inl (by, below, same)) =
    let here : pair ≡ by = same_Some pair by same in
    subst (HasEntryAt lists) (sym here) (Decides-inside lists below.folder true rules (Some by) below.ignored.0)
decides_inside lists path is_dir rules pair (inr (none, decides)) = Decides-inside lists path is_dir rules (Some pair) decides

module _ {T X : Type 0} (lists : List (patterns.List T X)) where
  seen : List (EntryList (Unit {0}))
  seen = map (entry_list_of {V = Unit {0}} (λ _. tt)) lists

  -- a mapping of the lists, and its entry
  pub record Stands (pair : ℕ × ℕ) : Type 0 where
    pub list : patterns.List T X
    pub mapping : Mapping X
    pub stand : StandAt lists pair list mapping

  entry_stands : (pair : ℕ × ℕ) → HasEntryAt seen pair → Stands pair
  unfolding seen
  entry_stands pair (entry, at) =
      let one = get-unmap (entry_list_of {V = Unit {0}} (λ _. tt)) lists pair.0 at.list at.of_lists in
      let there : slice_get (map (entry_of {V = Unit {0}} (λ _. tt)) one.0.patterns.items) pair.1 ≡ Some entry = subst (λ (l : EntryList (Unit {0})). slice_get l.entries pair.1 ≡ Some entry) one.2 at.of_list in
      let two = get-unmap (entry_of {V = Unit {0}} (λ _. tt)) one.0.patterns.items pair.1 entry there in
      record { list = one.0; mapping = two.0; stand = record { of_lists = one.1; of_list = two.1 } }

  -- the entry of a mapping
  abbrev pub entry_at : (pair : ℕ × ℕ) (s : Stands pair) → IsEntryAt (map (entry_list_of {V = Unit {0}} (λ _. tt)) lists) pair (entry_of {V = Unit {0}} (λ _. tt) s.mapping)
  entry_at pair s = record {
    list = entry_list_of {V = Unit {0}} (λ _. tt) s.list;
    of_lists = get-map (entry_list_of {V = Unit {0}} (λ _. tt)) lists pair.0 s.list s.stand.of_lists;
    of_list = get-map (entry_of {V = Unit {0}} (λ _. tt)) s.list.patterns.items pair.1 s.mapping s.stand.of_list;
  }

  -- no two entries stand at a pair of places
  same_entry : (pair : ℕ × ℕ) (s : Stands pair) (entry : Entry (Unit {0})) → IsEntryAt (map (entry_list_of {V = Unit {0}} (λ _. tt)) lists) pair entry → entry ≡ entry_of {V = Unit {0}} (λ _. tt) s.mapping
  same_entry pair s entry at =
      let own = entry_at pair s in
      let same_list : at.list ≡ own.list = same_Some at.list own.list (sym at.of_lists ∙ own.of_lists) in
      let there : slice_get at.list.entries pair.1 ≡ Some (entry_of {V = Unit {0}} (λ _. tt) s.mapping) = subst (λ (l : EntryList (Unit {0})). slice_get l.entries pair.1 ≡ Some (entry_of {V = Unit {0}} (λ _. tt) s.mapping)) (sym same_list) own.of_list in
      same_Some entry (entry_of {V = Unit {0}} (λ _. tt) s.mapping) (sym at.of_list ∙ there)

  -- the line of what stands at a pair of places
  pub line_stands : (pair : Option (ℕ × ℕ)) (at : ℕ × ℕ) (list : patterns.List T X) (mapping : Mapping X) → pair ≡ Some at → StandAt lists at list mapping
      → IsLineAt (map (entry_list_of {V = Unit {0}} (λ _. tt)) lists) pair (Some (line_of (entry_list_of {V = Unit {0}} (λ _. tt) list) (entry_of {V = Unit {0}} (λ _. tt) mapping)))
  line_stands pair at list mapping same stand =
      let own = entry_at at (record { list = list; mapping = mapping; stand = stand }) in
      subst (λ (p : Option (ℕ × ℕ)). IsLineAt (map (entry_list_of {V = Unit {0}} (λ _. tt)) lists) p (Some (line_of (entry_list_of {V = Unit {0}} (λ _. tt) list) (entry_of {V = Unit {0}} (λ _. tt) mapping)))) (sym same)
      (own.list, entry_of {V = Unit {0}} (λ _. tt) mapping, own.of_lists, own.of_list, refl)

  -- so it does where one decides about the top
  pub stands_for_top : (rules : Rules) (pair : ℕ × ℕ) → DecidesForTop (map (entry_list_of {V = Unit {0}} (λ _. tt)) lists) rules (Some pair) → Stands pair
  unfolding seen
  stands_for_top rules pair decided =
      let answers = decided.answers in
      let at = answers.answers.answers in
      entry_stands pair (at.entry, record { list = answers.list; of_lists = answers.there; of_list = at.there })

  module _ (path : List ℕ) (rules : Rules) where
    pub stands_there : (is_dir : Bool) (pair : ℕ × ℕ) → DecidesInTree (map (entry_list_of {V = Unit {0}} (λ _. tt)) lists) path is_dir rules (Some pair) → Stands pair
    unfolding seen
    stands_there is_dir pair decided = entry_stands pair (decides_inside (map (entry_list_of {V = Unit {0}} (λ _. tt)) lists) path is_dir rules pair decided)

    -- a pattern that isn't for folders alone decides whatever stands there
    as_any : (pair : ℕ × ℕ) (is_dir : Bool) → ¬ WantsFolder lists (Some pair) → DecidesInTree (map (entry_list_of {V = Unit {0}} (λ _. tt)) lists) path true rules (Some pair)
        → DecidesInTree (map (entry_list_of {V = Unit {0}} (λ _. tt)) lists) path is_dir rules (Some pair)
    as_any pair true unwanted decided = decided
    as_any pair false unwanted decided =
        let s = stands_there true pair decided in
        ⊎_elim
        (λ (yes : is_for_directories (mode_of s.mapping.pattern) ≡ true). absurd (unwanted (pair, s.list, s.mapping, refl, s.stand, yes)))
        (λ (no : is_for_directories (mode_of s.mapping.pattern) ≡ false).
        file_as_folder (map (entry_list_of {V = Unit {0}} (λ _. tt)) lists) path rules pair (entry_of {V = Unit {0}} (λ _. tt) s.mapping) (entry_at pair s) no decided)
        (cases_Bool (is_for_directories (mode_of s.mapping.pattern)))

    pub any_kind : (pair : Option (ℕ × ℕ)) (is_dir : Bool) → ¬ WantsFolder lists pair → DecidesInTree (map (entry_list_of {V = Unit {0}} (λ _. tt)) lists) path true rules pair
        → DecidesInTree (map (entry_list_of {V = Unit {0}} (λ _. tt)) lists) path is_dir rules pair
    any_kind None true unwanted decided = decided
    any_kind None false unwanted decided = no_file_as_no_folder (map (entry_list_of {V = Unit {0}} (λ _. tt)) lists) path rules decided
    any_kind (Some pair) is_dir unwanted decided = as_any pair is_dir unwanted decided

    -- a pattern that is for folders alone doesn't answer for a file
    no_answer : (pair : ℕ × ℕ) (s : Stands pair) → is_for_directories (mode_of s.mapping.pattern) ≡ true → ¬ PairAnswers (map (entry_list_of {V = Unit {0}} (λ _. tt)) lists) path false rules pair.0 pair.1
    no_answer pair s only h =
        let same = same_entry pair s h.answers.entry (record { list = h.list; of_lists = h.there; of_list = h.answers.there }) in
        let wants : is_for_directories h.answers.entry.mode ≡ true = ap (λ (e : Entry (Unit {0})). is_for_directories e.mode) same ∙ only in
        let asked = h.answers.answers.answers in
        let dir : Some false ≡ Some true = directory_as h.answers.entry.text h.answers.entry.mode h.answers.answers.rest asked.basename_start false rules.case rules.reading asked.answers wants in
        false≢true (same_Some false true dir)

    -- where one decides about a file, a folder above it is ignored, and so it decides whatever stands there
    pub whatever_stands : (pair : Option (ℕ × ℕ)) (is_dir : Bool) → WantsFolder lists pair → DecidesInTree (map (entry_list_of {V = Unit {0}} (λ _. tt)) lists) path false rules pair
        → DecidesInTree (map (entry_list_of {V = Unit {0}} (λ _. tt)) lists) path is_dir rules pair
    whatever_stands pair is_dir wanted (inl below) = inl below
    whatever_stands None is_dir (at, list, mapping, same, stand, only) (inr (none, decides)) = absurd (cc)
    whatever_stands (Some pair) is_dir (at, list, mapping, same, stand, only) (inr (none, decides)) =
        let here : pair ≡ at = same_Some pair at same in
        let s : Stands pair = record { list = list; mapping = mapping; stand = subst (λ (p : ℕ × ℕ). StandAt lists p list mapping) (sym here) stand } in
        absurd (no_answer pair s only decides.answers)

  -- ---- what is for folders alone

  pub wanted_here : (pair : Option (ℕ × ℕ)) (at : ℕ × ℕ) (list : patterns.List T X) (mapping : Mapping X) (wants : Bool) → pair ≡ Some at → StandAt lists at list mapping
      → wants ≡ is_for_directories (mode_of mapping.pattern) → IsTrue wants ↔ WantsFolder lists pair
  wanted_here pair at list mapping wants same stand is = (
    (λ (yes : IsTrue wants). (at, list, mapping, same, stand, sym is ∙ yes)),
    (λ (wanted : WantsFolder lists pair).
        let here : wanted.0 ≡ at = same_Some wanted.0 at (sym wanted.3 ∙ same) in
        let there : StandAt lists at wanted.1 wanted.2 = subst (λ (p : ℕ × ℕ). StandAt lists p wanted.1 wanted.2) here wanted.4 in
        let same_list : wanted.1 ≡ list = same_Some wanted.1 list (sym there.of_lists ∙ stand.of_lists) in
        let held : slice_get wanted.1.patterns.items at.1 ≡ Some mapping = subst (λ (l : patterns.List T X). slice_get l.patterns.items at.1 ≡ Some mapping) (sym same_list) stand.of_list in
        let same_mapping : wanted.2 ≡ mapping = same_Some wanted.2 mapping (sym there.of_list ∙ held) in
        is ∙ (ap (λ (m : Mapping X). is_for_directories (mode_of m.pattern)) (sym same_mapping) ∙ wanted.5)),
  )

  pub unwanted_nowhere : (pair : Option (ℕ × ℕ)) (at : ℕ × ℕ) → pair ≡ Some at → ¬ HasMappingAt lists at → ¬ WantsFolder lists pair
  unwanted_nowhere pair at same none wanted =
      let here : wanted.0 ≡ at = same_Some wanted.0 at (sym wanted.3 ∙ same) in
      none (wanted.1, wanted.2, subst (λ (p : ℕ × ℕ). StandAt lists p wanted.1 wanted.2) here wanted.4)

-- ---- what is found

module _ {S T X : Type 0} (shows : S → Folder → EntryList (Unit {0}) → Type 0) where
  module _ (tree : TreeParts S T X) (path : List ℕ) (known : Option Bool) (pair : Option (ℕ × ℕ)) where
    -- what decides whatever stands there is found, whatever is known
    found_any : AreOnTheWay (shows tree.source) tree.front_count (lists_of tree) tree.rules path → ((is_dir : Bool) → DecidesInTree (lists_of tree) path is_dir tree.rules pair) → IsFound shows tree path known pair
    found_any on_way decides =
        let kind = some_kind known in
        (kind.0, kind.1, record { on_way = on_way; decides = decides kind.0 })

    pub found_without : IsFoundAs shows tree path true pair → ¬ WantsFolder tree.lists pair → IsFound shows tree path known pair
    found_without found unwanted = found_any found.on_way (λ is_dir. any_kind tree.lists path tree.rules pair is_dir unwanted found.decides)

    pub found_with : IsFoundAs shows tree path false pair → WantsFolder tree.lists pair → IsFound shows tree path known pair
    found_with found wanted = found_any found.on_way (λ is_dir. whatever_stands tree.lists path tree.rules pair is_dir wanted found.decides)

    pub found_as : (is_dir : Bool) → IfSome known (λ is_folder. is_dir ≡ is_folder) → IsFoundAs shows tree path is_dir pair → IsFound shows tree path known pair
    found_as is_dir kind found = (is_dir, kind, found)

  pub if_found_as : {E : Type 0} (tree : TreeParts S T X) (path : List ℕ) (known : Option Bool) (is_dir : Bool) → IfSome known (λ is_folder. is_dir ≡ is_folder) → (result : Result (Option (ℕ × ℕ)) E)
      → IfOk result (IsFoundAs shows tree path is_dir) → IfOk result (IsFound shows tree path known)
  if_found_as tree path known is_dir kind result found = IfOk-weaker result (IsFoundAs shows tree path is_dir) (IsFound shows tree path known) (λ pair here. found_as tree path known pair is_dir kind here) found

  pub keeps_on : (first next last : TreeParts S T X) → KeepsTree shows first next → KeepsTree shows next last → KeepsTree shows first last
  keeps_on first next last a b = record {
    front_count = b.front_count ∙ a.front_count;
    rules = b.rules ∙ a.rules;
    fronts = subst (λ n. take n last.lists ≡ take n next.lists) a.front_count b.fronts ∙ a.fronts;
    goes_on = λ folder list shown. b.goes_on folder list (a.goes_on folder list shown);
  }
