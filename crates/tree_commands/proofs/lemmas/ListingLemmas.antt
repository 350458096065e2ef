-- A listing under way: what was listed, and what is pending.
use Rattle.std.proofs.Common.{◌≡◌, ◌≢◌, ◌⊎◌, inl, inr, ⊎_elim, ℕ, ◌≤◌, true, List, [], ◌∷◌, ◌++◌, length, take, map, refl, sym, ap, subst, ◌∙◌, append_assoc, append-nil, length-append, arith}
use Rattle.std.specs.Prelude.{Bool}
use Rattle.std.specs.List.{AllByRecursion}
use Rattle.std.proofs.lemmas.List.{length-take-le, take-append-le, take-take, take_all}
use Rattle.gix_glob.specs.declared.pattern.Case.{Case}
use Rattle.gix_glob.specs.Bytes.{EndsInSlash, slash}
use Rattle.gix_glob.specs.EntryLists.{EntryList}
use Rattle.glob_trees.specs.Ways.{Folder, start_of, unless_empty}
use Rattle.tree_commands.specs.declared.files.choosing.Chosen.{Chosen}
use Rattle.tree_commands.specs.declared.files.choosing.Chosen.TheVariants.{Unignored}
use Rattle.tree_commands.specs.declared.files.pending.Pending.{Pending}
use Rattle.tree_commands.specs.FileTrees.{FileTree}
use Rattle.tree_commands.specs.Files.{Basis, ComesBefore, IsEntryOf, IsFound, IsMet, IsTold, Terms, is_folder, lies, lists_to}
use Rattle.tree_commands.specs.Ignoring.{IsIgnored}
use Rattle.tree_commands.specs.Private.Listing.{Among, AreAscending, AreDescending, EndsInName, Enters, FlagsFolder, IsLevel, LeadsOn, MayVisit, Stands, path_of, reads_list}
use Rattle.tree_commands.specs.Private.UnderWay.{Above, IsHalfway, IsStack, IsUnderWay, Precedes, count_of}
use Rattle.tree_commands.proofs.lemmas.AmongLemmas.{all_of, among_cases, among_contained, among_last, among_left, among_map, among_mapped, among_right, contains_among, of_all}
use Rattle.tree_commands.proofs.lemmas.LevelLemmas.{level_before, level_of_entry}
use Rattle.tree_commands.proofs.lemmas.ListsLemmas.{lists_in}
use Rattle.tree_commands.proofs.lemmas.MetLemmas.{IsEndOf, IsOpen, end_meets_itself, meets_entry}
use Rattle.tree_commands.proofs.lemmas.OrderLemmas.{IsMark, comes_before_below, comes_before_itself_more, comes_before_more}
use Rattle.tree_commands.proofs.lemmas.PathLemmas.{entry_unended, mark_of, may_visit_entry, name_is_some, one_mark, some_append, start_ends}
use Rattle.tree_commands.proofs.lemmas.StackLemmas.{stack_append, stack_front, stack_top}

-- ---- order

pub ascending_push : (paths : List (List ℕ)) (path : List ℕ) → AreAscending paths → ((one : List ℕ) → Among paths one → ComesBefore one path) → AreAscending (paths ++ path ∷ [])
ascending_push [] path ordered before = (tt, tt)
ascending_push (first ∷ paths) path ordered before = (
  all_of (ComesBefore first) (paths ++ path ∷ []) (λ other among. ⊎_elim
      (λ (one : Among paths other). of_all (ComesBefore first) paths ordered.0 other one)
      (λ (last : Among (path ∷ []) other). ⊎_elim (λ (is : path ≡ other). subst (ComesBefore first) is (before first (inl refl))) (λ (never : ⊥). absurd never) last)
      (among_cases paths (path ∷ []) other among)),
  ascending_push paths path ordered.1 (λ one among. before one (inr among)),
)

-- of two entries of a folder, the one that comes first does so with all that lies below it
entry_precedes : (case : Case) (start one other : List ℕ) → EndsInName case start one → EndsInName case start other → ComesBefore one other → Precedes one other
entry_precedes case start one other ends next before = record {
  here = before;
  below = λ folder rest is. ⊎_elim
      (λ (file : one ≡ start ++ ends.name).
      absurd (entry_unended case start ends.name ends.may (subst EndsInSlash (sym is ∙ file) (start_ends folder (λ none. some_append start ends.name (name_is_some case ends.name ends.may) (sym file ∙ is ∙ none))))))
      (λ (folder : one ≡ (start ++ ends.name) ++ slash ∷ []). ⊎_elim
      (λ (bare : other ≡ start ++ next.name).
      below_as rest [] folder (bare ∙ sym (append-nil (start ++ next.name))) (inl refl))
      (λ (marked : other ≡ (start ++ next.name) ++ slash ∷ []). below_as rest (slash ∷ []) folder marked (inr refl))
      next.joined)
      ends.joined;
}
  where
    below_as : (rest mark : List ℕ) → one ≡ (start ++ ends.name) ++ slash ∷ [] → other ≡ (start ++ next.name) ++ mark → IsMark mark → ComesBefore (one ++ rest) other
    below_as rest mark left right is_mark =
        let known : ComesBefore ((start ++ ends.name) ++ slash ∷ []) ((start ++ next.name) ++ mark) = subst (λ l. ComesBefore l ((start ++ next.name) ++ mark)) left (subst (λ r. ComesBefore one r) right before) in
        let more = comes_before_below start ends.name next.name mark rest ends.may.whole next.may.whole is_mark known in
        subst (λ l. ComesBefore (l ++ rest) other) (sym left) (subst (λ r. ComesBefore (((start ++ ends.name) ++ slash ∷ []) ++ rest) r) (sym right) more)

-- the entries of a folder, put in order, are a stack
batch_is_stack : (case : Case) (start : List ℕ) (count : ℕ) (batch : List Pending) → ((next : Pending) → Among batch next → EndsInName case start (path_of next))
    → AllByRecursion (λ next. next.list_count ≡ count) batch → AreDescending (map path_of batch) → IsStack path_of count_of batch
batch_is_stack case start count [] each counts descending = tt
batch_is_stack case start count (first ∷ batch) each counts descending = (
  all_of (Above path_of count_of first) batch (λ later among.
      let level : later.list_count ≡ count = of_all (λ next. next.list_count ≡ count) batch counts.1 later among in
      let same = counts.0 in
      record {
        counts = omega (arith, level, same);
        order = entry_precedes case start (path_of later) (path_of first) (each later (inr among)) (each first (inl refl)) (of_all (λ path. ComesBefore path (path_of first)) (map path_of batch) descending.0 (path_of later) (among_map path_of batch later among));
      }),
  batch_is_stack case start count batch (λ next among. each next (inr among)) counts.1 descending.1,
)

-- ---- whatever the tree is

module _ (terms : Terms) (listed : List (List ℕ)) (pending : List Pending) (next : Pending) (lists : List (EntryList (Unit {0}))) (under : IsUnderWay terms.case listed (pending ++ next ∷ []) lists) where
  waits : (other : Pending) → Among pending other → Among (pending ++ next ∷ []) other
  waits other among = among_left pending (next ∷ []) other among

  is_next : Among (pending ++ next ∷ []) next
  is_next = among_last pending next

  pub may_next : MayVisit terms.case (path_of next)
  may_next = under.may next is_next

  -- the next path was listed
  pub under_way_listed : IsUnderWay terms.case (listed ++ path_of next ∷ []) pending lists
  under_way_listed = record {
    may = λ other among. under.may other (waits other among);
    counts = λ other among. under.counts other (waits other among);
    stacked = stack_front path_of count_of pending (next ∷ []) under.stacked;
    behind = λ path other before among. ⊎_elim
        (λ (old : Among listed path). under.behind path other old (waits other among))
        (λ (one : Among (path_of next ∷ []) path). ⊎_elim
        (λ (is : path_of next ≡ path). subst (λ p. ComesBefore p (path_of other)) is (let above = stack_top path_of count_of pending next under.stacked other among in above.order.here))
        (λ (never : ⊥). absurd never)
        one)
        (among_cases listed (path_of next ∷ []) path before);
    ordered = ascending_push listed (path_of next) under.ordered (λ path old. under.behind path next old is_next);
  }

  -- or it was passed over
  pub under_way_passed : IsUnderWay terms.case listed pending lists
  under_way_passed = record {
    may = λ other among. under.may other (waits other among);
    counts = λ other among. under.counts other (waits other among);
    stacked = stack_front path_of count_of pending (next ∷ []) under.stacked;
    behind = λ path other before among. under.behind path other before (waits other among);
    ordered = under.ordered;
  }

  pub count_next : next.list_count ≤ length lists
  count_next = under.counts next is_next

  -- no other path has more lists
  pub count_most : (other : Pending) → Among (pending ++ next ∷ []) other → other.list_count ≤ next.list_count
  count_most other among = ⊎_elim
      (λ (old : Among pending other). let above = stack_top path_of count_of pending next under.stacked other old in above.counts)
      (λ (one : Among (next ∷ []) other). ⊎_elim (λ (is : next ≡ other). subst (λ (n : Pending). n.list_count ≤ next.list_count) is (omega arith)) (λ (never : ⊥). absurd never) one)
      (among_cases pending (next ∷ []) other among)

  -- or its folder was entered
  module _ (folder : Folder) (is_start : path_of next ≡ start_of folder) (Known : FileTree → Type 0) (is_ignored : Bool) (new_lists : List (EntryList (Unit {0}))) (new : List Pending) (enters : Enters Known terms folder next.list_count is_ignored lists new_lists pending new) where
    -- what is found in it
    ends : (found : Pending) → Among enters.puts.batch found → EndsInName terms.case (start_of folder) (path_of found)
    ends found among =
        of_all (EndsInName terms.case (start_of folder)) enters.paths enters.each (path_of found) (let same = enters.puts.same (path_of found) in same.1 (among_map path_of enters.puts.batch found among))

    level : (found : Pending) → Among enters.puts.batch found → found.list_count ≡ length new_lists
    level found among = of_all (λ other. other.list_count ≡ length new_lists) enters.puts.batch enters.puts.counts found among

    long : next.list_count ≤ length new_lists
    long =
        let few = under.counts next is_next in
        omega (arith, ap length enters.lists.joined, length-append (take next.list_count lists) enters.lists.own, length-take-le next.list_count lists few)

    -- the path of an entry goes on from that of the folder
    goes_on : (found : Pending) → Among enters.puts.batch found → (rest : List ℕ) × (path_of found ≡ path_of next ++ rest)
    goes_on found among =
        let it = ends found among in
        ⊎_elim
        (λ (file : path_of found ≡ start_of folder ++ it.name). (it.name, file ∙ ap (λ s. s ++ it.name) (sym is_start)))
        (λ (marked : path_of found ≡ (start_of folder ++ it.name) ++ slash ∷ []). (it.name ++ slash ∷ [], marked ∙ append_assoc (start_of folder) it.name (slash ∷ []) ∙ ap (λ s. s ++ (it.name ++ slash ∷ [])) (sym is_start)))
        it.joined

    above_old : (old found : Pending) → Among pending old → Among enters.puts.batch found → Above path_of count_of old found
    above_old old found waiting among =
        let above = stack_top path_of count_of pending next under.stacked old waiting in
        let same = level found among in
        let rest = goes_on found among in
        record {
          counts = omega (arith, above.counts, long, same);
          order = record {
            here = subst (λ p. ComesBefore p (path_of old)) (sym rest.1) (above.order.below folder rest.0 is_start);
            below = λ at more is. subst (λ p. ComesBefore (p ++ more) (path_of old)) (sym rest.1)
                (subst (λ p. ComesBefore p (path_of old)) (sym (append_assoc (path_of next) rest.0 more)) (above.order.below folder (rest.0 ++ more) is_start));
          };
        }

    under_way_joined : IsUnderWay terms.case listed (pending ++ enters.puts.batch) new_lists
    under_way_joined = record {
      may = λ other among. ⊎_elim
          (λ (old : Among pending other). under.may other (waits other old))
          (λ (found : Among enters.puts.batch other). may_visit_entry terms.case (start_of folder) (path_of other) (let may = under.may next is_next in subst (LeadsOn terms.case) is_start (may.plain folder is_start)) (ends other found))
          (among_cases pending enters.puts.batch other among);
      counts = λ other among. ⊎_elim
          (λ (old : Among pending other). let above = stack_top path_of count_of pending next under.stacked other old in omega (arith, above.counts, long))
          (λ (found : Among enters.puts.batch other). omega (arith, level other found))
          (among_cases pending enters.puts.batch other among);
      stacked = stack_append path_of count_of pending enters.puts.batch (stack_front path_of count_of pending (next ∷ []) under.stacked)
          (batch_is_stack terms.case (start_of folder) (length new_lists) enters.puts.batch ends enters.puts.counts enters.puts.descending) above_old;
      behind = λ path other old among. ⊎_elim
          (λ (waiting : Among pending other). under.behind path other old (waits other waiting))
          (λ (found : Among enters.puts.batch other). let rest = goes_on other found in
          subst (ComesBefore path) (sym rest.1) (comes_before_more path (path_of next) rest.0 (under.behind path next old is_next)))
          (among_cases pending enters.puts.batch other among);
      ordered = under.ordered;
    }

    pub under_way_entered : IsUnderWay terms.case listed new new_lists
    under_way_entered = subst (λ all. IsUnderWay terms.case listed all new_lists) (sym enters.puts.joined) under_way_joined

    -- the path of the folder comes before those of its entries
    before_entry : (found : Pending) → Among enters.puts.batch found → ComesBefore (path_of next) (path_of found)
    before_entry found among =
        let it = ends found among in
        let some = name_is_some terms.case it.name it.may in
        subst (λ s. ComesBefore s (path_of found)) (sym is_start)
        (⊎_elim
        (λ (file : path_of found ≡ start_of folder ++ it.name). subst (ComesBefore (start_of folder)) (sym file) (comes_before_itself_more (start_of folder) it.name some))
        (λ (marked : path_of found ≡ (start_of folder ++ it.name) ++ slash ∷ []).
        subst (ComesBefore (start_of folder)) (sym (marked ∙ append_assoc (start_of folder) it.name (slash ∷ [])))
        (comes_before_itself_more (start_of folder) (it.name ++ slash ∷ []) (some_append it.name (slash ∷ []) (λ none. absurd (cc)))))
        it.joined)

    under_way_beside_joined : IsUnderWay terms.case (listed ++ path_of next ∷ []) (pending ++ enters.puts.batch) new_lists
    under_way_beside_joined = let joined = under_way_joined in record {
      may = joined.may;
      counts = joined.counts;
      stacked = joined.stacked;
      behind = λ path other before among. ⊎_elim
          (λ (old : Among listed path). joined.behind path other old among)
          (λ (one : Among (path_of next ∷ []) path). ⊎_elim
          (λ (is : path_of next ≡ path). subst (λ p. ComesBefore p (path_of other)) is (⊎_elim
          (λ (waiting : Among pending other). (let above = stack_top path_of count_of pending next under.stacked other waiting in above.order.here))
          (λ (found : Among enters.puts.batch other). before_entry other found)
          (among_cases pending enters.puts.batch other among)))
          (λ (never : ⊥). absurd never)
          one)
          (among_cases listed (path_of next ∷ []) path before);
      ordered = ascending_push listed (path_of next) under.ordered (λ path old. under.behind path next old is_next);
    }

    -- or it was, and its path was listed
    pub under_way_beside : IsUnderWay terms.case (listed ++ path_of next ∷ []) new new_lists
    under_way_beside = subst (λ all. IsUnderWay terms.case (listed ++ path_of next ∷ []) all new_lists) (sym enters.puts.joined) under_way_beside_joined

-- ---- of a tree

-- lists count only where what isn't ignored is chosen
found_by : (lists others : List (EntryList (Unit {0}))) (terms : Terms) (tree : FileTree) (path found : List ℕ) → (terms.chosen ≡ Unignored → lists ≡ others) → IsFound lists terms tree path found → IsFound others terms tree path found
found_by lists others terms tree path found same it = record {
  kind = it.kind;
  there = it.there;
  kept = record {
    unignored = λ told. subst (λ (ls : List (EntryList (Unit {0}))). ¬ IsIgnored ls terms.case path (is_folder it.kind)) (same told) (it.kept.unignored told);
    shown = it.kept.shown;
  };
  joined = it.joined;
}

-- of a text that is empty each part is
ends_empty : (front name mark : List ℕ) → (front ++ name) ++ mark ≡ [] → name ≡ []
ends_empty [] [] mark none = refl
ends_empty [] (b ∷ name) mark none = absurd (cc)
ends_empty (b ∷ front) name mark none = absurd (cc)

module _ (basis : Basis) (tree : FileTree) (start : List ℕ) (listed : List (List ℕ)) (pending : List Pending) (next : Pending) (lists : List (EntryList (Unit {0}))) (halfway : IsHalfway basis tree start listed (pending ++ next ∷ []) lists) where
  stays_in : (other : Pending) → Among pending other → Among (pending ++ next ∷ []) other
  stays_in other among = among_left pending (next ∷ []) other among

  sound_listed : IsTold basis tree (path_of next) → (path : List ℕ) → Among (listed ++ path_of next ∷ []) path → IsMet basis tree start path × IsTold basis tree path
  sound_listed leaf path among = ⊎_elim
      (λ (old : Among listed path). halfway.sound path old)
      (λ (one : Among (path_of next ∷ []) path). ⊎_elim
      (λ (is : path_of next ≡ path). subst (λ p. IsMet basis tree start p × IsTold basis tree p) is (halfway.met next (among_last pending next), leaf))
      (λ (never : ⊥). absurd never)
      one)
      (among_cases listed (path_of next ∷ []) path among)

  -- the next path was listed, and is pending yet
  pub halfway_told : IsTold basis tree (path_of next) → IsHalfway basis tree start (listed ++ path_of next ∷ []) (pending ++ next ∷ []) lists
  halfway_told leaf = record {
    sound = sound_listed leaf;
    met = halfway.met;
    standing = halfway.standing;
    complete = λ path met told. ⊎_elim
        (λ (old : Among listed path). inl (among_left listed (path_of next ∷ []) path old))
        (λ (from : (other : Pending) × Among (pending ++ next ∷ []) other × IsMet basis tree (path_of other) path). inr from)
        (halfway.complete path met told);
  }

  pub halfway_listed : IsTold basis tree (path_of next) → IsEndOf basis tree (path_of next) → IsHalfway basis tree start (listed ++ path_of next ∷ []) pending lists
  halfway_listed leaf ends = record {
    sound = sound_listed leaf;
    met = λ other among. halfway.met other (stays_in other among);
    standing = λ other among. halfway.standing other (stays_in other among);
    complete = λ path met shut. ⊎_elim
        (λ (old : Among listed path). inl (among_left listed (path_of next ∷ []) path old))
        (λ (from : (other : Pending) × Among (pending ++ next ∷ []) other × IsMet basis tree (path_of other) path). ⊎_elim
        (λ (waiting : Among pending from.0). inr (from.0, waiting, from.2))
        (λ (one : Among (next ∷ []) from.0). ⊎_elim
        (λ (is : next ≡ from.0).
        let same : path ≡ path_of next = end_meets_itself basis tree (subst (λ (p : Pending). IsMet basis tree (path_of p) path) (sym is) from.2) ends in
        inl (subst (Among (listed ++ path_of next ∷ [])) (sym same) (among_last listed (path_of next))))
        (λ (never : ⊥). absurd never)
        one)
        (among_cases pending (next ∷ []) from.0 from.1))
        (halfway.complete path met shut);
  }

  -- or it was passed over
  pub halfway_passed : IsEndOf basis tree (path_of next) → ¬ IsTold basis tree (path_of next) → IsHalfway basis tree start listed pending lists
  halfway_passed ends unlisted = record {
    sound = halfway.sound;
    met = λ other among. halfway.met other (stays_in other among);
    standing = λ other among. halfway.standing other (stays_in other among);
    complete = λ path met shut. ⊎_elim
        (λ (old : Among listed path). inl old)
        (λ (from : (other : Pending) × Among (pending ++ next ∷ []) other × IsMet basis tree (path_of other) path). ⊎_elim
        (λ (waiting : Among pending from.0). inr (from.0, waiting, from.2))
        (λ (one : Among (next ∷ []) from.0). ⊎_elim
        (λ (is : next ≡ from.0).
        let same : path ≡ path_of next = end_meets_itself basis tree (subst (λ (p : Pending). IsMet basis tree (path_of p) path) (sym is) from.2) ends in
        absurd (unlisted (subst (IsTold basis tree) same shut)))
        (λ (never : ⊥). absurd never)
        one)
        (among_cases pending (next ∷ []) from.0 from.1))
        (halfway.complete path met shut);
  }

  module _ (folder : Folder) (is_start : path_of next ≡ start_of folder) (unended : folder ≢ [] → ¬ EndsInSlash folder) (is_ignored : Bool) (flags : FlagsFolder basis.terms lists next folder is_ignored) (may : IsOpen basis tree folder) (few : (other : Pending) → Among pending other → other.list_count ≤ next.list_count) (fits : next.list_count ≤ length lists)
      (Known : FileTree → Type 0) (known : Known tree) (new_lists : List (EntryList (Unit {0}))) (new : List Pending) (enters : Enters Known basis.terms folder next.list_count is_ignored lists new_lists pending new)
      (own : IsTold basis tree (path_of next) → Among listed (path_of next)) where
    standing : Stands basis tree lists next
    standing = halfway.standing next (among_last pending next)

    -- where the folder's list counts, the lists are those of its entries
    are_lists : reads_list basis.terms.chosen is_ignored ≡ true → new_lists ≡ lists_to basis tree (start_of folder)
    are_lists reads =
        enters.lists.joined
        ∙ ap (λ (own : List (EntryList (Unit {0}))). take next.list_count lists ++ own) (enters.lists.is_own tree (known, reads))
        ∙ ap (λ (before : List (EntryList (Unit {0}))). before ++ unless_empty (tree.list folder)) (level_before basis tree lists next standing folder is_start unended is_ignored flags basis.terms.chosen refl reads)
        ∙ sym (lists_in basis tree folder)

    are_unignored : basis.terms.chosen ≡ Unignored → new_lists ≡ lists_to basis tree (start_of folder)
    are_unignored told = are_lists (ap (λ (c : Chosen). reads_list c is_ignored) told)

    -- what is pending of the folder are its entries
    is_entry : (found : Pending) → Among enters.puts.batch found → IsEntryOf basis tree folder (path_of found)
    is_entry found among =
        let same = enters.puts.same (path_of found) in
        let it = enters.found tree known (path_of found) in
        let by_name = it.0 (same.1 (among_map path_of enters.puts.batch found among)) in
        record {
          name = by_name.name;
          among = contains_among (tree.names folder) by_name.name by_name.among;
          may = by_name.may;
          here = found_by new_lists (lists_to basis tree (start_of folder)) basis.terms tree (start_of folder ++ by_name.name) (path_of found) are_unignored by_name.here;
        }

    entry_waits : (found : List ℕ) → IsEntryOf basis tree folder found → (other : Pending) × Among enters.puts.batch other × (path_of other ≡ found)
    entry_waits found entry =
        let it = enters.found tree known found in
        let among = it.1 (record {
          name = entry.name;
          among = among_contained (tree.names folder) entry.name entry.among;
          may = entry.may;
          here = found_by (lists_to basis tree (start_of folder)) new_lists basis.terms tree (start_of folder ++ entry.name) found (λ told. sym (are_unignored told)) entry.here;
        }) in
        let same = enters.puts.same found in
        among_mapped path_of enters.puts.batch found (same.0 among)

    met_next : IsMet basis tree start (start_of folder)
    met_next = subst (IsMet basis tree start) is_start (halfway.met next (among_last pending next))

    same_front : (other : Pending) → Among pending other → take other.list_count new_lists ≡ take other.list_count lists
    same_front other waiting =
        let less = few other waiting in
        let long : length (take next.list_count lists) ≡ next.list_count = length-take-le next.list_count lists fits in
        ap (take other.list_count) enters.lists.joined
        ∙ take-append-le other.list_count (take next.list_count lists) enters.lists.own (omega (arith, less, long))
        ∙ take-take other.list_count next.list_count lists less

    stand_old : (other : Pending) → Among pending other → Stands basis tree new_lists other
    stand_old other waiting =
        let before = halfway.standing other (stays_in other waiting) in
        record {
          top = λ is. same_front other waiting ∙ before.top is;
          level = λ path is_dir marked. subst (λ (ls : List (EntryList (Unit {0}))). IsLevel basis.terms.chosen basis tree ls other.is_below path) (sym (same_front other waiting)) (before.level path is_dir marked);
        }

    stand_new : (other : Pending) → Among enters.puts.batch other → Stands basis tree new_lists other
    stand_new other found =
        let same : other.list_count ≡ length new_lists = of_all (λ (p : Pending). p.list_count ≡ length new_lists) enters.puts.batch enters.puts.counts other found in
        let below : other.is_below ≡ is_ignored = of_all (λ (p : Pending). p.is_below ≡ is_ignored) enters.puts.batch enters.puts.belows other found in
        let all : take other.list_count new_lists ≡ new_lists = take_all other.list_count new_lists (omega (arith, same)) in
        let entry = is_entry other found in
        let bare = start_of folder ++ entry.name in
        let whole = entry_unended basis.terms.case (start_of folder) entry.name entry.may in
        record {
          top = λ none. absurd (name_is_some basis.terms.case entry.name entry.may (ends_empty (start_of folder) entry.name (mark_of (is_folder entry.here.kind)) (sym entry.here.joined ∙ none)));
          level = λ path is_dir marked.
              let one : path ≡ bare = one_mark path bare is_dir (is_folder entry.here.kind) marked.1 whole (sym marked.2 ∙ entry.here.joined) in
              subst (λ (p : List ℕ). IsLevel basis.terms.chosen basis tree (take other.list_count new_lists) other.is_below p) (sym one)
              (subst (λ (ls : List (EntryList (Unit {0}))). IsLevel basis.terms.chosen basis tree ls other.is_below bare) (sym all)
              (subst (λ (b : Bool). IsLevel basis.terms.chosen basis tree new_lists b bare) (sym below)
              (level_of_entry basis tree lists next standing folder is_start unended is_ignored flags new_lists are_lists entry.name entry.may.whole basis.terms.chosen refl)));
        }

    halfway_joined : IsHalfway basis tree start listed (pending ++ enters.puts.batch) new_lists
    halfway_joined = record {
      sound = halfway.sound;
      met = λ other among. ⊎_elim
          (λ (old : Among pending other). halfway.met other (stays_in other old))
          (λ (found : Among enters.puts.batch other). lies met_next may.0 may.1 (is_entry other found))
          (among_cases pending enters.puts.batch other among);
      standing = λ other among. ⊎_elim
          (λ (old : Among pending other). stand_old other old)
          (λ (found : Among enters.puts.batch other). stand_new other found)
          (among_cases pending enters.puts.batch other among);
      complete = λ path met shut. ⊎_elim
          (λ (old : Among listed path). inl old)
          (λ (from : (other : Pending) × Among (pending ++ next ∷ []) other × IsMet basis tree (path_of other) path). ⊎_elim
          (λ (waiting : Among pending from.0). inr (from.0, among_left pending enters.puts.batch from.0 waiting, from.2))
          (λ (one : Among (next ∷ []) from.0). ⊎_elim
          (λ (is : next ≡ from.0).
          let met_here : IsMet basis tree (start_of folder) path = subst (λ s. IsMet basis tree s path) is_start (subst (λ (p : Pending). IsMet basis tree (path_of p) path) (sym is) from.2) in
          ⊎_elim
          (λ (itself : path ≡ start_of folder).
          let same : path ≡ path_of next = itself ∙ sym is_start in
          inl (subst (Among listed) (sym same) (own (subst (IsTold basis tree) same shut))))
          (λ (first : (found : List ℕ) × IsEntryOf basis tree folder found × IsMet basis tree found path).
          let waits_for = entry_waits first.0 first.1 in
          inr (waits_for.0, among_right pending enters.puts.batch waits_for.0 waits_for.1, subst (λ s. IsMet basis tree s path) (sym waits_for.2) first.2))
          (meets_entry basis tree folder path met_here))
          (λ (never : ⊥). absurd never)
          one)
          (among_cases pending (next ∷ []) from.0 from.1))
          (halfway.complete path met shut);
    }

    pub halfway_entered : IsHalfway basis tree start listed new new_lists
    halfway_entered = subst (λ all. IsHalfway basis tree start listed all new_lists) (sym enters.puts.joined) halfway_joined
