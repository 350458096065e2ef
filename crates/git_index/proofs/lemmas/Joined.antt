-- The entries of two files, joined: what is read is told so, and the other way.
use Rattle.std.proofs.Common.{◌≡◌, ◌≢◌, ◌⊎◌, ℕ, inl, inr, map, ◌<◌, ◌≤◌, Bool, true, false, cond, eqb, leb, ◌&&◌, not, List, [], ◌∷◌, ◌++◌, length, take, drop, Result, Ok, Err, refl, sym, ap, subst, ◌∙◌, arith}
use Rattle.std.specs.Prelude.{count_by}
use Rattle.std.specs.List.{AllByRecursion, list_all}
use Rattle.std.proofs.lemmas.Bool.{eqb-true, eq-eqb, leb-true, le-leb, lt-leb, false≢true}
use Rattle.std.proofs.lemmas.List.{append-nil, drop-map, drop_at, length-append, length-map, length-take, take-map, take_at, take-append-drop}
use Rattle.git_index.specs.declared.fault.IndexFault.{IndexFault}
use Rattle.git_index.specs.declared.fault.IndexFault.TheVariants.{Link, Memory, Replacements}
use Rattle.git_index.specs.declared.entry.Entry.{Entry}
use Rattle.git_index.specs.Entries.{Tracked, tracked}
use Rattle.git_index.specs.Private.Reading.{◌>>=◌, are_replacements, joined_at, marks_at, named_in}
use Rattle.git_index.specs.Split.{AreJoined, put_in, replaced_by, unmarked}
use Rattle.git_index.proofs.lemmas.Fields.{IsBytes, IsBytes-behind, bind_ok, ok_is}
use Rattle.git_index.proofs.lemmas.Marks.{marks_again, marks_take}

both : (a b : Bool) → (a && b) ≡ true → (a ≡ true) × (b ≡ true)
both true b e = (refl, e)
both false b e = absurd cc

empty : (path : List ℕ) → length path ≡ 0 → path ≡ []
empty [] h = refl
empty (b ∷ path) h = absurd (omega arith)

no_path : (e : Tracked) → eqb (length e.path) 0 ≡ true → e.path ≡ []
no_path e h = empty e.path (eqb-true _ _ h)

abbrev IsUnnamed : Tracked → Type 0
IsUnnamed e = e.path ≡ []

abbrev IsNamed : Tracked → Type 0
IsNamed e = e.path ≢ []

all_unnamed : (new : List Tracked) → list_all (λ e. eqb (length e.path) 0) new ≡ true → AllByRecursion IsUnnamed new
all_unnamed [] h = tt
all_unnamed (e ∷ new) h = let b = both (eqb (length e.path) 0) (list_all (λ e. eqb (length e.path) 0) new) h in (no_path e b.0, all_unnamed new b.1)

all_named : (added : List Tracked) → list_all (λ e. not (eqb (length e.path) 0)) added ≡ true → AllByRecursion IsNamed added
all_named [] h = tt
all_named (e ∷ added) h =
    let b = both (not (eqb (length e.path) 0)) (list_all (λ e. not (eqb (length e.path) 0)) added) h in
    (λ is. let zero : eqb (length e.path) 0 ≡ true = eq-eqb _ _ (ap length is) in absurd (false≢true (rw zero at b.0)), all_named added b.1)

unnamed_all : (new : List Tracked) → AllByRecursion IsUnnamed new → list_all (λ e. eqb (length e.path) 0) new ≡ true
unnamed_all [] h = refl
unnamed_all (e ∷ new) h = let zero : eqb (length e.path) 0 ≡ true = eq-eqb _ _ (ap length h.0) in rw zero (unnamed_all new h.1)

some_path : (path : List ℕ) → path ≢ [] → eqb (length path) 0 ≡ false
some_path [] h = absurd (h refl)
some_path (b ∷ path) h = grind arith

named_all : (added : List Tracked) → AllByRecursion IsNamed added → list_all (λ e. not (eqb (length e.path) 0)) added ≡ true
named_all [] h = refl
named_all (e ∷ added) h = rw (some_path e.path h.0) (named_all added h.1)

-- those with a path are those behind the others
named_in-is : (new added : List Tracked) → AllByRecursion IsUnnamed new → AllByRecursion IsNamed added → named_in (new ++ added) ≡ added
unfolding named_in
named_in-is [] [] none named = refl
named_in-is [] (e ∷ added) none named = rw (some_path e.path named.0) (ap (λ (w : List Tracked). e ∷ w) (named_in-is [] added none named.1))
named_in-is (e ∷ new) added none named = let zero : eqb (length e.path) 0 ≡ true = eq-eqb _ _ (ap length none.0) in rw zero (named_in-is new added none.1 named)

abbrev mark_count : List Bool → ℕ
mark_count marks = count_by (λ mark. mark) marks

abbrev rest_joined : List Tracked → List Tracked → List Bool × List ℕ → List Bool × List ℕ → Result (List Tracked) IndexFault
rest_joined shared own deleted replaced =
    cond (eqb (length replaced.1) 0) (cond (are_replacements own (mark_count replaced.0)) (Ok (put_in (unmarked (replaced_by shared replaced.0 (take (mark_count replaced.0) own)) deleted.0) (named_in own))) (Err Replacements)) (Err Link)

ways : (p q : Bool) (x es : List Tracked) → cond p (cond q (Ok x) (Err Replacements)) (Err Link) ≡ Ok es → (p ≡ true) × (q ≡ true) × (x ≡ es)
ways true true x es e = (refl, refl, ok_is x es e)
ways true false x es e = absurd cc
ways false q x es e = absurd cc

pub joined_takes : (shared own : List Tracked) (bitmaps : List ℕ) (es : List Tracked) → IsBytes bitmaps → joined_at shared own bitmaps ≡ Ok es → AreJoined shared own bitmaps es
unfolding joined_at are_replacements
joined_takes shared own bitmaps es fits e =
    let a = bind_ok (marks_at (length shared) bitmaps) (λ deleted. marks_at (length shared) deleted.1 >>= λ replaced. rest_joined shared own deleted replaced) es e in
    let b = bind_ok (marks_at (length shared) a.0.1) (λ replaced. rest_joined shared own a.0 replaced) es a.2 in
    let t1 = marks_take (length shared) bitmaps a.0 fits a.1 in
    let t2 = marks_take (length shared) a.0.1 b.0 (IsBytes-behind t1.text a.0.1 bitmaps t1.joined fits) b.1 in
    let n = mark_count b.0.0 in
    let w = ways (eqb (length b.0.1) 0) (are_replacements own n) (put_in (unmarked (replaced_by shared b.0.0 (take n own)) a.0.0) (named_in own)) es b.2 in
    let few = both (leb n (length own)) (list_all (λ e. eqb (length e.path) 0) (take n own) && list_all (λ e. not (eqb (length e.path) 0)) (drop n own)) w.1 in
    let names = both (list_all (λ e. eqb (length e.path) 0) (take n own)) (list_all (λ e. not (eqb (length e.path) 0)) (drop n own)) few.1 in
    let le : n ≤ length own = leb-true _ _ few.0 in
    let none = all_unnamed (take n own) names.0 in
    let named = all_named (drop n own) names.1 in
    let end : b.0.1 ≡ [] = empty b.0.1 (eqb-true _ _ w.0) in
    let whole : take n own ++ drop n own ≡ own = take-append-drop n own in
    let added : named_in own ≡ drop n own = ap named_in (sym whole) ∙ named_in-is (take n own) (drop n own) none named in
    record {
      deletions = t1.text;
      replacements = t2.text;
      both = t1.joined ∙ ap (λ (v : List ℕ). t1.text ++ v) (t2.joined ∙ ap (λ (v : List ℕ). t2.text ++ v) end ∙ append-nil t2.text);
      deleted = a.0.0;
      replaced = b.0.0;
      marks = (t1.spelled, t2.spelled);
      new = take n own;
      added = drop n own;
      own_are = sym whole;
      each_replaces = omega (arith, length-take n own, le);
      unnamed = (none, named);
      joined = sym w.2 ∙ ap (λ (v : List Tracked). put_in (unmarked (replaced_by shared b.0.0 (take n own)) a.0.0) v) added;
    }

pub joined_again : (shared own : List Tracked) (bitmaps : List ℕ) (es : List Tracked) → AreJoined shared own bitmaps es → joined_at shared own bitmaps ≡ Ok es
unfolding joined_at are_replacements
joined_again shared own bitmaps es j =
    let one : marks_at (length shared) bitmaps ≡ Ok (j.deleted, j.replacements) = ap (marks_at (length shared)) j.both ∙ marks_again (length shared) j.deleted j.deletions j.replacements j.marks.0 in
    let two : marks_at (length shared) j.replacements ≡ Ok (j.replaced, []) = ap (marks_at (length shared)) (sym (append-nil j.replacements)) ∙ marks_again (length shared) j.replaced j.replacements [] j.marks.1 in
    let n = mark_count j.replaced in
    let len : length j.new ≡ n = j.each_replaces in
    let new : take n own ≡ j.new = ap (take n) j.own_are ∙ take_at j.new j.added n len in
    let added : drop n own ≡ j.added = ap (drop n) j.own_are ∙ drop_at j.new j.added n len in
    let long : leb n (length own) ≡ true = le-leb _ _ (omega (arith, len, ap length j.own_are, length-append j.new j.added)) in
    let told : are_replacements own n ≡ true = rw (long, new, added, unnamed_all j.new j.unnamed.0, named_all j.added j.unnamed.1) refl in
    let named : named_in own ≡ j.added = ap named_in j.own_are ∙ named_in-is j.new j.added j.unnamed.0 j.unnamed.1 in
    let last : rest_joined shared own (j.deleted, j.replacements) (j.replaced, []) ≡ Ok es = rw (told, new, named) (ap (λ (w : List Tracked). Ok w) (sym j.joined)) in
    ap (λ (r : Result (List Bool × List ℕ) IndexFault). r >>= λ deleted. marks_at (length shared) deleted.1 >>= λ replaced. rest_joined shared own deleted replaced) one
    ∙ ap (λ (r : Result (List Bool × List ℕ) IndexFault). r >>= λ replaced. rest_joined shared own (j.deleted, j.replacements) replaced) two
    ∙ last

-- ---- read step by step

abbrev Marks : Type 0
Marks = List Bool × List ℕ

pub deletions_fail : (shared own : List Tracked) (bitmaps : List ℕ) (n : ℕ) (fault : IndexFault) → n ≡ length shared → (fault ≡ Memory) ⊎ (marks_at n bitmaps ≡ Err fault) → (fault ≡ Memory) ⊎ (joined_at shared own bitmaps ≡ Err fault)
unfolding joined_at
deletions_fail shared own bitmaps n fault n_is (inl memory) = inl memory
deletions_fail shared own bitmaps n fault n_is (inr e) =
    let one : marks_at (length shared) bitmaps ≡ Err fault = subst (λ (m : ℕ). marks_at m bitmaps ≡ Err fault) n_is e in
    inr (ap (λ (r : Result Marks IndexFault). r >>= λ deleted. marks_at (length shared) deleted.1 >>= λ replaced. rest_joined shared own deleted replaced) one)

-- the last step, where both bitmaps are read
last_step : (shared own : List Tracked) (bitmaps : List ℕ) (n : ℕ) (d r : Marks) → n ≡ length shared → marks_at n bitmaps ≡ Ok d → marks_at n d.1 ≡ Ok r → joined_at shared own bitmaps ≡ rest_joined shared own d r
unfolding joined_at
last_step shared own bitmaps n d r n_is d-is r-is =
    let one : marks_at (length shared) bitmaps ≡ Ok d = subst (λ (m : ℕ). marks_at m bitmaps ≡ Ok d) n_is d-is in
    let two : marks_at (length shared) d.1 ≡ Ok r = subst (λ (m : ℕ). marks_at m d.1 ≡ Ok r) n_is r-is in
    ap (λ (x : Result Marks IndexFault). x >>= λ deleted. marks_at (length shared) deleted.1 >>= λ replaced. rest_joined shared own deleted replaced) one
    ∙ ap (λ (x : Result Marks IndexFault). x >>= λ replaced. rest_joined shared own d replaced) two

pub replacements_fail : (shared own : List Tracked) (bitmaps : List ℕ) (n : ℕ) (d : Marks) (fault : IndexFault) → n ≡ length shared → marks_at n bitmaps ≡ Ok d → (fault ≡ Memory) ⊎ (marks_at n d.1 ≡ Err fault) → (fault ≡ Memory) ⊎ (joined_at shared own bitmaps ≡ Err fault)
unfolding joined_at
replacements_fail shared own bitmaps n d fault n_is d-is (inl memory) = inl memory
replacements_fail shared own bitmaps n d fault n_is d-is (inr e) =
    let one : marks_at (length shared) bitmaps ≡ Ok d = subst (λ (m : ℕ). marks_at m bitmaps ≡ Ok d) n_is d-is in
    let two : marks_at (length shared) d.1 ≡ Err fault = subst (λ (m : ℕ). marks_at m d.1 ≡ Err fault) n_is e in
    inr (ap (λ (x : Result Marks IndexFault). x >>= λ deleted. marks_at (length shared) deleted.1 >>= λ replaced. rest_joined shared own deleted replaced) one
    ∙ ap (λ (x : Result Marks IndexFault). x >>= λ replaced. rest_joined shared own d replaced) two)

pub bytes_stand_behind : (shared own : List Tracked) (bitmaps : List ℕ) (n : ℕ) (d r : Marks) → n ≡ length shared → marks_at n bitmaps ≡ Ok d → marks_at n d.1 ≡ Ok r → eqb (length r.1) 0 ≡ false → joined_at shared own bitmaps ≡ Err Link
bytes_stand_behind shared own bitmaps n d r n_is d-is r-is more = last_step shared own bitmaps n d r n_is d-is r-is ∙ rw more refl

pub names_differ : (shared own : List Tracked) (bitmaps : List ℕ) (n k : ℕ) (d r : Marks) → n ≡ length shared → marks_at n bitmaps ≡ Ok d → marks_at n d.1 ≡ Ok r → eqb (length r.1) 0 ≡ true → k ≡ mark_count r.0 → are_replacements own k ≡ false
    → joined_at shared own bitmaps ≡ Err Replacements
names_differ shared own bitmaps n k d r n_is d-is r-is end k_is differ =
    let told : are_replacements own (mark_count r.0) ≡ false = subst (λ (m : ℕ). are_replacements own m ≡ false) k_is differ in
    last_step shared own bitmaps n d r n_is d-is r-is ∙ rw (end, told) refl

pub joined_is : (shared own : List Tracked) (bitmaps : List ℕ) (n k : ℕ) (d r : Marks) (kept joined : List Tracked) → n ≡ length shared → marks_at n bitmaps ≡ Ok d → marks_at n d.1 ≡ Ok r → eqb (length r.1) 0 ≡ true → k ≡ mark_count r.0
    → are_replacements own k ≡ true → kept ≡ unmarked (replaced_by shared r.0 (take k own)) d.0 → joined ≡ put_in kept (named_in own) → joined_at shared own bitmaps ≡ Ok joined
joined_is shared own bitmaps n k d r kept joined n_is d-is r-is end k_is are kept_is joined_as =
    let told : are_replacements own (mark_count r.0) ≡ true = subst (λ (m : ℕ). are_replacements own m ≡ true) k_is are in
    let made : put_in (unmarked (replaced_by shared r.0 (take (mark_count r.0) own)) d.0) (named_in own) ≡ joined = sym (joined_as ∙ ap (λ (v : List Tracked). put_in v (named_in own)) (kept_is ∙ ap (λ (m : ℕ). unmarked (replaced_by shared r.0 (take m own)) d.0) k_is)) in
    last_step shared own bitmaps n d r n_is d-is r-is ∙ rw (end, told) (ap (λ (v : List Tracked). Ok v) made)

pub are_joined_at : {shared shared' own own' : List Tracked} {bitmaps bitmaps' : List ℕ} {es : List Tracked} → shared ≡ shared' → own ≡ own' → bitmaps ≡ bitmaps' → AreJoined shared own bitmaps es → AreJoined shared' own' bitmaps' es
are_joined_at {shared} {shared'} {own} {own'} {bitmaps} {bitmaps'} {es} s o b j =
    subst (λ (w : List Tracked). AreJoined w own' bitmaps' es) s (subst (λ (w : List Tracked). AreJoined shared w bitmaps' es) o (subst (λ (w : List ℕ). AreJoined shared own w es) b j))

-- what is read is what is spelled
pub joined_alone : (shared own : List Tracked) (bitmaps : List ℕ) (es found : List Tracked) → joined_at shared own bitmaps ≡ Ok found → AreJoined shared own bitmaps es → found ≡ es
joined_alone shared own bitmaps es found read j = ok_is found es (sym read ∙ joined_again shared own bitmaps es j)

ok_or_err : (r : Result (List Tracked) IndexFault) (es : List Tracked) (fault : IndexFault) → r ≡ Ok es → r ≡ Err fault → ⊥
ok_or_err (Ok x) es fault a b = absurd cc
ok_or_err (Err x) es fault a b = absurd cc

pub joined_refused : (shared own : List Tracked) (bitmaps : List ℕ) (es : List Tracked) (fault : IndexFault) → (fault ≡ Memory) ⊎ (joined_at shared own bitmaps ≡ Err fault) → AreJoined shared own bitmaps es → fault ≡ Memory
joined_refused shared own bitmaps es fault (inl memory) j = memory
joined_refused shared own bitmaps es fault (inr e) j = absurd (ok_or_err (joined_at shared own bitmaps) es fault (joined_again shared own bitmaps es j) e)

-- ---- entries by their paths

pub all_map : (p : Entry → Bool) (q : Tracked → Bool) → ((e : Entry) → p e ≡ q (tracked e)) → (es : List Entry) → list_all p es ≡ list_all q (map tracked es)
all_map p q same [] = refl
all_map p q same (e ∷ es) = rw (same e, all_map p q same es) refl

pub unnamed_map : (es : List Entry) → list_all (λ e. eqb (length e.path) 0) es ≡ list_all (λ e. eqb (length e.path) 0) (map tracked es)
unnamed_map es = all_map (λ (e : Entry). eqb (length e.path) 0) (λ (t : Tracked). eqb (length t.path) 0) (λ e. refl) es

pub named_map : (es : List Entry) → list_all (λ e. not (eqb (length e.path) 0)) es ≡ list_all (λ e. not (eqb (length e.path) 0)) (map tracked es)
named_map es = all_map (λ (e : Entry). not (eqb (length e.path) 0)) (λ (t : Tracked). not (eqb (length t.path) 0)) (λ e. refl) es

pub are_replacements_by : (own new added : List Entry) (count : ℕ) (a b : Bool) → count ≤ length own → new ≡ take count own → added ≡ drop count own → a ≡ list_all (λ e. eqb (length e.path) 0) new → b ≡ list_all (λ e. not (eqb (length e.path) 0)) added
    → are_replacements (map tracked own) count ≡ (a && b)
unfolding are_replacements
are_replacements_by own new added count a b few new_is added_is a_is b_is =
    let long : leb count (length (map tracked own)) ≡ true = le-leb _ _ (omega (arith, few, length-map own tracked)) in
    let one : a ≡ list_all (λ e. eqb (length e.path) 0) (take count (map tracked own)) = a_is ∙ unnamed_map new ∙ ap (λ (v : List Entry). list_all (λ e. eqb (length e.path) 0) (map tracked v)) new_is ∙ ap (list_all (λ e. eqb (length e.path) 0)) (sym (take-map tracked count own)) in
    let two : b ≡ list_all (λ e. not (eqb (length e.path) 0)) (drop count (map tracked own)) = b_is ∙ named_map added ∙ ap (λ (v : List Entry). list_all (λ e. not (eqb (length e.path) 0)) (map tracked v)) added_is ∙ ap (list_all (λ e. not (eqb (length e.path) 0))) (sym (drop-map tracked count own)) in
    rw (long, ← one, ← two) refl

pub none_follow : (own new added : List Entry) (count : ℕ) (a : Bool) → count ≤ length own → new ≡ take count own → added ≡ drop count own → a ≡ list_all (λ e. eqb (length e.path) 0) new → a ≡ false → are_replacements (map tracked own) count ≡ false
none_follow own new added count a few new_is added_is a_is unset =
    are_replacements_by own new added count a (list_all (λ e. not (eqb (length e.path) 0)) added) few new_is added_is a_is refl ∙ rw unset refl

pub too_few : (own : List Entry) (count : ℕ) → length own < count → are_replacements (map tracked own) count ≡ false
unfolding are_replacements
too_few own count few =
    let short : leb count (length (map tracked own)) ≡ false = lt-leb _ _ (omega (arith, few, length-map own tracked)) in
    rw short refl
