-- What sorting entries by their paths without case makes of them.
use Rattle.std.proofs.Common.{◌≡◌, ℕ, suc, ◌+◌, ◌<◌, Bool, true, false, not, ◌&&◌, List, [], ◌∷◌, ◌++◌, length, get_or, map, filter, take, refl, sym, ap, subst, ◌∙◌, arith, inl, inr}
use Rattle.std.specs.Prelude.{if◌then◌else◌}
use Rattle.std.specs.Cmp.{IsStrictWeakOrder}
use Rattle.std.specs.Fn.{Called, ComparesAs}
use Rattle.std.specs.List.Sorted.{IsSortedBy, IsStableBy, ties}
use Rattle.std.specs.Ordering.{is_eq, is_lt, ordering_reverse}
use Rattle.std.specs.Str.{bytes_eq}
use Rattle.std.specs.declared.cmp.Ordering.{Ordering}
use Rattle.std.specs.declared.cmp.Ordering.TheVariants.{Less, Equal, Greater}
use Rattle.std.proofs.lemmas.Bool.{false≢true}
use Rattle.std.proofs.lemmas.Cmp.{nat_list_cmp_total}
use Rattle.std.proofs.lemmas.Fn.{always_returns_same}
use Rattle.std.proofs.lemmas.List.{get_or-map, length-map}
use Rattle.std.proofs.lemmas.List.MinMax.{ranks_by}
use Rattle.std.proofs.lemmas.Map.Lookups.{exact_bytes}
use Rattle.std.proofs.Math.Seq.{take-suc}
use Rattle.std.proofs.lemmas.Map.Text.{is_eq-slice_cmp}
use Rattle.std.proofs.lemmas.Slice.Eq.{bytes_eq-Decides}
use Rattle.git_index.specs.declared.entry.Entry.{Entry}
use Rattle.git_index.specs.Entries.{ComesBefore, InOrder, Tracked, tracked}
use Rattle.git_index.specs.Folding.{alike, folded}
use Rattle.git_index.specs.Private.Folds.{bare}
use Rattle.git_index.proofs.lemmas.Folding.{cmp}
use denote.Param.Members.{Mut}
use denote.Ref.{Bor}

abbrev pub key : Entry → List ℕ
key entry = folded entry.path

abbrev pub is_before : Entry → Entry → Bool
is_before x y = is_lt (cmp (key x) (key y))

-- ---- they are in order

rises_by : (a b : Tracked) (r : Ordering) → cmp (folded a.path) (folded b.path) ≡ r → is_lt (cmp (folded b.path) (folded a.path)) ≡ false → ComesBefore (bare a) (bare b)
rises_by a b Less is up = inl is
rises_by a b Equal is up = inr (exact_bytes (folded a.path) (folded b.path) is, omega arith, omega arith)
rises_by a b Greater is up = absurd (false≢true (sym up ∙ ap is_lt (nat_list_cmp_total.antisymm (folded b.path) (folded a.path) ∙ ap ordering_reverse is)))

pub in_order : (sorted : List Entry) → IsSortedBy is_before sorted → InOrder (map bare (map tracked sorted))
in_order [] rise = tt
in_order (x ∷ []) rise = tt
in_order (x ∷ y ∷ sorted) rise = (
  rises_by (tracked x) (tracked y) (cmp (key x) (key y)) refl (rise 0 x (omega arith) (omega arith)),
  in_order (y ∷ sorted) (λ k d le lt. let next : suc k + 1 ≡ suc (k + 1) = omega arith in subst (λ (n : ℕ). is_before (get_or (x ∷ y ∷ sorted) n d) (get_or (y ∷ sorted) k d) ≡ false) next (rise (suc k) d (omega arith) (omega arith))),
)

-- ---- those of one path stay as they are

abbrev pub has : List ℕ → Entry → Bool
has path entry = bytes_eq (key entry) (folded path)

alike_by : (b : Bool) (x : Entry) (front : List Tracked) (rest : List Entry) → front ≡ map tracked rest → (if b then tracked x ∷ front else front) ≡ map tracked (if b then x ∷ rest else rest)
alike_by true x front rest same = ap (λ (es : List Tracked). tracked x ∷ es) same
alike_by false x front rest same = same

alike_kept : (entries : List Entry) (path : List ℕ) → alike (map tracked entries) path ≡ map tracked (filter (has path) entries)
alike_kept [] path = refl
alike_kept (x ∷ entries) path = alike_by (has path x) x (alike (map tracked entries) path) (filter (has path) entries) (alike_kept entries path)

ties_of : (r : Ordering) → (not (is_lt r) && not (is_lt (ordering_reverse r))) ≡ is_eq (ordering_reverse r)
ties_of Less = refl
ties_of Equal = refl
ties_of Greater = refl

ties_by_path : (x y : Entry) (path : List ℕ) → key x ≡ folded path → ties is_before x y ≡ has path y
ties_by_path x y path is =
    ap (λ (r : Ordering). not (is_lt (cmp (key x) (key y))) && not (is_lt r)) (nat_list_cmp_total.antisymm (key y) (key x))
    ∙ ties_of (cmp (key x) (key y))
    ∙ ap is_eq (sym (nat_list_cmp_total.antisymm (key y) (key x)))
    ∙ is_eq-slice_cmp (key y) (key x)
    ∙ ap (bytes_eq (key y)) is

filter_same : (p q : Entry → Bool) (xs : List Entry) → ((x : Entry) → p x ≡ q x) → filter p xs ≡ filter q xs
filter_same p q [] same = refl
filter_same p q (x ∷ xs) same = rw (same x, filter_same p q xs same) refl

first_by : (b : Bool) (p : Entry → Bool) (z x : Entry) (rest found : List Entry) → p z ≡ b → (if b then z ∷ rest else rest) ≡ x ∷ found → (rest ≡ x ∷ found → p x ≡ true) → p x ≡ true
first_by true p z x rest found is first later = let same : z ≡ x = cc in ap p (sym same) ∙ is
first_by false p z x rest found is first later = later first

first_passes : (p : Entry → Bool) (xs : List Entry) (x : Entry) (found : List Entry) → filter p xs ≡ x ∷ found → p x ≡ true
first_passes p [] x found is = absurd cc
first_passes p (z ∷ xs) x found is = first_by (p z) p z x (filter p xs) found refl is (first_passes p xs x found)

module _ (sorted entries : List Entry) (stable : IsStableBy is_before entries sorted) (path : List ℕ) where
  with_one : (x : Entry) → has path x ≡ true → filter (has path) sorted ≡ filter (has path) entries
  with_one x is =
      let same : key x ≡ folded path = (bytes_eq-Decides (key x) (folded path)).0 is in
      sym (filter_same (ties is_before x) (has path) sorted (λ y. ties_by_path x y path same))
      ∙ stable x
      ∙ filter_same (ties is_before x) (has path) entries (λ y. ties_by_path x y path same)

  by_both : (some other : List Entry) → filter (has path) sorted ≡ some → filter (has path) entries ≡ other → filter (has path) sorted ≡ filter (has path) entries
  by_both (x ∷ some) other is are = with_one x (first_passes (has path) sorted x some is)
  by_both [] (x ∷ other) is are = with_one x (first_passes (has path) entries x other are)
  by_both [] [] is are = is ∙ sym are

  pub alike_stay : alike (map tracked sorted) path ≡ alike (map tracked entries) path
  alike_stay = alike_kept sorted path ∙ ap (map tracked) (by_both (filter (has path) sorted) (filter (has path) entries) refl refl) ∙ sym (alike_kept entries path)

-- ---- what `sort_by` ensures

module _ {F : Type 0} {g : Mut F (Bor Entry × (Bor Entry × Unit {0})) Ordering} {f : F} (compares : (a : Bor Entry × (Bor Entry × Unit {0})) (r : Ordering) (q : F) → Called g f a r q → (r ≡ cmp (key a.0.now) (key a.1.0.now)) × (q ≡ f)) where
  compares_as : ComparesAs g is_before f
  compares_as = always_returns_same g (λ a r. is_lt r ≡ is_before a.0.now a.1.0.now) f (λ a r q k. (ap is_lt (compares a r q k).0, (compares a r q k).1))

  pub sorted_in_order : (sorted : List Entry) → ((lt : Entry → Entry → Bool) → IsStrictWeakOrder lt → ComparesAs g lt f → IsSortedBy lt sorted) → InOrder (map bare (map tracked sorted))
  sorted_in_order sorted by = in_order sorted (by is_before (ranks_by nat_list_cmp_total key) compares_as)

  pub sorted_alike : (sorted entries : List Entry) → ((lt : Entry → Entry → Bool) → IsStrictWeakOrder lt → ComparesAs g lt f → IsStableBy lt entries sorted) → (path : List ℕ) → alike (map tracked sorted) path ≡ alike (map tracked entries) path
  sorted_alike sorted entries by = alike_stay sorted entries (by is_before (ranks_by nat_list_cmp_total key) compares_as)

-- ---- what is copied in turn

pub one_more : (entries : List Entry) (n : ℕ) (e : Entry) (copy front : List Tracked) → n < length entries → e ≡ get_or entries n e → front ≡ take n (map tracked entries) → copy ≡ tracked e ∷ [] → front ++ copy ≡ take (n + 1) (map tracked entries)
one_more entries n e copy front lt is same copied =
    let next : suc n ≡ n + 1 = omega arith in
    let at : get_or (map tracked entries) n (tracked e) ≡ tracked e = get_or-map tracked entries n e (tracked e) lt ∙ ap tracked (sym is) in
    ap (λ (es : List Tracked). es ++ copy) same
    ∙ ap (λ (es : List Tracked). take n (map tracked entries) ++ es) (copied ∙ ap (λ (t : Tracked). t ∷ []) (sym at))
    ∙ sym (take-suc (map tracked entries) n (tracked e) (omega (arith, length-map entries tracked)))
    ∙ ap (λ (k : ℕ). take k (map tracked entries)) next
