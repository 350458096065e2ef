-- Paths that are put in order, each once.
use Rattle.std.proofs.Common.{◌≡◌, ◌≢◌, ◌⊎◌, inl, inr, ⊎_elim, ℕ, suc, ◌+◌, ◌<◌, true, false, List, [], ◌∷◌, ◌++◌, length, get_or, map, take, refl, sym, ap, subst, ◌∙◌, append_assoc, append-nil, arith}
use Rattle.std.specs.Prelude.{◌↔◌, ◌-◌, Bool, IsPermutation, IsSorted, IsTrue, Some, slice_get}
use Rattle.std.specs.Cmp.Lexicographic.{slice_cmp}
use Rattle.std.specs.List.{AllByRecursion}
use Rattle.std.specs.Ordering.{is_lt, nat_cmp}
use Rattle.std.proofs.lemmas.Bool.{false≢true}
use Rattle.std.specs.Str.{bytes_eq}
use Rattle.std.proofs.lemmas.List.{map-append, map_push, same_from_push, take_all, take_more}
use Rattle.std.proofs.lemmas.Option.{get_or_from_slice_get, slice_get_within}
use Rattle.std.proofs.lemmas.Slice.Eq.{bytes_eq-Decides}
use Rattle.std.proofs.lemmas.List.Sorted.{Contains-permutation}
use Rattle.tree_commands.specs.declared.files.pending.Pending.{Pending}
use Rattle.tree_commands.specs.Files.{ComesBefore}
use Rattle.tree_commands.specs.Private.Listing.{Among, AreDescending, EndsWith, path_of}
use Rattle.tree_commands.proofs.lemmas.AmongLemmas.{all_of, among_cases, among_contained, among_last, among_left, among_map, among_mapped, among_right, contains_among, of_all}
use Rattle.tree_commands.proofs.lemmas.OrderLemmas.{comes_before_other, not_behind_trans, same_between}

-- ---- lists that rise

-- no path comes before one that stands before it
abbrev pub AreRising : List (List ℕ) → Type 0
AreRising [] = Unit {0}
AreRising (path ∷ paths) = AllByRecursion (λ later. ¬ ComesBefore later path) paths × AreRising paths

module _ {X : Type 0} (bytes : X → List ℕ) where
  not_less : (x y : X) → is_lt (slice_cmp nat_cmp (bytes y) (bytes x)) ≡ false → ¬ ComesBefore (bytes y) (bytes x)
  not_less x y later before = false≢true (sym later ∙ ap is_lt before)

  next_sorted : (x y : X) (xs : List X) → IsSorted (λ a b. slice_cmp nat_cmp (bytes a) (bytes b)) (x ∷ y ∷ xs) → (k : ℕ) (d : X) → k + 1 < length (y ∷ xs)
      → is_lt (slice_cmp nat_cmp (bytes (get_or (y ∷ xs) (k + 1) d)) (bytes (get_or (y ∷ xs) k d))) ≡ false
  next_sorted x y xs sorted k d inside =
      let there = sorted (suc k) d (omega arith) (omega arith) in
      let place : suc k + 1 ≡ suc (k + 1) = omega arith in
      subst (λ n. is_lt (slice_cmp nat_cmp (bytes (get_or (x ∷ y ∷ xs) n d)) (bytes (get_or (y ∷ xs) k d))) ≡ false) place there

  pub rising : (xs : List X) → IsSorted (λ x y. slice_cmp nat_cmp (bytes x) (bytes y)) xs → AreRising (map bytes xs)
  rising [] sorted = tt
  rising (x ∷ []) sorted = (tt, tt)
  rising (x ∷ y ∷ xs) sorted =
      let rest = rising (y ∷ xs) (λ k d low high. next_sorted x y xs sorted k d high) in
      let first : ¬ ComesBefore (bytes y) (bytes x) = not_less x y (sorted 0 x (omega arith) (omega arith)) in
      ((first, all_of (λ later. ¬ ComesBefore later (bytes x)) (map bytes xs) (λ later among. not_behind_trans (bytes x) (bytes y) later first (of_all (λ l. ¬ ComesBefore l (bytes y)) (map bytes xs) rest.0 later among))), rest)

  pub permuted : (xs ys : List X) → IsPermutation xs ys → (path : List ℕ) → Among (map bytes xs) path → Among (map bytes ys) path
  permuted xs ys same path among =
      let at = among_mapped bytes xs path among in
      subst (Among (map bytes ys)) at.2 (among_map bytes ys at.0 (among_contained ys at.0 (Contains-permutation xs ys at.0 same (contains_among xs at.0 at.1))))

rising_front : (paths more : List (List ℕ)) → AreRising (paths ++ more) → AreRising paths
rising_front [] more rises = tt
rising_front (path ∷ paths) more rises = (
  all_of (λ later. ¬ ComesBefore later path) paths (λ later among. of_all (λ l. ¬ ComesBefore l path) (paths ++ more) rises.0 later (among_left paths more later among)),
  rising_front paths more rises.1,
)

rising_last : (paths : List (List ℕ)) (last : List ℕ) → AreRising (paths ++ last ∷ []) → (path : List ℕ) → Among paths path → ¬ ComesBefore last path
rising_last [] last rises path among = absurd among
rising_last (first ∷ paths) last rises path (inl is) = subst (λ p. ¬ ComesBefore last p) is (of_all (λ l. ¬ ComesBefore l first) (paths ++ last ∷ []) rises.0 last (among_last paths last))
rising_last (first ∷ paths) last rises path (inr more) = rising_last paths last rises.1 path more

descending_push : (paths : List (List ℕ)) (path : List ℕ) → AreDescending paths → ((one : List ℕ) → Among paths one → ComesBefore path one) → AreDescending (paths ++ path ∷ [])
descending_push [] path ordered before = (tt, tt)
descending_push (first ∷ paths) path ordered before = (
  all_of (λ later. ComesBefore later first) (paths ++ path ∷ []) (λ other among. ⊎_elim
      (λ (one : Among paths other). of_all (λ later. ComesBefore later first) paths ordered.0 other one)
      (λ (last : Among (path ∷ []) other). ⊎_elim (λ (is : path ≡ other). subst (λ p. ComesBefore p first) is (before first (inl refl))) (λ (never : ⊥). absurd never) last)
      (among_cases paths (path ∷ []) other among)),
  descending_push paths path ordered.1 (λ one among. before one (inr among)),
)

-- ---- the last path

last_split : {X : Type 0} (xs : List X) (last : X) → slice_get xs (length xs - 1) ≡ Some last → xs ≡ take (length xs - 1) xs ++ last ∷ []
last_split xs last there =
    let n : ℕ = length xs - 1 in
    let inside = slice_get_within xs (length xs - 1) last there in
    sym (take_all (length xs - 1 + 1) xs (omega arith)) ∙ take_more xs (length xs - 1) last inside ∙ ap (λ x. take (length xs - 1) xs ++ x ∷ []) (get_or_from_slice_get xs (length xs - 1) last last there)

module _ {X : Type 0} (bytes : X → List ℕ) (xs : List X) (last : X) (path : List ℕ) (there : slice_get xs (length xs - 1) ≡ Some last) where
  mapped : map bytes xs ≡ map bytes (take (length xs - 1) xs) ++ bytes last ∷ []
  mapped = ap (map bytes) (last_split xs last there) ∙ map_push bytes (take (length xs - 1) xs) last

  pub is_last_of : (test : Bool) → test ≡ bytes_eq (bytes last) path → IsTrue test ↔ EndsWith (map bytes xs) path
  is_last_of test same = (
    λ yes. (map bytes (take (length xs - 1) xs), mapped ∙ ap (λ b. map bytes (take (length xs - 1) xs) ++ b ∷ []) (let is = bytes_eq-Decides (bytes last) path in is.0 (sym same ∙ yes))),
    λ ends. (let both = same_from_push (map bytes (take (length xs - 1) xs)) ends.0 (bytes last) path (sym mapped ∙ ends.1) in let is = bytes_eq-Decides (bytes last) path in same ∙ is.1 both.1),
  )

-- ---- some are put, and some are left

pub record IsPutting (paths left : List (List ℕ)) (count : ℕ) (is_below : Bool) (old new : List Pending) : Type 0 where
  pub batch : List Pending
  pub joined : new ≡ old ++ batch
  pub counts : AllByRecursion (λ pending. pending.list_count ≡ count) batch
  pub belows : AllByRecursion (λ pending. pending.is_below ≡ is_below) batch
  pub descending : AreDescending (map path_of batch)
  pub rises : AreRising left
  pub less : (one other : List ℕ) → Among left one → Among (map path_of batch) other → ComesBefore one other
  pub same : (path : List ℕ) → Among paths path ↔ (Among left path ⊎ Among (map path_of batch) path)

pub putting_begins : (paths left : List (List ℕ)) (count : ℕ) (is_below : Bool) (old : List Pending) → AreRising left → ((path : List ℕ) → Among paths path ↔ Among left path) → IsPutting paths left count is_below old old
putting_begins paths left count is_below old rises same = record {
  batch = [];
  joined = sym (append-nil old);
  counts = tt;
  belows = tt;
  descending = tt;
  rises = rises;
  less = λ one other among never. absurd never;
  same = λ path. (let it = same path in (λ among. inl (it.0 among), λ either. ⊎_elim (λ (here : Among left path). it.1 here) (λ (never : ⊥). absurd never) either));
}

module _ (paths left : List (List ℕ)) (count : ℕ) (is_below : Bool) (old new : List Pending) (next : Pending) (level : next.list_count ≡ count) (same_below : next.is_below ≡ is_below) (it : IsPutting paths (left ++ path_of next ∷ []) count is_below old new) where
  -- one that stands there again is passed over
  pub putting_skips : EndsWith left (path_of next) → IsPutting paths left count is_below old new
  putting_skips again = record {
    batch = it.batch;
    joined = it.joined;
    counts = it.counts;
    belows = it.belows;
    descending = it.descending;
    rises = rising_front left (path_of next ∷ []) it.rises;
    less = λ one other among. it.less one other (among_left left (path_of next ∷ []) one among);
    same = λ path. (let each = it.same path in (
      λ among. ⊎_elim
          (λ (waits : Among (left ++ path_of next ∷ []) path). ⊎_elim
          (λ (here : Among left path). inl here)
          (λ (last : Among (path_of next ∷ []) path). ⊎_elim
          (λ (is : path_of next ≡ path). inl (subst (λ l. Among l path) (sym again.1) (subst (Among (again.0 ++ path_of next ∷ [])) is (among_last again.0 (path_of next)))))
          (λ (never : ⊥). absurd never)
          last)
          (among_cases left (path_of next ∷ []) path waits))
          (λ (put : Among (map path_of it.batch) path). inr put)
          (each.0 among),
      λ either. ⊎_elim
          (λ (here : Among left path). each.1 (inl (among_left left (path_of next ∷ []) path here)))
          (λ (put : Among (map path_of it.batch) path). each.1 (inr put))
          either,
    ));
  }

  -- another one is put
  is_least : (other : List ℕ) → Among (map path_of it.batch) other → ComesBefore (path_of next) other
  is_least other put = it.less (path_of next) other (among_last left (path_of next)) put

  -- all that is left comes before it
  left_before : ¬ EndsWith left (path_of next) → (one : List ℕ) → Among left one → ComesBefore one (path_of next)
  left_before alone one among = comes_before_other one (path_of next) (rising_last left (path_of next) it.rises one among) (λ is. last_is left alone one among is it.rises)
    where
      -- where one of those that are left is the next one, the last one is
      last_is : (ps : List (List ℕ)) → ¬ EndsWith ps (path_of next) → (p : List ℕ) → Among ps p → p ≡ path_of next → AreRising (ps ++ path_of next ∷ []) → ⊥
      last_is [] lone p among is rises = among
      last_is (q ∷ []) lone p (inl same) is rises = lone ([], ap (λ l. l ∷ []) (same ∙ is))
      last_is (q ∷ []) lone p (inr never) is rises = never
      last_is (q ∷ r ∷ ps) lone p (inr more) is rises =
          last_is (r ∷ ps) (λ ends. lone (q ∷ ends.0, ap (λ l. q ∷ l) ends.1)) p more is rises.1
      last_is (q ∷ r ∷ ps) lone p (inl same) is rises =
          -- what stands behind it comes neither before it nor behind the next one
          let not_less : ¬ ComesBefore r q = rises.0.0 in
          let not_more : ¬ ComesBefore (path_of next) r = rising_last (r ∷ ps) (path_of next) rises.1 r (inl refl) in
          last_is (r ∷ ps) (λ ends. lone (q ∷ ends.0, ap (λ l. q ∷ l) ends.1)) r (inl refl) (same_between r (path_of next) (subst (λ l. ¬ ComesBefore r l) (same ∙ is) not_less) not_more) rises.1

  pub putting_puts : ¬ EndsWith left (path_of next) → IsPutting paths left count is_below old (new ++ next ∷ [])
  putting_puts alone = record {
    batch = it.batch ++ next ∷ [];
    joined = ap (λ l. l ++ next ∷ []) it.joined ∙ append_assoc old it.batch (next ∷ []);
    counts = all_of (λ (p : Pending). p.list_count ≡ count) (it.batch ++ next ∷ []) (λ p among. ⊎_elim
        (λ (put : Among it.batch p). of_all (λ (q : Pending). q.list_count ≡ count) it.batch it.counts p put)
        (λ (last : Among (next ∷ []) p). ⊎_elim (λ (is : next ≡ p). subst (λ (q : Pending). q.list_count ≡ count) is level) (λ (never : ⊥). absurd never) last)
        (among_cases it.batch (next ∷ []) p among));
    belows = all_of (λ (p : Pending). p.is_below ≡ is_below) (it.batch ++ next ∷ []) (λ p among. ⊎_elim
        (λ (put : Among it.batch p). of_all (λ (q : Pending). q.is_below ≡ is_below) it.batch it.belows p put)
        (λ (last : Among (next ∷ []) p). ⊎_elim (λ (is : next ≡ p). subst (λ (q : Pending). q.is_below ≡ is_below) is same_below) (λ (never : ⊥). absurd never) last)
        (among_cases it.batch (next ∷ []) p among));
    descending = subst AreDescending (sym (map-append path_of it.batch (next ∷ []))) (descending_push (map path_of it.batch) (path_of next) it.descending is_least);
    rises = rising_front left (path_of next ∷ []) it.rises;
    less = λ one other among put. ⊎_elim
        (λ (before : Among (map path_of it.batch) other). it.less one other (among_left left (path_of next ∷ []) one among) before)
        (λ (last : Among (path_of next ∷ []) other). ⊎_elim (λ (is : path_of next ≡ other). subst (ComesBefore one) is (left_before alone one among)) (λ (never : ⊥). absurd never) last)
        (among_cases (map path_of it.batch) (path_of next ∷ []) other (subst (λ l. Among l other) (map-append path_of it.batch (next ∷ [])) put));
    same = λ path. (let each = it.same path in (
      λ among. ⊎_elim
          (λ (waits : Among (left ++ path_of next ∷ []) path). ⊎_elim
          (λ (here : Among left path). inl here)
          (λ (last : Among (path_of next ∷ []) path). inr (subst (λ l. Among l path) (sym (map-append path_of it.batch (next ∷ []))) (among_right (map path_of it.batch) (path_of next ∷ []) path last)))
          (among_cases left (path_of next ∷ []) path waits))
          (λ (put : Among (map path_of it.batch) path). inr (subst (λ l. Among l path) (sym (map-append path_of it.batch (next ∷ []))) (among_left (map path_of it.batch) (path_of next ∷ []) path put)))
          (each.0 among),
      λ either. ⊎_elim
          (λ (here : Among left path). each.1 (inl (among_left left (path_of next ∷ []) path here)))
          (λ (put : Among (map path_of (it.batch ++ next ∷ [])) path). ⊎_elim
          (λ (before : Among (map path_of it.batch) path). each.1 (inr before))
          (λ (last : Among (path_of next ∷ []) path). each.1 (inl (among_right left (path_of next ∷ []) path last)))
          (among_cases (map path_of it.batch) (path_of next ∷ []) path (subst (λ l. Among l path) (map-append path_of it.batch (next ∷ [])) put)))
          either,
    ));
  }
