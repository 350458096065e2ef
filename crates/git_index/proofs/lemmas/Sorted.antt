-- Entries in the order of their paths without case: where those of one path stand.
use Rattle.std.proofs.Common.{◌≡◌, ℕ, zero, suc, ◌+◌, ◌<◌, ◌≤◌, Bool, true, false, not, List, [], ◌∷◌, ◌++◌, length, get_or, map, Option, None, Some, option_map, refl, sym, ap, ◌∙◌, arith, inl, inr}
use Rattle.std.specs.Prelude.{if◌then◌else◌, slice_get}
use Rattle.std.specs.List.{last_or}
use Rattle.std.specs.Ordering.{is_eq, is_gt, is_lt, is_ne, nat_cmp, ordering_then}
use Rattle.std.specs.Str.{bytes_eq}
use Rattle.std.specs.declared.cmp.Ordering.{Ordering}
use Rattle.std.specs.declared.cmp.Ordering.TheVariants.{Less, Equal, Greater}
use Rattle.std.proofs.lemmas.Bool.{cases_lt, false≢true}
use Rattle.std.proofs.lemmas.Cmp.{ranked}
use Rattle.std.proofs.lemmas.List.{length-map}
use Rattle.std.proofs.lemmas.Map.Text.{is_eq-slice_cmp}
use Rattle.git_index.specs.declared.entry.Entry.{Entry}
use Rattle.git_index.specs.Entries.{HasBelow, InOrder, Tracked, tracked}
use Rattle.git_index.specs.Private.Search.{IsFirstFrom, path_at}
use Rattle.git_index.proofs.lemmas.Search.{lesser, paths_rise}
use Rattle.git_index.specs.Folding.{HasBelowFolded, alike, folded}
use Rattle.git_index.specs.Private.Folds.{bare}
use Rattle.git_index.proofs.lemmas.Folding.{cmp}

-- ---- what stands at a place

pub length_same : (sorted : List Entry) → length (map bare (map tracked sorted)) ≡ length sorted
length_same sorted = length-map (map tracked sorted) bare ∙ length-map sorted tracked

pub path_here : (sorted : List Entry) (i : ℕ) (d : Entry) → i < length sorted → path_at (map bare (map tracked sorted)) i ≡ folded (get_or sorted i d).path
path_here [] i d lt = absurd (omega arith)
path_here (f ∷ sorted) zero d lt = refl
path_here (f ∷ sorted) (suc i) d lt = path_here sorted i d (omega arith)

pub entry_here : (sorted : List Entry) (i : ℕ) (d : Entry) → i < length sorted → slice_get (map tracked sorted) i ≡ Some (tracked (get_or sorted i d))
entry_here [] i d lt = absurd (omega arith)
entry_here (f ∷ sorted) zero d lt = refl
entry_here (f ∷ sorted) (suc i) d lt = entry_here sorted i d (omega arith)

-- ---- the last of those with one path

abbrev pub IsAlike : List Tracked → List ℕ → ℕ → Bool
IsAlike entries path k = bytes_eq (path_at (map bare entries) k) (folded path)

pub none_alike : (entries : List Tracked) (path : List ℕ) → ((k : ℕ) → k < length entries → IsAlike entries path k ≡ false) → alike entries path ≡ []
none_alike [] path never = refl
none_alike (e ∷ entries) path never =
    let first : bytes_eq (folded e.path) (folded path) ≡ false = never 0 (omega arith) in
    rw first (none_alike entries path (λ k lt. never (suc k) (omega arith)))

last_alike_by : (b : Bool) (o : Option Tracked) (e f : Tracked) (rest : List Tracked) → ((p : Option Tracked) → last_or p rest ≡ Some f) → last_or o (if b then e ∷ rest else rest) ≡ Some f
last_alike_by true o e f rest last = last (Some e)
last_alike_by false o e f rest last = last o

pub last_alike : (o : Option Tracked) (entries : List Tracked) (path : List ℕ) (n : ℕ) → n < length entries → IsAlike entries path n ≡ true → ((k : ℕ) → n < k → k < length entries → IsAlike entries path k ≡ false)
    → (e : Tracked) × (slice_get entries n ≡ Some e) × ((p : Option Tracked) → last_or p (alike entries path) ≡ Some e)
last_alike o [] path n lt here later = absurd (omega arith)
last_alike o (e ∷ entries) path zero lt here later =
    let rest = none_alike entries path (λ k less. later (suc k) (omega arith) (omega arith)) in
    let first : bytes_eq (folded e.path) (folded path) ≡ true = here in
    (e, refl, λ p. rw (first, rest) refl)
last_alike o (e ∷ entries) path (suc n) lt here later =
    let more = last_alike o entries path n (omega arith) here (λ k less within. later (suc k) (omega arith) (omega arith)) in
    (more.0, more.1, λ p. last_alike_by (bytes_eq (folded e.path) (folded path)) p e more.0 (alike entries path) more.2)

-- ---- a path and a zero byte stands right behind the path

behind_none : (x : List ℕ) → is_lt (cmp x []) ≡ false
behind_none [] = refl
behind_none (c ∷ x) = refl

zero_first : (b : ℕ) (x : List ℕ) (r : Ordering) → r ≡ nat_cmp b 0 → is_lt (ordering_then r (cmp x [])) ≡ false
zero_first b x Less is = let less : b < 0 = ranked b 0 Less is in absurd (omega arith)
zero_first b x Equal is = behind_none x
zero_first b x Greater is = refl

up_to_by : (x path : List ℕ) (r : Ordering) → is_lt (cmp x (path ++ 0 ∷ [])) ≡ not (is_gt (cmp x path)) → is_lt (ordering_then r (cmp x (path ++ 0 ∷ []))) ≡ not (is_gt (ordering_then r (cmp x path)))
up_to_by x path Less same = refl
up_to_by x path Equal same = same
up_to_by x path Greater same = refl

pub up_to : (x path : List ℕ) → is_lt (cmp x (path ++ 0 ∷ [])) ≡ not (is_gt (cmp x path))
up_to [] [] = refl
up_to [] (a ∷ path) = refl
up_to (b ∷ x) [] = zero_first b x (nat_cmp b 0) refl
up_to (b ∷ x) (a ∷ path) = up_to_by x path (nat_cmp b a) (up_to x path)

greater_apart : (r : Ordering) → not (is_gt r) ≡ false → is_eq r ≡ false
greater_apart Less is = absurd (false≢true (sym is))
greater_apart Equal is = absurd (false≢true (sym is))
greater_apart Greater is = refl

less_apart : (r : Ordering) → is_lt r ≡ true → is_eq r ≡ false
less_apart Less is = refl
less_apart Equal is = absurd (false≢true is)
less_apart Greater is = absurd (false≢true is)

is_less : (r : Ordering) → not (is_gt r) ≡ true → is_eq r ≡ false → is_lt r ≡ true
is_less Less up apart = refl
is_less Equal up apart = absurd (false≢true (sym apart))
is_less Greater up apart = absurd (false≢true up)

module _ (entries : List Tracked) (path : List ℕ) (behind : ℕ) (found : IsFirstFrom (map bare entries) (folded path ++ 0 ∷ []) behind) where
  abbrev here : ℕ → List ℕ
  here k = path_at (map bare entries) k

  all_of : length (map bare entries) ≡ length entries
  all_of = length-map entries bare

  -- what stands behind isn't of this path
  pub apart_behind : (k : ℕ) → behind ≤ k → k < length entries → IsAlike entries path k ≡ false
  apart_behind k le lt =
      let more : not (is_gt (cmp (here k) (folded path))) ≡ false = sym (up_to (here k) (folded path)) ∙ found.behind k le (omega (arith, all_of)) in
      sym (is_eq-slice_cmp (here k) (folded path)) ∙ greater_apart (cmp (here k) (folded path)) more

  -- nor does what stands before, where the last one isn't
  pub apart_before : InOrder (map bare entries) → (n : ℕ) → n + 1 ≡ behind → is_eq (cmp (here n) (folded path)) ≡ false → (k : ℕ) → k < behind → IsAlike entries path k ≡ false
  apart_before order n is apart k lt =
      let up : not (is_gt (cmp (here n) (folded path))) ≡ true = sym (up_to (here n) (folded path)) ∙ found.before n (omega arith) in
      let less : is_lt (cmp (here n) (folded path)) ≡ true = is_less (cmp (here n) (folded path)) up apart in
      let rise : is_gt (cmp (here k) (here n)) ≡ false = paths_rise (map bare entries) order k n (omega arith) (omega (arith, found.within)) in
      let lower : is_lt (cmp (here k) (folded path)) ≡ true = lesser (here k) (here n) (folded path) rise less in
      sym (is_eq-slice_cmp (here k) (folded path)) ∙ less_apart (cmp (here k) (folded path)) lower

  -- so none is of this path
  pub none_apart : InOrder (map bare entries) → (n : ℕ) → n + 1 ≡ behind → is_eq (cmp (here n) (folded path)) ≡ false → alike entries path ≡ []
  none_apart order n is apart = none_alike entries path (λ k lt. elim (cases_lt k behind) [ inl less ↦ apart_before order n is apart k less | inr le ↦ apart_behind k le lt ])

  pub none_at_all : behind ≡ 0 → alike entries path ≡ []
  none_at_all is = none_alike entries path (λ k lt. apart_behind k (omega arith) lt)

  -- or the one before is the last
  pub last_before : (n : ℕ) → n + 1 ≡ behind → is_eq (cmp (here n) (folded path)) ≡ true → (e : Tracked) × (slice_get entries n ≡ Some e) × (last_or None (alike entries path) ≡ Some e)
  last_before n is same =
      let last = last_alike None entries path n (omega (arith, found.within, all_of)) (sym (is_eq-slice_cmp (here n) (folded path)) ∙ same) (λ k lt within. apart_behind k (omega arith) within) in
      (last.0, last.1, last.2 None)

-- ---- what lies below a folder

bare_at : (entries : List Tracked) (i : ℕ) (e : Tracked) → slice_get entries i ≡ Some e → slice_get (map bare entries) i ≡ Some (bare e)
bare_at [] i e is = absurd cc
bare_at (f ∷ entries) zero e is = let same : f ≡ e = cc in ap (λ (t : Tracked). Some (bare t)) same
bare_at (f ∷ entries) (suc i) e is = bare_at entries i e is

at_bare : (entries : List Tracked) (i : ℕ) (b : Tracked) → slice_get (map bare entries) i ≡ Some b → (e : Tracked) × (slice_get entries i ≡ Some e) × (bare e ≡ b)
at_bare [] i b is = absurd cc
at_bare (f ∷ entries) zero b is = (f, refl, cc)
at_bare (f ∷ entries) (suc i) b is = at_bare entries i b is

pub below_bare : (entries : List Tracked) (folder : List ℕ) → HasBelow (map bare entries) (folded folder) → HasBelowFolded entries folder
below_bare entries folder has =
    let found = at_bare entries has.0 has.1 has.3 in
    (has.0, found.0, has.2, found.1, ap (λ (t : Tracked). t.path) found.2 ∙ has.4)

pub bare_below : (entries : List Tracked) (folder : List ℕ) → HasBelowFolded entries folder → HasBelow (map bare entries) (folded folder)
bare_below entries folder has = (has.0, bare has.1, has.2, bare_at entries has.0 has.1 has.3, has.4)

-- ---- what is told of the last

pub last_of_none : {entries : List Tracked} → entries ≡ [] → option_map (λ (e : Tracked). e.kind) (last_or None entries) ≡ None
last_of_none none = ap (λ (es : List Tracked). option_map (λ (e : Tracked). e.kind) (last_or None es)) none

pub same_kind : (entries : List Tracked) (n : ℕ) (e f : Tracked) (last : Option Tracked) → slice_get entries n ≡ Some e → slice_get entries n ≡ Some f → last ≡ Some e → Some f.kind ≡ option_map (λ (t : Tracked). t.kind) last
same_kind entries n e f last at is found =
    let same : f ≡ e = cc in
    ap (λ (t : Tracked). Some t.kind) same ∙ sym (ap (option_map (λ (t : Tracked). t.kind)) found)

pub tell_apart : (r : Ordering) → is_ne r ≡ true → is_eq r ≡ false
tell_apart Less is = refl
tell_apart Equal is = absurd (false≢true is)
tell_apart Greater is = refl

pub tell_equal : (r : Ordering) → is_ne r ≡ false → is_eq r ≡ true
tell_equal Less is = absurd (false≢true (sym is))
tell_equal Equal is = refl
tell_equal Greater is = absurd (false≢true (sym is))
