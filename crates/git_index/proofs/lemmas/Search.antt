-- Searching among entries in order.
use Rattle.std.proofs.Common.{◌≡◌, ℕ, zero, suc, ◌+◌, ◌<◌, ◌≤◌, Bool, true, false, eqb, List, [], ◌∷◌, ◌++◌, length, get_or, map, take, drop, Some, refl, sym, ap, ◌∙◌, append_assoc, arith, inl, inr}
use Rattle.std.specs.Prelude.{slice_get}
use Rattle.std.specs.Ordering.{is_lt, is_gt, nat_cmp, ordering_then}
use Rattle.std.specs.declared.cmp.Ordering.{Ordering}
use Rattle.std.specs.declared.cmp.Ordering.TheVariants.{Less, Equal, Greater}
use Rattle.std.specs.Cmp.Lexicographic.{pointwise, slice_cmp}
use Rattle.std.proofs.lemmas.Bool.{false≢true, cases_lt}
use Rattle.std.proofs.lemmas.Cmp.{nat_cmp_total, nat_list_cmp_total, ranked, tied_itself, upto}
use Rattle.std.proofs.lemmas.Bool.Decides.{Decides-eqb}
use Rattle.std.proofs.lemmas.List.{append-nil, drop_at, take_at, take-append-drop}
use Rattle.std.proofs.lemmas.Map.Lookups.{exact_bytes}
use Rattle.std.proofs.lemmas.Slice.Eq.{bytes_eq-Decides, starts_is}
use Rattle.git_index.specs.declared.entry.Entry.{Entry}
use Rattle.git_index.specs.Entries.{ComesBefore, HasBelow, InOrder, IsTracked, Tracked, tracked}
use Rattle.git_index.specs.Private.Search.{Continues, IsFirstFrom, path_at}
use Rattle.git_index.proofs.lemmas.Order.{path_equal}

abbrev pub cmp : List ℕ → List ℕ → Ordering
cmp = slice_cmp nat_cmp

-- ---- comparing with two parts

pub cmp-shorter : (path front end : List ℕ) → length path < length front → cmp path front ≡ cmp path (front ++ end)
cmp-shorter path [] end lt = absurd (omega arith)
cmp-shorter [] (f ∷ front) end lt = refl
cmp-shorter (p ∷ path) (f ∷ front) end lt = ap (ordering_then (nat_cmp p f)) (cmp-shorter path front end (omega arith))

then_assoc : (a b c : Ordering) → ordering_then (ordering_then a b) c ≡ ordering_then a (ordering_then b c)
then_assoc Less b c = refl
then_assoc Equal b c = refl
then_assoc Greater b c = refl

pub cmp-split : (path front end : List ℕ) → length front ≤ length path → ordering_then (cmp (take (length front) path) front) (cmp (drop (length front) path) end) ≡ cmp path (front ++ end)
cmp-split path [] end le = refl
cmp-split [] (f ∷ front) end le = absurd (omega arith)
cmp-split (p ∷ path) (f ∷ front) end le =
    then_assoc (nat_cmp p f) (cmp (take (length front) path) front) (cmp (drop (length front) path) end)
    ∙ ap (ordering_then (nat_cmp p f)) (cmp-split path front end (omega arith))

-- ---- paths rise

path_first : (a b : Tracked) → ComesBefore a b → is_gt (cmp a.path b.path) ≡ false
path_first a b (inl less) = ap is_gt less
path_first a b (inr same) = ap is_gt (path_equal a.path b.path same.0)

tail_in_order : (a : Tracked) (entries : List Tracked) → InOrder (a ∷ entries) → InOrder entries
tail_in_order a [] order = tt
tail_in_order a (b ∷ entries) order = order.1

first_is_least : (a : Tracked) (entries : List Tracked) → InOrder (a ∷ entries) → (k : ℕ) → k < length entries → is_gt (cmp a.path (path_at entries k)) ≡ false
first_is_least a [] order k lt = absurd (omega arith)
first_is_least a (b ∷ entries) order zero lt = path_first a b order.0
first_is_least a (b ∷ entries) order (suc k) lt = upto nat_list_cmp_total a.path b.path (path_at entries k) (path_first a b order.0) (first_is_least b entries order.1 k (omega arith))

pub paths_rise : (entries : List Tracked) → InOrder entries → (i j : ℕ) → i ≤ j → j < length entries → is_gt (cmp (path_at entries i) (path_at entries j)) ≡ false
paths_rise [] order i j le lt = absurd (omega arith)
paths_rise (a ∷ entries) order zero zero le lt = ap is_gt (tied_itself nat_list_cmp_total a.path)
paths_rise (a ∷ entries) order zero (suc j) le lt = first_is_least a entries order j (omega arith)
paths_rise (a ∷ entries) order (suc i) zero le lt = absurd (omega arith)
paths_rise (a ∷ entries) order (suc i) (suc j) le lt = paths_rise entries (tail_in_order a entries order) i j (omega arith) (omega arith)

-- ---- what one comparison tells of others

is_less : (r : Ordering) → is_lt r ≡ true → r ≡ Less
is_less Less e = refl
is_less Equal e = absurd (false≢true e)
is_less Greater e = absurd (false≢true e)

lesser_by : (r : Ordering) (x y z : List ℕ) → cmp x y ≡ r → is_gt r ≡ false → is_lt (cmp y z) ≡ true → is_lt (cmp x z) ≡ true
lesser_by Less x y z e up less = ap is_lt (nat_list_cmp_total.trans x y z e (is_less (cmp y z) less))
lesser_by Equal x y z e up less = rw (nat_list_cmp_total.congr x y z e) less
lesser_by Greater x y z e up less = absurd (false≢true (sym up))

pub lesser : (x y z : List ℕ) → is_gt (cmp x y) ≡ false → is_lt (cmp y z) ≡ true → is_lt (cmp x z) ≡ true
lesser x y z up less = lesser_by (cmp x y) x y z refl up less

not_true : (b : Bool) → (b ≡ true → ⊥) → b ≡ false
not_true true never = absurd (never refl)
not_true false never = refl

pub not_lesser : (x y z : List ℕ) → is_gt (cmp y x) ≡ false → is_lt (cmp y z) ≡ false → is_lt (cmp x z) ≡ false
not_lesser x y z up behind = not_true (is_lt (cmp x z)) (λ less. false≢true (sym behind ∙ lesser y x z up less))

pub alike_by : (r : Ordering) → is_lt r ≡ false → is_gt r ≡ false → r ≡ Equal
alike_by Less lt gt = absurd (false≢true (sym lt))
alike_by Equal lt gt = refl
alike_by Greater lt gt = absurd (false≢true (sym gt))

-- ---- what the search finds

pub at_place : (entries : List Tracked) (i : ℕ) (e : Tracked) → slice_get entries i ≡ Some e → (i < length entries) × (path_at entries i ≡ e.path)
at_place [] i e is = absurd cc
at_place (f ∷ entries) zero e is = let same : f ≡ e = cc in (omega arith, ap (λ (t : Tracked). t.path) same)
at_place (f ∷ entries) (suc i) e is = let more = at_place entries i e is in (omega arith, more.1)

place_of : (entries : List Tracked) (i : ℕ) → i < length entries → (e : Tracked) × (slice_get entries i ≡ Some e) × (path_at entries i ≡ e.path)
place_of [] i lt = absurd (omega arith)
place_of (f ∷ entries) zero lt = (f, refl, refl)
place_of (f ∷ entries) (suc i) lt = place_of entries i (omega arith)

pub path_at-get : (entries : List Entry) (i : ℕ) (d : Entry) → i < length entries → path_at (map tracked entries) i ≡ (get_or entries i d).path
path_at-get [] i d lt = absurd (omega arith)
path_at-get (f ∷ entries) zero d lt = refl
path_at-get (f ∷ entries) (suc i) d lt = path_at-get entries i d (omega arith)

-- an entry that isn't before what is sought stands at the first place or behind it
pub stands_behind : (entries : List Tracked) (sought : List ℕ) (first i : ℕ) → IsFirstFrom entries sought first → is_lt (cmp (path_at entries i) sought) ≡ false → first ≤ i
stands_behind entries sought first i found behind = elim (cases_lt i first) [ inl lt ↦ absurd (false≢true (sym behind ∙ found.before i lt)) | inr le ↦ le ]

pub tracked_is_first : (entries : List Tracked) (path : List ℕ) (first : ℕ) → InOrder entries → IsFirstFrom entries (path ++ []) first → IsTracked entries path → (first < length entries) × (path_at entries first ≡ path)
tracked_is_first entries path first order found has =
    let at = at_place entries has.0 has.1 has.2 in
    let whole : path ++ [] ≡ path = append-nil path in
    let is : path_at entries has.0 ≡ path = at.1 ∙ has.3 in
    let alike : cmp (path_at entries has.0) (path ++ []) ≡ Equal = path_equal (path_at entries has.0) (path ++ []) (is ∙ sym whole) in
    let behind = stands_behind entries (path ++ []) first has.0 found (ap is_lt alike) in
    let not_less : is_lt (cmp (path_at entries first) (path ++ [])) ≡ false = found.behind first (omega arith) (omega (arith, at.0)) in
    let not_more : is_gt (cmp (path_at entries first) (path ++ [])) ≡ false = rw (is ∙ sym whole) at (paths_rise entries order first has.0 behind at.0) in
    (omega (arith, at.0), exact_bytes (path_at entries first) (path ++ []) (alike_by (cmp (path_at entries first) (path ++ [])) not_less not_more) ∙ whole)

pub first_is_tracked : (entries : List Tracked) (path : List ℕ) (first : ℕ) → first < length entries → path_at entries first ≡ path → IsTracked entries path
first_is_tracked entries path first lt is = let at = place_of entries first lt in (first, at.0, at.1, sym at.2 ∙ is)

-- between a text and what it begins, each begins with it
begins_by : (a b : ℕ) (front rest path : List ℕ) (r : Ordering) → r ≡ nat_cmp b a → ordering_then r (cmp path front) ≡ cmp (b ∷ path) (a ∷ front) → is_lt (ordering_then r (cmp path front)) ≡ false → is_gt (ordering_then r (cmp path (front ++ rest))) ≡ false
    → (is_lt (cmp path front) ≡ false → is_gt (cmp path (front ++ rest)) ≡ false → (more : List ℕ) × (path ≡ front ++ more)) → (more : List ℕ) × (b ∷ path ≡ a ∷ (front ++ more))
begins_by a b front rest path Less is e low high within = absurd (false≢true (sym low))
begins_by a b front rest path Greater is e low high within = absurd (false≢true (sym high))
begins_by a b front rest path Equal is e low high within =
    let same : b ≡ a = ranked b a Equal is in
    let more = within low high in
    (more.0, rw same (ap (λ (w : List ℕ). a ∷ w) more.1))

begins_between : (front rest path : List ℕ) → is_lt (cmp path front) ≡ false → is_gt (cmp path (front ++ rest)) ≡ false → (more : List ℕ) × (path ≡ front ++ more)
begins_between [] rest path low high = (path, refl)
begins_between (a ∷ front) rest [] low high = absurd (false≢true (sym low))
begins_between (a ∷ front) rest (b ∷ path) low high = begins_by a b front rest path (nat_cmp b a) refl refl low high (λ l h. begins_between front rest path l h)

nat_alike : (a : ℕ) → nat_cmp a a ≡ Equal
nat_alike a = tied_itself nat_cmp_total a

-- what begins with a text isn't before it
not_before_front : (front rest : List ℕ) → is_lt (cmp (front ++ rest) front) ≡ false
not_before_front [] [] = refl
not_before_front [] (b ∷ rest) = refl
not_before_front (a ∷ front) rest = let same : nat_cmp a a ≡ Equal = nat_alike a in rw same (not_before_front front rest)

pub below_is_first : (entries : List Tracked) (folder : List ℕ) (first : ℕ) → InOrder entries → IsFirstFrom entries (folder ++ 47 ∷ []) first → HasBelow entries folder → (first < length entries) × Continues (path_at entries first) folder
below_is_first entries folder first order found has =
    let at = at_place entries has.0 has.1 has.3 in
    let front = folder ++ 47 ∷ [] in
    let is : path_at entries has.0 ≡ front ++ has.2 = at.1 ∙ has.4 ∙ sym (append_assoc folder (47 ∷ []) has.2) in
    let not_before : is_lt (cmp (path_at entries has.0) front) ≡ false = rw is (not_before_front front has.2) in
    let behind = stands_behind entries front first has.0 found not_before in
    let low = found.behind first (omega arith) (omega (arith, at.0)) in
    let high : is_gt (cmp (path_at entries first) (front ++ has.2)) ≡ false = rw is at (paths_rise entries order first has.0 behind at.0) in
    let more = begins_between front has.2 (path_at entries first) low high in
    (omega (arith, at.0), (more.0, more.1 ∙ append_assoc folder (47 ∷ []) more.0))

pub first_has_below : (entries : List Tracked) (folder : List ℕ) (first : ℕ) → first < length entries → Continues (path_at entries first) folder → HasBelow entries folder
first_has_below entries folder first lt goes = let at = place_of entries first lt in (first, at.0, goes.0, at.1, sym at.2 ∙ goes.1)

-- ---- a loop's step

pub lower_half : (entries : List Tracked) (sought : List ℕ) (middle : ℕ) → InOrder entries → middle < length entries → is_lt (cmp (path_at entries middle) sought) ≡ true → (k : ℕ) → k < middle + 1 → is_lt (cmp (path_at entries k) sought) ≡ true
lower_half entries sought middle order within less k lt = lesser (path_at entries k) (path_at entries middle) sought (paths_rise entries order k middle (omega arith) within) less

pub upper_half : (entries : List Tracked) (sought : List ℕ) (middle : ℕ) → InOrder entries → is_lt (cmp (path_at entries middle) sought) ≡ false → (k : ℕ) → middle ≤ k → k < length entries → is_lt (cmp (path_at entries k) sought) ≡ false
upper_half entries sought middle order behind k le lt = not_lesser (path_at entries k) (path_at entries middle) sought (paths_rise entries order middle k le lt) behind

-- ---- a path below a folder

pub not_below : (path folder : List ℕ) → pointwise eqb (take (length folder) path) folder ≡ false → Continues path folder → ⊥
not_below path folder differs goes =
    let front : take (length folder) path ≡ folder = ap (take (length folder)) goes.1 ∙ take_at folder (47 ∷ goes.0) (length folder) refl in
    false≢true (sym differs ∙ (bytes_eq-Decides (take (length folder) path) folder).1 front)

pub below_by : (path folder rest : List ℕ) (r : Bool) → pointwise eqb (take (length folder) path) folder ≡ true → rest ≡ drop (length folder) path → r ≡ pointwise eqb (47 ∷ []) (take 1 rest) → (r ≡ true → Continues path folder) × (Continues path folder → r ≡ true)
below_by path folder rest r same behind tested =
    let front : take (length folder) path ≡ folder = (bytes_eq-Decides (take (length folder) path) folder).0 same in
    let joined : path ≡ folder ++ rest = sym (take-append-drop (length folder) path) ∙ rw (front, ← behind) refl in
    let s = starts_is Decides-eqb rest (47 ∷ []) r tested in (
      λ yes. (drop 1 rest, joined ∙ ap (λ (w : List ℕ). folder ++ w) (s.0 yes)),
      λ goes. s.1 goes.0 (behind ∙ ap (drop (length folder)) goes.1 ∙ drop_at folder (47 ∷ goes.0) (length folder) refl),
    )
