-- Chains of rows: one row more, and one step down.
use Rattle.std.proofs.Common.{◌≡◌, ◌≢◌, inl, inr, ⊎_elim, ℕ, ◌+◌, ◌-◌, ◌%◌, ◌<◌, ◌≤◌, Bool, List, [], ◌∷◌, ◌++◌, length, get_or, slice_set, replicate, Some, sym, ◌∙◌, ap, subst, arith, length-append}
use Rattle.std.specs.Prelude.{if◌then◌else◌, slice_get}
use Rattle.std.proofs.Math.Seq.{get_or-append_seam}
use Rattle.std.proofs.Math.ListN.{get_or-append}
use Rattle.std.proofs.lemmas.Bool.{cases_eq, le-ltb, lt-ltb}
use Rattle.std.proofs.lemmas.List.{get_or-map, get_or-replicate, get_or-set_other, get_or-set_same, length-map, length-replicate, length-set, map-append}
use Rattle.std.proofs.lemmas.Option.{get_or_from_slice_get, none-some, slice_get_within}
use Rattle.glob_lists.specs.declared.asks.row.Row.{Row}
use Rattle.glob_lists.specs.declared.link.Link.{Link}
use Rattle.glob_lists.specs.declared.link.TheConstants.Link.{NONE}
use Rattle.glob_lists.specs.Private.Asks.Rows.{HasNoEnd, HasSomeEnd}
use Rattle.glob_lists.specs.Private.Lists.Chains.{AreChained, IsChained, IsLastBelow, chain_of, chains_of, end_chain, links_of}
use Rattle.glob_lists.proofs.lemmas.Elements.{slice_get-push_cases}

-- ---- building

pub AreChained-none : (count : ℕ) (heads : List Link) → heads ≡ replicate count NONE → AreChained [] heads
AreChained-none count heads zeros =
    let many : length heads ≡ count = ap (λ (xs : List Link). length xs) zeros ∙ length-replicate count NONE in record {
      whole = λ m row got. absurd (none-some row got);
      linked = record {
        head = λ chain below.
            let first : get_or heads chain NONE ≡ NONE = ap (λ (xs : List Link). get_or xs chain NONE) zeros ∙ get_or-replicate count chain NONE NONE (omega arith) in
            let zero : (get_or heads chain NONE).0 ≡ 0 = ap (λ (link : Link). link.0) first in
            record { below = omega arith; others = λ m low high. absurd (omega arith); here = λ some. absurd (omega arith) };
        link = λ i inside. absurd (omega arith);
      };
    }

-- the place stays the last one of its chain below an end, where chains are added
last_stays : (chains : List ℕ) (added chain end : ℕ) (r : Link) → end ≤ length chains → IsLastBelow chains chain end r → IsLastBelow (chains ++ added ∷ []) chain end r
last_stays chains added chain end r inside h =
    let low = h.below in record {
      below = h.below;
      others = λ m from below same. h.others m from below (sym (get_or-append chains (added ∷ []) 0 m (omega arith)) ∙ same);
      here = λ some. get_or-append chains (added ∷ []) 0 (r.0 - 1) (omega arith) ∙ h.here some;
    }

-- a chain that isn't added has its last place where it was
last_of_others : (chains : List ℕ) (added chain : ℕ) (r : Link) → chain ≢ added → IsLastBelow chains chain (length chains) r
    → IsLastBelow (chains ++ added ∷ []) chain (length (chains ++ added ∷ [])) r
last_of_others chains added chain r other h =
    let low = h.below in
    let long : length (chains ++ added ∷ []) ≡ length chains + 1 = length-append chains (added ∷ []) in record {
      below = omega arith;
      others = λ m from below same. ⊎_elim
          (λ (here : m ≡ length chains). other (sym (sym (ap (λ (k : ℕ). get_or (chains ++ added ∷ []) k 0) here ∙ get_or-append_seam chains added [] 0) ∙ same)))
          (λ (before : m ≡ length chains → ⊥). h.others m from (omega arith) (sym (get_or-append chains (added ∷ []) 0 m (omega arith)) ∙ same))
          (cases_eq m (length chains));
      here = λ some. get_or-append chains (added ∷ []) 0 (r.0 - 1) (omega arith) ∙ h.here some;
    }

-- the added place is the last one of its chain
last_of_its_own : (chains : List ℕ) (added : ℕ) (r : Link) → r.0 ≡ length chains + 1 → IsLastBelow (chains ++ added ∷ []) added (length (chains ++ added ∷ [])) r
last_of_its_own chains added r is =
    let long : length (chains ++ added ∷ []) ≡ length chains + 1 = length-append chains (added ∷ []) in record {
      below = omega arith;
      others = λ m from below. absurd (omega arith);
      here = λ some. (let place : r.0 - 1 ≡ length chains = omega arith in
          ap (λ (k : ℕ). get_or (chains ++ added ∷ []) k 0) place ∙ get_or-append_seam chains added [] 0);
    }

IsChained-more : (chains : List ℕ) (links heads : List Link) (added : ℕ) (head : Link) → added < length heads → length links ≡ length chains → head.0 ≡ length chains + 1 → IsChained chains links heads
    → IsChained (chains ++ added ∷ []) (links ++ get_or heads added NONE ∷ []) (slice_set heads added head)
IsChained-more chains links heads added head small same is h =
    let long : length (chains ++ added ∷ []) ≡ length chains + 1 = length-append chains (added ∷ []) in
    let wide : length (slice_set heads added head) ≡ length heads = length-set heads added head in record {
      head = λ chain below. ⊎_elim
          (λ (own : chain ≡ added).
          let value : head ≡ get_or (slice_set heads added head) chain NONE =
          sym (ap (λ (k : ℕ). get_or (slice_set heads added head) k NONE) own ∙ get_or-set_same heads added head NONE (omega arith)) in
          subst (λ (c : ℕ). IsLastBelow (chains ++ added ∷ []) c (length (chains ++ added ∷ [])) (get_or (slice_set heads added head) chain NONE)) (sym own)
          (subst (IsLastBelow (chains ++ added ∷ []) added (length (chains ++ added ∷ []))) value (last_of_its_own chains added head is)))
          (λ (other : chain ≡ added → ⊥).
          subst (IsLastBelow (chains ++ added ∷ []) chain (length (chains ++ added ∷ []))) (sym (get_or-set_other heads added chain head NONE other))
          (last_of_others chains added chain (get_or heads chain NONE) other (h.head chain (omega arith))))
          (cases_eq chain added);
      link = λ i inside. ⊎_elim
          (λ (here : i ≡ length chains).
          let chain_is : added ≡ get_or (chains ++ added ∷ []) i 0 = sym (ap (λ (k : ℕ). get_or (chains ++ added ∷ []) k 0) here ∙ get_or-append_seam chains added [] 0) in
          let link_is : get_or heads added NONE ≡ get_or (links ++ get_or heads added NONE ∷ []) i NONE =
          sym (ap (λ (k : ℕ). get_or (links ++ get_or heads added NONE ∷ []) k NONE) (here ∙ sym same) ∙ get_or-append_seam links (get_or heads added NONE) [] NONE) in
          subst (λ (c : ℕ). IsLastBelow (chains ++ added ∷ []) c i (get_or (links ++ get_or heads added NONE ∷ []) i NONE)) chain_is
          (subst (IsLastBelow (chains ++ added ∷ []) added i) link_is
          (subst (λ (k : ℕ). IsLastBelow (chains ++ added ∷ []) added k (get_or heads added NONE)) (sym here)
          (last_stays chains added added (length chains) (get_or heads added NONE) (omega arith) (h.head added small)))))
          (λ (before : i ≡ length chains → ⊥).
          let old : i < length chains = omega arith in
          let chain_is : get_or chains i 0 ≡ get_or (chains ++ added ∷ []) i 0 = sym (get_or-append chains (added ∷ []) 0 i old) in
          let link_is : get_or links i NONE ≡ get_or (links ++ get_or heads added NONE ∷ []) i NONE = sym (get_or-append links (get_or heads added NONE ∷ []) NONE i (omega arith)) in
          subst (λ (c : ℕ). IsLastBelow (chains ++ added ∷ []) c i (get_or (links ++ get_or heads added NONE ∷ []) i NONE)) chain_is
          (subst (IsLastBelow (chains ++ added ∷ []) (get_or chains i 0) i) link_is
          (last_stays chains added (get_or chains i 0) i (get_or links i NONE) (omega arith) (h.link i old))))
          (cases_eq i (length chains));
    }

-- one row more
pub AreChained-push : (rows : List Row) (heads heads' : List Link) (row added : Row) (chain : ℕ) (head : Link) → chain < length heads → chain ≡ chain_of (length heads) row → head.0 ≡ length rows + 1
    → heads' ≡ slice_set heads chain head → added ≡ record row { before = get_or heads chain NONE } → row.spare % 8 ≡ 0 → AreChained rows heads → AreChained (rows ++ added ∷ []) heads'
AreChained-push rows heads heads' row added chain head small is here set same whole h =
    let count = length heads in
    let long : length (chains_of count rows) ≡ length rows = length-map rows (chain_of count) in
    let long' : length (links_of rows) ≡ length rows = length-map rows (λ (seen : Row). seen.before) in
    let wide : length heads ≡ length heads' = sym (ap (λ (xs : List Link). length xs) set ∙ length-set heads chain head) in
    let chain_is : chain ≡ chain_of count added = is ∙ sym (ap (chain_of count) same) in
    let link_is : get_or heads chain NONE ≡ added.before = sym (ap (λ (seen : Row). seen.before) same) in
    let chains : chains_of count rows ++ chain ∷ [] ≡ chains_of count (rows ++ added ∷ []) =
    ap (λ (c : ℕ). chains_of count rows ++ c ∷ []) chain_is ∙ sym (map-append (chain_of count) rows (added ∷ [])) in
    let links : links_of rows ++ get_or heads chain NONE ∷ [] ≡ links_of (rows ++ added ∷ []) =
    ap (λ (link : Link). links_of rows ++ link ∷ []) link_is ∙ sym (map-append (λ (seen : Row). seen.before) rows (added ∷ [])) in
    let more = IsChained-more (chains_of count rows) (links_of rows) heads chain head small (omega arith) (omega arith) h.linked in record {
      whole = λ m r got. elim (slice_get-push_cases rows added m r got) [
        | inl old ↦ h.whole m r old
        | inr new ↦ subst (λ (n : ℕ). n % 8 ≡ 0) (sym (ap (λ (seen : Row). seen.spare) (new.1 ∙ same))) whole
      ];
      linked = subst (λ (n : ℕ). IsChained (chains_of n (rows ++ added ∷ [])) (links_of (rows ++ added ∷ [])) heads') wide
          (subst (IsChained (chains_of count (rows ++ added ∷ [])) (links_of (rows ++ added ∷ []))) (sym set)
          (subst (λ (xs : List ℕ). IsChained xs (links_of (rows ++ added ∷ [])) (slice_set heads chain head)) chains
          (subst (λ (xs : List Link). IsChained (chains_of count rows ++ chain ∷ []) xs (slice_set heads chain head)) links more)));
    }

-- ---- the chain of a row

pub chain_of-end : (count : ℕ) (row : Row) → HasSomeEnd row → chain_of count row ≡ end_chain count row.asked
chain_of-end count row some = ap (λ (b : Bool). if b then end_chain count row.asked else 0) (lt-ltb row.spare 64 some)

pub chain_of-none : (count : ℕ) (row : Row) → HasNoEnd row → chain_of count row ≡ 0
chain_of-none count row none = ap (λ (b : Bool). if b then end_chain count row.asked else 0) (le-ltb row.spare 64 none)

pub chain_at : (count : ℕ) (rows : List Row) (m : ℕ) (row : Row) → slice_get rows m ≡ Some row → get_or (chains_of count rows) m 0 ≡ chain_of count row
chain_at count rows m row got = get_or-map (chain_of count) rows m row 0 (slice_get_within rows m row got) ∙ ap (chain_of count) (get_or_from_slice_get rows m row row got)

-- ---- one step down

-- a place that lies below a nearer end stays the last one of its chain
pub IsLastBelow-nearer : (chains : List ℕ) (chain end nearer : ℕ) (link : Link) → nearer ≤ end → link.0 ≤ nearer → IsLastBelow chains chain end link → IsLastBelow chains chain nearer link
IsLastBelow-nearer chains chain end nearer link near low h = record { below = low; others = λ m from below. h.others m from (omega arith); here = h.here }

-- a row is linked to the last one before it of its chain
pub before_of : (rows : List Row) (heads : List Link) → AreChained rows heads → (m : ℕ) (row : Row) → slice_get rows m ≡ Some row
    → IsLastBelow (chains_of (length heads) rows) (get_or (chains_of (length heads) rows) m 0) m row.before
before_of rows heads chained m row got =
    let chains = chains_of (length heads) rows in
    let inside = slice_get_within rows m row got in
    let long : length chains ≡ length rows = length-map rows (chain_of (length heads)) in
    let link_is : get_or (links_of rows) m NONE ≡ row.before = get_or-map (λ (seen : Row). seen.before) rows m row NONE inside ∙ ap (λ (seen : Row). seen.before) (get_or_from_slice_get rows m row row got) in
    subst (IsLastBelow chains (get_or chains m 0) m) link_is (chained.linked.link m (omega arith))
