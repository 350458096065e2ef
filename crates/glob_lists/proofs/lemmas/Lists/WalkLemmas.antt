-- A walk over chained rows: what lies above its next rows doesn't pass, one step down, and how it begins.
use Rattle.std.proofs.Common.{◌≡◌, ◌≢◌, ◌⊎◌, inl, inr, ⊎_elim, ℕ, ◌+◌, ◌-◌, ◌*◌, ◌/◌, ◌%◌, ◌<◌, ◌≤◌, List, [], ◌∷◌, ◌++◌, length, get_or, slice_set, Some, refl, sym, ◌∙◌, ap, subst, arith, length-append}
use Rattle.std.specs.Prelude.{slice_get}
use Rattle.std.proofs.lemmas.Bool.{cases_eq, cases_lt}
use Rattle.std.proofs.lemmas.List.{get_or-set_other, get_or-set_same, length-map}
use Rattle.std.proofs.lemmas.Option.{get_or_from_slice_get, same_Some, slice_get-get_or, slice_get_within}
use Rattle.glob_lists.specs.declared.link.Link.{Link}
use Rattle.glob_lists.specs.declared.link.TheConstants.Link.{NONE}
use Rattle.glob_lists.specs.declared.asks.literals.TheConstants.{LONGEST_END}
use Rattle.glob_lists.specs.declared.asks.probe.Probe.{Probe}
use Rattle.glob_lists.specs.declared.asks.row.Row.{Row}
use Rattle.glob_lists.specs.declared.list.walk.Walk.{Walk}
use Rattle.gix_glob.specs.Steps.{Counts}
use Rattle.glob_lists.specs.Private.Asks.Literals.{without_bytes}
use Rattle.glob_lists.specs.Private.Asks.Rows.{HasNoEnd, HasSomeEnd}
use Rattle.glob_lists.specs.Private.Asks.Showing.{HasBytes, HasEnd, Lacks, Passes}
use Rattle.glob_lists.specs.Private.Lists.Chains.{AreChained, IsLastBelow, chain_of, chains_of, end_chain}
use Rattle.glob_lists.specs.Private.Lists.Walking.{AreNexts, HasNext, IsLatest, IsWalk, NonePasses, PassesAt, next_of}
use Rattle.glob_lists.proofs.lemmas.Elements.{slice_get-push_cases, slice_get-push_new, slice_get-push_old}
use Rattle.glob_lists.proofs.lemmas.Asks.EndNumbers.{without_bytes-shift}
use Rattle.glob_lists.specs.Private.Looking.{LooksUpTo}
use Rattle.glob_lists.proofs.lemmas.Lists.Looking.{looks_next}
use Rattle.glob_lists.proofs.lemmas.Lists.ChainLemmas.{IsLastBelow-nearer, before_of, chain_at, chain_of-end, chain_of-none}

-- ---- rows that pass

pub NonePasses-joined : (rows : List Row) (probe : Probe) (from middle to : ℕ) → NonePasses rows probe from middle → NonePasses rows probe middle to → NonePasses rows probe from to
NonePasses-joined rows probe from middle to low high m row above below got = elim (cases_lt m middle) [
  | inl before ↦ low m row above before got
  | inr past ↦ high m row past below got
]

-- nor does a place that was tested
pub NonePasses-place : (rows : List Row) (probe : Probe) (place to : ℕ) (row : Row) → slice_get rows place ≡ Some row → ¬ Passes row probe → NonePasses rows probe (place + 1) to → NonePasses rows probe place to
NonePasses-place rows probe place to row there fails none m other from below got passes = ⊎_elim
    (λ (here : m ≡ place).
    let same : other ≡ row = sym (get_or_from_slice_get rows m other row got) ∙ (ap (λ (k : ℕ). get_or rows k row) here ∙ get_or_from_slice_get rows place row row there) in
    fails (subst (λ (x : Row). Passes x probe) same passes))
    (λ (later : m ≡ place → ⊥). none m other (omega arith) below got passes)
    (cases_eq m place)

pub PassesAt-row : (rows : List Row) (probe : Probe) (place : ℕ) (row : Row) → slice_get rows place ≡ Some row → Passes row probe → PassesAt rows probe place
PassesAt-row rows probe place row there passes other got = subst (λ (x : Row). Passes x probe) (same_Some row other (sym there ∙ got)) passes

-- ---- where a walk is

module _ (count : ℕ) (rows : List Row) (probe : Probe) (walk : Walk) (at : IsWalk (chains_of count rows) rows probe walk) (latest : IsLatest walk) where
  abbrev chains : List ℕ
  chains = chains_of count rows

  -- the walk is at the last place of a chain of its own
  next_is_last : (n chain : ℕ) → slice_get at.own n ≡ Some chain → (n < walk.count) × IsLastBelow chains chain walk.passed_from (get_or walk.nexts n NONE)
  next_is_last n chain got =
      let inside = slice_get_within at.own n chain got in
      let many = at.nexts.many in (omega arith, at.nexts.next n chain got)

  -- where the latest next place is, its chain is one of the walk's
  chain_of_latest : 0 < next_of walk walk.latest → (chain : ℕ) × (slice_get at.own walk.latest ≡ Some chain)
  chain_of_latest some = ⊎_elim
      (λ (inside : walk.latest < walk.count). (let many = at.nexts.many in (get_or at.own walk.latest 0, slice_get-get_or at.own walk.latest 0 (omega arith))))
      (λ (none : next_of walk walk.latest ≡ 0). absurd (omega arith))
      latest.here

  pub latest_below : next_of walk walk.latest ≤ walk.passed_from
  latest_below = ⊎_elim
      (λ (some : 0 < next_of walk walk.latest). (let c = chain_of_latest some in (next_is_last walk.latest c.0 c.1).1.below))
      (λ (none : next_of walk walk.latest ≤ 0). omega arith)
      (cases_lt 0 (next_of walk walk.latest))

  -- the latest next row has an end
  pub latest_chain : (place : ℕ) → place + 1 ≡ next_of walk walk.latest → 0 < get_or chains place 0
  latest_chain place is =
      let c = chain_of_latest (omega arith) in
      let here = (next_is_last walk.latest c.0 c.1).1.here (omega arith) in
      let same : get_or chains place 0 ≡ c.0 = ap (λ (k : ℕ). get_or chains k 0) (let p : place ≡ next_of walk walk.latest - 1 = omega arith in p) ∙ here in
      let some = at.nexts.some walk.latest c.0 c.1 in omega arith

  -- the next row without an end has none
  pub other_chain : (place : ℕ) → place + 1 ≡ walk.other.0 → get_or chains place 0 ≡ 0
  other_chain place is = ap (λ (k : ℕ). get_or chains k 0) (let p : place ≡ walk.other.0 - 1 = omega arith in p) ∙ at.other.here (omega arith)

  -- both are not the same row
  pub apart_places : next_of walk walk.latest ≡ walk.other.0 → next_of walk walk.latest ≡ 0
  apart_places same = ⊎_elim
      (λ (some : 0 < next_of walk walk.latest).
      let place : ℕ = next_of walk walk.latest - 1 in
      let one = latest_chain place (omega arith) in
      let two = other_chain place (omega arith) in absurd (omega arith))
      (λ (none : next_of walk walk.latest ≤ 0). omega arith)
      (cases_lt 0 (next_of walk walk.latest))

  -- what lies between the next places and where the walk is doesn't pass
  pub NonePasses-above : (near : ℕ) → next_of walk walk.latest ≤ near → walk.other.0 ≤ near → NonePasses rows probe near walk.passed_from
  NonePasses-above near low low' m row from below got passes =
      let here = chain_at count rows m row got in elim (cases_lt row.spare 64) [
        | inr none ↦ at.other.others m (omega arith) below (here ∙ chain_of-none count row none)
        | inl some ↦
            (let own = at.all m row got some (passes.end some) in
            let last = next_is_last own.0 (get_or chains m 0) own.1 in
            let most = latest.most own.0 last.0 in
            last.1.others m (omega arith) below refl)
      ]

  -- the walk at a nearer place
  pub IsWalk-nearer : (near : ℕ) → near ≤ walk.passed_from → next_of walk walk.latest ≤ near → walk.other.0 ≤ near → IsWalk chains rows probe (record walk { passed_from = near })
  IsWalk-nearer near less low low' = record {
    lacking = at.lacking;
    other = IsLastBelow-nearer chains 0 walk.passed_from near walk.other less low' at.other;
    own = at.own;
    nexts = record {
      many = at.nexts.many;
      some = at.nexts.some;
      next = λ n chain got.
          let last = next_is_last n chain got in
          let most = latest.most n last.0 in
          IsLastBelow-nearer chains chain walk.passed_from near (get_or walk.nexts n NONE) less (omega arith) last.1;
      apart = at.nexts.apart;
    };
    all = at.all;
  }

-- ---- one step of a walk

module _ (rows : List Row) (heads : List Link) (chained : AreChained rows heads) (probe : Probe) (walk : Walk) (at : IsWalk (chains_of (length heads) rows) rows probe walk) (latest : IsLatest walk)
    (place : ℕ) (row : Row) (there : slice_get rows place ≡ Some row) where
  abbrev chains_here : List ℕ
  chains_here = chains_of (length heads) rows

  before_here : (chain : ℕ) → get_or chains_here place 0 ≡ chain → IsLastBelow chains_here chain place row.before
  before_here chain is = subst (λ (c : ℕ). IsLastBelow chains_here c place row.before) is (before_of rows heads chained place row there)

  -- the next row without an end was met
  module _ (first : next_of walk walk.latest ≤ place) (is : place + 1 ≡ walk.other.0) where
    other_is_0 : get_or chains_here place 0 ≡ 0
    other_is_0 = other_chain (length heads) rows probe walk at latest place is

    pub IsWalk-other : IsWalk chains_here rows probe (record walk { other = row.before; passed_from = place })
    IsWalk-other =
        let low = at.other.below in record {
          lacking = at.lacking;
          other = before_here 0 other_is_0;
          own = at.own;
          nexts = record {
            many = at.nexts.many;
            some = at.nexts.some;
            next = λ n chain got.
                let last = next_is_last (length heads) rows probe walk at latest n chain got in
                let most = latest.most n last.0 in
                IsLastBelow-nearer chains_here chain walk.passed_from place (get_or walk.nexts n NONE) (omega arith) (omega arith) last.1;
            apart = at.nexts.apart;
          };
          all = at.all;
        }

    other_has_none : HasNoEnd row
    other_has_none = elim (cases_lt row.spare 64) [
      | inr none ↦ none
      | inl some ↦
          (let here = chain_at (length heads) rows place row there in
          let end = chain_of-end (length heads) row some in
          let zero = other_is_0 in absurd (omega arith))
    ]

    pub Passes-other : HasBytes row probe → Passes row probe
    Passes-other has = (let none = other_has_none in record { end = λ some. absurd (omega arith); bits = λ none. has })

    pub HasBytes-other : Passes row probe → HasBytes row probe
    HasBytes-other passes = passes.bits other_has_none

  -- the latest next row with an end was met
  module _ (is : place + 1 ≡ next_of walk walk.latest) where
    own_has_end : HasSomeEnd row
    own_has_end = elim (cases_lt row.spare 64) [
      | inl some ↦ some
      | inr none ↦
          (let here = chain_at (length heads) rows place row there in
          let zero = chain_of-none (length heads) row none in
          let some = latest_chain (length heads) rows probe walk at latest place is in absurd (omega arith))
    ]

    pub Passes-own : HasEnd row probe → Passes row probe
    Passes-own has = (let some = own_has_end in record { end = λ some. has; bits = λ none. absurd (omega arith) })

    pub HasEnd-own : Passes row probe → HasEnd row probe
    HasEnd-own passes = passes.end own_has_end

    module _ (first : walk.other.0 ≤ place) (wide : length walk.nexts ≡ LONGEST_END) where
      own : (chain : ℕ) × (slice_get at.own walk.latest ≡ Some chain)
      own = chain_of_latest (length heads) rows probe walk at latest (omega arith)

      own_here : get_or chains_here place 0 ≡ own.0
      own_here =
          let last = next_is_last (length heads) rows probe walk at latest walk.latest own.0 own.1 in
          ap (λ (k : ℕ). get_or chains_here k 0) (let p : place ≡ next_of walk walk.latest - 1 = omega arith in p) ∙ last.1.here (omega arith)

      -- the next place of each chain, where the walk goes on
      next_of_each : (n chain : ℕ) → slice_get at.own n ≡ Some chain → IsLastBelow chains_here chain place (get_or (slice_set walk.nexts walk.latest row.before) n NONE)
      next_of_each n chain got = ⊎_elim
          (λ (same : n ≡ walk.latest).
          let within = latest.within in
          let link_is : row.before ≡ get_or (slice_set walk.nexts walk.latest row.before) n NONE =
          sym (ap (λ (k : ℕ). get_or (slice_set walk.nexts walk.latest row.before) k NONE) same ∙ get_or-set_same walk.nexts walk.latest row.before NONE (omega arith)) in
          let both : own.0 ≡ chain = same_Some own.0 chain (sym own.1 ∙ (ap (slice_get at.own) (sym same) ∙ got)) in
          subst (IsLastBelow chains_here chain place) link_is (before_here chain (own_here ∙ both)))
          (λ (other : n ≡ walk.latest → ⊥).
          let last = next_is_last (length heads) rows probe walk at latest n chain got in
          let most = latest.most n last.0 in
          let whole = last.1.below in
          let below : next_of walk n ≤ place = ⊎_elim
          (λ (same : next_of walk n ≡ next_of walk walk.latest).
          let both : chain ≡ own.0 = sym (last.1.here (omega arith)) ∙ (ap (λ (k : ℕ). get_or chains_here k 0) (let p : next_of walk n - 1 ≡ place = omega arith in p) ∙ own_here) in
          absurd (other (at.nexts.apart n walk.latest chain got (own.1 ∙ ap (λ (c : ℕ). Some c) (sym both)))))
          (λ (apart : next_of walk n ≡ next_of walk walk.latest → ⊥). omega arith)
          (cases_eq (next_of walk n) (next_of walk walk.latest)) in
          let top = latest_below (length heads) rows probe walk at latest in
          subst (IsLastBelow chains_here chain place) (sym (get_or-set_other walk.nexts walk.latest n row.before NONE other))
          (IsLastBelow-nearer chains_here chain walk.passed_from place (get_or walk.nexts n NONE) (omega arith) below last.1))
          (cases_eq n walk.latest)

      pub IsWalk-own : (new : Walk) → new ≡ record walk { latest = new.latest; nexts = slice_set walk.nexts walk.latest row.before; passed_from = place } → IsWalk chains_here rows probe new
      IsWalk-own new same =
          let top = latest_below (length heads) rows probe walk at latest in
          let made : IsWalk chains_here rows probe (record walk { latest = new.latest; nexts = slice_set walk.nexts walk.latest row.before; passed_from = place }) = record {
            lacking = at.lacking;
            other = IsLastBelow-nearer chains_here 0 walk.passed_from place walk.other (omega arith) first at.other;
            own = at.own;
            nexts = record { many = at.nexts.many; some = at.nexts.some; next = next_of_each; apart = at.nexts.apart };
            all = at.all;
          } in subst (IsWalk chains_here rows probe) (sym same) made

-- ---- how a walk begins

-- the walk has this chain, if any row is of it
abbrev pub HasChain : List ℕ → List ℕ → ℕ → Type 0
HasChain chains own chain = (place : ℕ) → place < length chains → get_or chains place 0 ≡ chain → (n : ℕ) × (slice_get own n ≡ Some chain)

-- The walk has each chain of an end of the path that is shorter than so many bytes.
pub record IsBegun (chains : List ℕ) (count : ℕ) (end lengths : ℕ) (walk : Walk) : Type 0 where
  pub own : List ℕ
  pub nexts : AreNexts chains own walk
  pub all : (j : ℕ) → j < lengths → HasChain chains own (end_chain count (without_bytes end (8 - (j + 1))))

module _ (chains : List ℕ) (count end lengths : ℕ) (walk : Walk) (was : IsBegun chains count end lengths walk) (chain : ℕ) (is : chain ≡ end_chain count (without_bytes end (8 - (lengths + 1)))) (next : Link)
    (all_rows : walk.passed_from ≡ length chains) (last : IsLastBelow chains chain (length chains) next) where
  -- one length more, whose chain is there already, or is of no row
  all_more : (own : List ℕ) → ((j : ℕ) → j < lengths → HasChain chains own (end_chain count (without_bytes end (8 - (j + 1))))) → HasChain chains own chain
      → (j : ℕ) → j < lengths + 1 → HasChain chains own (end_chain count (without_bytes end (8 - (j + 1))))
  all_more own before here j below = ⊎_elim
      (λ (same : j ≡ lengths). subst (HasChain chains own) (is ∙ ap (λ (k : ℕ). end_chain count (without_bytes end (8 - (k + 1)))) (sym same)) here)
      (λ (apart : j ≡ lengths → ⊥). before j (omega arith))
      (cases_eq j lengths)

  pub IsBegun-passed : (next.0 ≡ 0) ⊎ HasNext walk next → IsBegun chains count end (lengths + 1) walk
  IsBegun-passed known = record {
    own = was.own;
    nexts = was.nexts;
    all = all_more was.own was.all (λ place inside at. ⊎_elim
        (λ (none : next.0 ≡ 0). absurd (last.others place (omega arith) inside at))
        (λ (has : HasNext walk next).
        let many = was.nexts.many in
        let got : slice_get was.own has.0 ≡ Some (get_or was.own has.0 0) = slice_get-get_or was.own has.0 0 (let low = has.1 in omega arith) in
        let its = was.nexts.next has.0 (get_or was.own has.0 0) got in
        (has.0, got ∙ ap (λ (c : ℕ). Some c) (same_chain has its place inside at)))
        known);
  } where
    same_chain : (has : HasNext walk next) → IsLastBelow chains (get_or was.own has.0 0) walk.passed_from (get_or walk.nexts has.0 NONE) → (place : ℕ) → place < length chains → get_or chains place 0 ≡ chain
        → get_or was.own has.0 0 ≡ chain
    same_chain has its place inside at = ⊎_elim
        (λ (some : 0 < next.0).
        let same = has.2 in
        sym (its.here (omega arith)) ∙ (ap (λ (k : ℕ). get_or chains (k - 1) 0) same ∙ last.here some))
        (λ (none : next.0 ≤ 0). absurd (last.others place (omega arith) inside at))
        (cases_lt 0 next.0)

  -- the walk with one chain more
  module _ (some : 0 < next.0) (new : ¬ HasNext walk next) (room : walk.count < length walk.nexts) where
    other_chain_is : (n : ℕ) → ¬ (slice_get was.own n ≡ Some chain)
    other_chain_is n got =
        let its = was.nexts.next n chain got in
        let many = was.nexts.many in
        let inside = slice_get_within was.own n chain got in
        let below = its.below in
        let below' = last.below in
        let same : next_of walk n ≡ next.0 = ⊎_elim
        (λ (less : next_of walk n < next.0). absurd (its.others (next.0 - 1) (omega arith) (omega arith) (last.here some)))
        (λ (more : next.0 ≤ next_of walk n). ⊎_elim
        (λ (less : next.0 < next_of walk n). absurd (last.others (next_of walk n - 1) (omega arith) (omega arith) (its.here (omega arith))))
        (λ (most : next_of walk n ≤ next.0). omega arith)
        (cases_lt next.0 (next_of walk n)))
        (cases_lt (next_of walk n) next.0) in
        new (n, omega arith, same)

    pub IsBegun-more : IsBegun chains count end (lengths + 1) (record walk { nexts = slice_set walk.nexts walk.count next; count = walk.count + 1 })
    IsBegun-more =
        let many : length was.own ≡ walk.count = was.nexts.many in record {
          own = was.own ++ chain ∷ [];
          nexts = record {
            many = (let long = length-append was.own (chain ∷ []) in omega arith);
            some = λ n c got. elim (slice_get-push_cases was.own chain n c got) [
              | inl old ↦ was.nexts.some n c old
              | inr last_one ↦ (let same : c ≡ chain = last_one.1 in omega (arith, is))
            ];
            next = λ n c got. elim (slice_get-push_cases was.own chain n c got) [
              | inl old ↦
                  (let inside = slice_get_within was.own n c old in
                  subst (IsLastBelow chains c walk.passed_from) (sym (get_or-set_other walk.nexts walk.count n next NONE (let apart : n ≢ walk.count = omega (arith, inside) in apart))) (was.nexts.next n c old))
              | inr last_one ↦
                  (let at : n ≡ walk.count = last_one.0 ∙ many in
                  let value : next ≡ get_or (slice_set walk.nexts walk.count next) n NONE =
                  sym (ap (λ (m : ℕ). get_or (slice_set walk.nexts walk.count next) m NONE) at ∙ get_or-set_same walk.nexts walk.count next NONE room) in
                  subst (λ (x : ℕ). IsLastBelow chains x walk.passed_from (get_or (slice_set walk.nexts walk.count next) n NONE)) (sym last_one.1)
                  (subst (IsLastBelow chains chain walk.passed_from) value (subst (λ (m : ℕ). IsLastBelow chains chain m next) (sym all_rows) last)))
            ];
            apart = λ m n c got got'. elim (slice_get-push_cases was.own chain m c got) [
              | inl old ↦ elim (slice_get-push_cases was.own chain n c got') [
                | inl old' ↦ was.nexts.apart m n c old old'
                | inr last_one ↦ absurd (other_chain_is m (old ∙ ap (λ (x : ℕ). Some x) last_one.1))
              ]
              | inr last_one ↦ elim (slice_get-push_cases was.own chain n c got') [
                | inl old' ↦ absurd (other_chain_is n (old' ∙ ap (λ (x : ℕ). Some x) last_one.1))
                | inr last_two ↦ last_one.0 ∙ sym last_two.0
              ]
            ];
          };
          all = all_more (was.own ++ chain ∷ [])
              (λ j below place inside at. (let old = was.all j below place inside at in (old.0, slice_get-push_old was.own chain old.0 _ old.1)))
              (λ place inside at. (length was.own, slice_get-push_new was.own chain));
        }

-- a walk that has the chains of all lengths
pub IsWalk-begun : (rows : List Row) (heads : List Link) → AreChained rows heads → (probe : Probe) (walk new : Walk) → IsBegun (chains_of (length heads) rows) (length heads) probe.end 8 walk → Lacks probe walk.lacking
    → IsLastBelow (chains_of (length heads) rows) 0 walk.passed_from walk.other → new ≡ record walk { latest = new.latest } → IsWalk (chains_of (length heads) rows) rows probe new
IsWalk-begun rows heads chained probe walk new was lacking other same =
    let count = length heads in
    let chains = chains_of count rows in
    let made : IsWalk chains rows probe (record walk { latest = new.latest }) = record {
      lacking = lacking;
      other = other;
      own = was.own;
      nexts = record { many = was.nexts.many; some = was.nexts.some; next = was.nexts.next; apart = was.nexts.apart };
      all = λ place row got some has.
          let whole = chained.whole place row got in
          let j : ℕ = 7 - row.spare / 8 in
          let cut : row.spare % 64 ≡ 8 * (8 - (j + 1)) = omega arith in
          let number : row.asked ≡ without_bytes probe.end (8 - (j + 1)) = has ∙ without_bytes-shift probe.end (8 - (j + 1)) (row.spare % 64) cut in
          let chain : get_or chains place 0 ≡ end_chain count (without_bytes probe.end (8 - (j + 1))) = chain_at count rows place row got ∙ (chain_of-end count row some ∙ ap (end_chain count) number) in
          let inside : place < length chains = (let long : length chains ≡ length rows = length-map rows (chain_of count) in let low = slice_get_within rows place row got in omega arith) in
          let found = was.all j (omega arith) place inside chain in
          (found.0, found.1 ∙ ap (λ (c : ℕ). Some c) (sym chain));
    } in
    subst (IsWalk chains rows probe) (sym same) made

-- ---- rows without an end, which a walk passes over

-- The walk has come from where it stood down to this link of those without an end; if the rows are chained, none passed.
pub record HasPassedTo (rows : List Row) (own : Link) (walk : Walk) (before : Counts) (other : Link) (after : Counts) : Type 0 where
  pub from : ℕ
  pub low : from ≤ walk.passed_from
  pub near : other.0 ≤ from
  pub above : own.0 ≤ from
  pub looks : LooksUpTo before after (walk.passed_from - from)
  pub at : (heads : List Link) (probe : Probe) → AreChained rows heads → IsWalk (chains_of (length heads) rows) rows probe walk → own ≡ get_or walk.nexts walk.latest NONE
      → IsWalk (chains_of (length heads) rows) rows probe (record walk { other = other; passed_from = from })
  pub none : (heads : List Link) (probe : Probe) → AreChained rows heads → IsWalk (chains_of (length heads) rows) rows probe walk → own ≡ get_or walk.nexts walk.latest NONE
      → NonePasses rows probe from walk.passed_from

module _ (rows : List Row) (own : Link) (walk : Walk) (before middle : Counts) (other : Link) (h : HasPassedTo rows own walk before other middle) (latest : IsLatest walk) where
  -- where the walk is
  abbrev here : Walk
  here = record walk { other = other; passed_from = h.from }

  latest_here : IsLatest here
  latest_here = record { within = latest.within; here = latest.here; most = latest.most }

  module _ (heads : List Link) (probe : Probe) (chained : AreChained rows heads) (start : IsWalk (chains_of (length heads) rows) rows probe walk) (is_own : own ≡ get_or walk.nexts walk.latest NONE) where
    at_here : IsWalk (chains_of (length heads) rows) rows probe here
    at_here = h.at heads probe chained start is_own

    own_is : next_of walk walk.latest ≡ own.0
    own_is = sym (ap (λ (link : Link). link.0) is_own)

    none_above : (near : ℕ) → own.0 ≤ near → other.0 ≤ near → NonePasses rows probe near walk.passed_from
    none_above near low low' =
        NonePasses-joined rows probe near h.from walk.passed_from
        (NonePasses-above (length heads) rows probe here at_here latest_here near (let same = own_is in omega arith) low') (h.none heads probe chained start is_own)

    -- a row without an end was met
    module _ (place : ℕ) (row : Row) (there : slice_get rows place ≡ Some row) (first : own.0 < other.0) (is : place + 1 ≡ other.0) where
      low_own : next_of walk walk.latest ≤ place
      low_own = (let same = own_is in omega arith)

      pub met_walk : IsWalk (chains_of (length heads) rows) rows probe (record walk { other = row.before; passed_from = place })
      met_walk = IsWalk-other rows heads chained probe here at_here latest_here place row there low_own is

      pub met_passes : HasBytes row probe → PassesAt rows probe place
      met_passes has = PassesAt-row rows probe place row there (Passes-other rows heads chained probe here at_here latest_here place row there low_own is has)

      pub none_above_met : NonePasses rows probe (place + 1) walk.passed_from
      none_above_met = none_above (place + 1) (omega arith) (omega arith)

      pub none_from_met : ¬ HasBytes row probe → NonePasses rows probe place walk.passed_from
      none_from_met fails =
          NonePasses-place rows probe place walk.passed_from row there (λ passes. fails (HasBytes-other rows heads chained probe here at_here latest_here place row there low_own is passes)) none_above_met

      pub met_before : row.before.0 < other.0
      met_before = (let low = met_walk.other.below in omega arith)

    -- no row is left that comes after the own one
    module _ (rest : other.0 ≤ own.0) where
      pub rest_walk : IsWalk (chains_of (length heads) rows) rows probe (record walk { other = other; passed_from = own.0 })
      rest_walk = (let same = own_is in IsWalk-nearer (length heads) rows probe here at_here latest_here own.0 h.above (omega arith) rest)

      pub none_above_rest : NonePasses rows probe own.0 walk.passed_from
      none_above_rest = none_above own.0 (omega arith) rest

  -- one row without an end more was met, and doesn't pass
  pub HasPassedTo-more : (place : ℕ) (row : Row) (next : Link) (after : Counts) → slice_get rows place ≡ Some row → own.0 < other.0 → place + 1 ≡ other.0 → next.0 < other.0 → (row.before.0 < other.0 → next ≡ row.before)
      → ((probe : Probe) → Lacks probe walk.lacking → ¬ HasBytes row probe) → after.steps ≡ middle.steps → after.looks ≡ middle.looks + 1 → HasPassedTo rows own walk before next after
  HasPassedTo-more place row next after there first is low same fails steps looks =
      let near = h.near in
      let far = h.low in record {
        from = place;
        low = omega arith;
        near = omega arith;
        above = omega arith;
        looks = looks_next before middle after walk.passed_from h.from place h.looks steps looks (omega arith) h.low;
        at = λ heads probe chained start is_own.
            subst (λ (link : Link). IsWalk (chains_of (length heads) rows) rows probe (record walk { other = link; passed_from = place }))
            (sym (same (met_before heads probe chained start is_own place row there first is))) (met_walk heads probe chained start is_own place row there first is);
        none = λ heads probe chained start is_own. none_from_met heads probe chained start is_own place row there first is (fails probe start.lacking);
      }

-- ---- choosing

-- no end before place n has a later next row
pub record IsLatestUpTo (walk : Walk) (n latest : ℕ) : Type 0 where
  pub within : latest < 8
  pub here : (latest < walk.count) ⊎ (latest ≡ 0)
  pub most : (m : ℕ) → m < n → next_of walk m ≤ next_of walk latest
