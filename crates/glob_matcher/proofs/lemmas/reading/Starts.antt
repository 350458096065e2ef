-- Where an attempt may begin: starts lie inside the pattern, and a token leads from one to the next.
use Rattle.std.proofs.Common.{◌≡◌, ◌⊎◌, inl, inr, ℕ, ◌+◌, ◌-◌, ◌<◌, ◌≤◌, List, [], ◌∷◌, ◌++◌, length, refl, sym, subst, arith}
use Rattle.glob_matcher.specs.declared.wildmatch.way.Way.{Way}
use Rattle.glob_matcher.specs.Bytes.{HasByte, star, slash}
use Rattle.glob_matcher.specs.Tokens.{Token, Byte, Any, OneOf, Free, Local, Dirs, Nothing, TokenAt, DirsAt, IsRun, Spells}
use Rattle.glob_matcher.specs.Pruning.{IsBoundary, IsStart}
use Rattle.glob_matcher.proofs.lemmas.reading.TokenLemmas.{TokenAt-unique, TokenAt-inside}
use Rattle.glob_matcher.proofs.lemmas.reading.Existence.{set_inside, TokenAt-past}
use Rattle.glob_matcher.proofs.lemmas.cutting.SplitLemmas.{slash_token}

run_inside : (p : List ℕ) (i j : ℕ) → IsRun p i j → j ≤ length p
run_inside p i j run =
    let some : i < j = run.some in
    let last : HasByte p (j - 1) star = run.stars (j - 1) (omega arith) (omega arith) in
    let inside : j - 1 < length p = last.inside in
    omega arith

-- place i is the slash that ends the token of a double star
abbrev pub IsDirsSlash : List ℕ → ℕ → Way → Type 0
IsDirsSlash p i way = (m : ℕ) × IsBoundary p m way × TokenAt way p m Dirs (i + 1)

module _ (way : Way) (p : List ℕ) where
  -- a token ends inside the pattern
  pub token_end : (i : ℕ) (t : Token) (j : ℕ) → TokenAt way p i t j → j ≤ length p
  token_end i (Byte b) j (inl e) = let inside : i + 1 < length p = e.0.byte.inside in let after : j ≡ i + 2 = e.1 in omega arith
  token_end i (Byte b) j (inr e) = let inside : i < length p = e.0.inside in let after : j ≡ i + 1 = e.2 in omega arith
  token_end i Any j e = let inside : i < length p = e.0.inside in let after : j ≡ i + 1 = e.1 in omega arith
  token_end i (OneOf s) j e = set_inside p i s j e
  token_end i Free j e = run_inside p i j e.0
  token_end i Local j e = run_inside p i j e.0
  token_end i Dirs j e =
      let inside : e.run_end < length p = e.slash.inside in
      let after : j ≡ e.run_end + 1 = e.after in
      omega arith
  token_end i Nothing j e = let after : j ≡ length p = e.1 in omega arith

  spells_inside : (i : ℕ) (ts : List Token) (j : ℕ) → i ≤ length p → Spells way p i ts j → j ≤ length p
  spells_inside i [] j inside e = omega arith
  spells_inside i (t ∷ ts) j inside e = spells_inside e.0 ts j (token_end i t e.0 e.1) e.2

  -- one more token
  spells_more : (i : ℕ) (ts : List Token) (j : ℕ) (t : Token) (m : ℕ) → Spells way p i ts j
      → TokenAt way p j t m → Spells way p i (ts ++ t ∷ []) m
  spells_more i [] j t m e here = (m, subst (λ (n : ℕ). TokenAt way p n t m) (sym e) here, refl)
  spells_more i (u ∷ ts) j t m e here = (e.0, e.1, spells_more e.0 ts j t m e.2 here)

  -- the slash of a double star's token
  pub dirs_slash : (i j : ℕ) → DirsAt way p i (j + 1) → HasByte p j slash
  dirs_slash i j e =
      let after : j + 1 ≡ e.run_end + 1 = e.after in
      let same : e.run_end ≡ j = omega arith in
      subst (λ (n : ℕ). HasByte p n slash) same e.slash

  -- A scan over the tokens stands at a place, and what spells the pattern up to the place sought passes here.
  pub record Scan (from place : ℕ) : Type 0 where
    pub boundary : IsBoundary p place way
    pub ahead : (x : IsBoundary p from way) → (ts : List Token) × Spells way p place ts from
    pub slash_ahead : (x : IsDirsSlash p from way) → (ts : List Token) × Spells way p place ts x.0

  -- the tokens after the first
  spells_rest : (place : ℕ) (t : Token) (next : ℕ) (ts : List Token) (to : ℕ) → TokenAt way p place t next
      → (place ≡ to → ⊥) → Spells way p place ts to → (us : List Token) × Spells way p next us to
  spells_rest place t next [] to here differ e = absurd (differ e)
  spells_rest place t next (u ∷ us) to here differ e =
      let same = TokenAt-unique way p place u t e.0 next e.1 here in
      (us, subst (λ (n : ℕ). Spells way p n us to) same.1 e.2)

  -- tokens lead forwards
  pub spells_forward : (i : ℕ) (ts : List Token) (j : ℕ) → Spells way p i ts j → i ≤ j
  spells_forward i [] j e = omega arith
  spells_forward i (t ∷ ts) j e =
      let later : e.0 ≤ j = spells_forward e.0 ts j e.2 in
      let past : i < e.0 = TokenAt-past way p i t e.0 e.1 in
      omega arith

module _ {way : Way} {p : List ℕ} where
  pub boundary_next : {i : ℕ} (t : Token) (j : ℕ) → IsBoundary p i way → TokenAt way p i t j → IsBoundary p j way
  boundary_next {i} t j x here =
      record { tokens = x.tokens ++ t ∷ []; spelled = spells_more way p 0 x.tokens i t j x.spelled here }

  pub boundary_inside : {i : ℕ} → IsBoundary p i way → i ≤ length p
  boundary_inside {i} x = spells_inside way p 0 x.tokens i (omega arith) x.spelled

  pub start_inside : {i : ℕ} → IsStart p i way → i ≤ length p
  start_inside {i} x = by x.place where
    by : IsBoundary p i way ⊎ IsDirsSlash p i way → i ≤ length p
    by (inl here) = boundary_inside here
    by (inr here) =
        let at_slash : HasByte p i slash = dirs_slash way p here.0 i here.2 in
        let inside : i < length p = at_slash.inside in
        omega arith

  -- a token leads from a start to a token's start
  pub start_next : {i : ℕ} (t : Token) (j : ℕ) → IsStart p i way → TokenAt way p i t j → IsStart p j way
  start_next {i} t j x here = record { place = inl (by x.place) } where
    by : IsBoundary p i way ⊎ IsDirsSlash p i way → IsBoundary p j way
    by (inl at) = boundary_next t j at here
    by (inr at) =
        let at_slash : HasByte p i slash = dirs_slash way p at.0 i at.2 in
        let same = TokenAt-unique way p i (Byte slash) t (i + 1) j (slash_token way p i at_slash) here in
        subst (λ (n : ℕ). IsBoundary p n way) same.1 (boundary_next Dirs (i + 1) at.1 at.2)

  pub scan_next : {from place : ℕ} (t : Token) (next : ℕ) → Scan way p from place → TokenAt way p place t next
      → place < from → (t ≡ Dirs → next ≡ from + 1 → ⊥) → Scan way p from next
  scan_next {from} {place} t next x here before other = record {
    boundary = boundary_next t next x.boundary here;
    ahead = λ y. let on = x.ahead y in spells_rest way p place t next on.0 from here (λ is. omega arith) on.1;
    slash_ahead = λ y. let on = x.slash_ahead y in spells_rest way p place t next on.0 y.0 here (differ y) on.1;
  } where
    differ : (y : IsDirsSlash p from way) → place ≡ y.0 → ⊥
    differ y is =
        let same = TokenAt-unique way p place t Dirs next (from + 1) here
        (subst (λ (n : ℕ). DirsAt way p n (from + 1)) (sym is) y.2) in
        other same.0 same.1

  -- where the scan ends, the place sought is this one or none
  pub scan_end : {from place : ℕ} → Scan way p from place → (place < from → length p ≤ place)
      → IsStart p from way → place ≡ from
  scan_end {from} {place} x stopped start = by start.place where
    by : IsBoundary p from way ⊎ IsDirsSlash p from way → place ≡ from
    by (inl y) =
        let on = x.ahead y in
        let forward : place ≤ from = spells_forward way p place on.0 from on.1 in
        let inside : from ≤ length p = boundary_inside y in
        let less : place < from → ⊥ = λ before. let past : length p ≤ place = stopped before in omega arith in
        omega arith
    by (inr y) =
        let on = x.slash_ahead y in
        let forward : place ≤ y.0 = spells_forward way p place on.0 y.0 on.1 in
        let after : from + 1 ≡ y.2.run_end + 1 = y.2.after in
        let longer : y.0 < y.2.run_end = y.2.run.some in
        let inside : y.0 < length p = TokenAt-inside way p y.0 Dirs (from + 1) y.2 in
        let past : length p ≤ place = stopped (omega arith) in
        omega arith
