-- Where an alignment ends, what it answers means what the contract says: at the pattern's end, at a token of one byte, at one that
-- matches nothing, and at a star token.
use Rattle.std.proofs.Common.{◌≡◌, ◌≢◌, ◌⊎◌, inl, inr, ℕ, ◌+◌, ◌-◌, ◌<◌, ◌≤◌, true, false, List, [], ◌∷◌, ◌++◌, length, get_or, drop, ◌↔◌, refl, sym, subst, arith, ◌∙◌}
use Rattle.std.proofs.lemmas.Bool.{cases_eq, cases_lt}
use Rattle.std.proofs.Math.ListN.{drop_of_length-le}
use Rattle.glob_matcher.specs.declared.wildmatch.way.Way.{Way}
use Rattle.glob_matcher.specs.Ways.{way_of}
use Rattle.glob_matcher.specs.declared.wildmatch.pruned.Answer.{Answer}
use Rattle.glob_matcher.specs.declared.wildmatch.pruned.Answer.TheVariants.{Match, NoMatch, AbortAll}
use Rattle.glob_matcher.specs.Bytes.{HasByte, star}
use Rattle.glob_matcher.specs.ExactFolding.{is_exact}
use Rattle.glob_matcher.specs.Tokens.{Token, Free, Dirs, Nothing, TokenAt, From}
use Rattle.glob_matcher.specs.Matching.{SplitsBy, SplitsFrom, Fits}
use Rattle.glob_matcher.specs.Pruning.{Holds, Excludes, TakeOneByte, EndsShort, BeginsCrossing, Aborts, IsAttempt, star_count}
use Rattle.glob_matcher.specs.Private.StarSearch.{HasRoom}
use Rattle.glob_matcher.proofs.lemmas.reading.WayLemmas.{modes_are_inexact}
use Rattle.glob_matcher.proofs.lemmas.reading.TokenLemmas.{From-unique, TokenAt-unique, TokenAt-inside, run_lead}
use Rattle.glob_matcher.proofs.lemmas.cutting.CutLemmas.{IsOne, one_out, end_in, end_out, nothing_out}
use Rattle.glob_matcher.proofs.lemmas.cutting.SplitLemmas.{star_count_alike}
use Rattle.glob_matcher.proofs.lemmas.pruned.StarLemmas.{BeginsCrossingAt, AtStar, excluded}
use Rattle.glob_matcher.proofs.lemmas.pruned.Alignments.{EndsShortFrom, Aligned, Moved, short_out, single_one, one_no_star}

-- ---- the tokens from a place on, by that place

-- each token from place i of the pattern on takes one byte
record IsFlat (p : List ℕ) (i : ℕ) (way : Way) : Type 0 where
  pub tokens : List Token
  pub read : From way p i tokens
  pub single : TakeOneByte tokens

record AbortsAt (answer : Answer) (p : List ℕ) (i : ℕ) (v : List ℕ) (k : ℕ) (way : Way) : Type 0 where
  pub short : IsFlat p i way → (answer ≡ AbortAll) ↔ EndsShortFrom v k p i way
  pub long : IsFlat p i way → (answer ≡ AbortAll) ⊎ ((answer ≡ Match) ⊎ (answer ≡ NoMatch))
  pub crossing : BeginsCrossingAt p i way → answer ≢ NoMatch

module _ {way : Way} {p : List ℕ} {i : ℕ} (ts : List Token) (read : From way p i ts) where
  short_by_place : {v : List ℕ} {k : ℕ} → EndsShort way ts (drop k v) → EndsShortFrom v k p i way
  short_by_place e = record {
    beginning = e.0;
    next = e.1;
    rest = e.2;
    read = subst (λ (us : List Token). From way p i us) e.3 read;
    cut = e.4;
  }

  short_by_tokens : {v : List ℕ} {k : ℕ} → EndsShortFrom v k p i way → EndsShort way ts (drop k v)
  short_by_tokens e = (e.beginning, e.next, e.rest, From-unique way p i ts (e.beginning ++ e.next ∷ e.rest) read e.read, e.cut)

  crossing_by_place : BeginsCrossing ts → BeginsCrossingAt p i way
  crossing_by_place b = by b.1 where
    by : (ts ≡ Free ∷ b.0) ⊎ (ts ≡ Dirs ∷ b.0) → BeginsCrossingAt p i way
    by (inl so) = let there = subst (λ (us : List Token). From way p i us) so read in record { after = there.0; token = inl there.1 }
    by (inr so) = let there = subst (λ (us : List Token). From way p i us) so read in record { after = there.0; token = inr there.1 }

  aborts_by_tokens : {answer : Answer} {v : List ℕ} {k : ℕ} → AbortsAt answer p i v k way → Aborts answer way ts (drop k v)
  aborts_by_tokens {answer} {v} {k} x = record {
    short = λ single.
        let same = x.short (record { tokens = ts; read = read; single = single }) in
        (λ so. short_by_tokens (same.0 so), λ e. same.1 (short_by_place {v = v} {k = k} e));
    long = λ single. x.long (record { tokens = ts; read = read; single = single });
    crossing = λ b. x.crossing (crossing_by_place b);
  }

-- what an answer excludes, and where an abort comes, by the place
in_room : {answer : Answer} {way : Way} {p v : List ℕ} {i k depth : ℕ}
    → (HasRoom p i way depth → Excludes answer p i v k way) → (HasRoom p i way depth → AbortsAt answer p i v k way)
    → (ts : List Token) → From way p i ts → depth + star_count ts ≤ 63
    → Excludes answer p i v k way × Aborts answer way ts (drop k v)
in_room {way = way} {p = p} {v = v} {i = i} {k = k} {depth = depth} excludes aborts ts read few =
    let room : HasRoom p i way depth = record { tokens = ts; read = read; few = few } in
    (excludes room, aborts_by_tokens ts read {v = v} {k = k} (aborts room))

-- a crossing token begins with a star
crossing_star : (way : Way) (p : List ℕ) (i : ℕ) → BeginsCrossingAt p i way → HasByte p i star
crossing_star way p i x = by x.token where
  by : TokenAt way p i Free x.after ⊎ TokenAt way p i Dirs x.after → HasByte p i star
  by (inl so) = run_lead p i x.after so.0
  by (inr so) = run_lead p i so.run_end so.run

module _ {way : Way} {p v : List ℕ} {i k j e : ℕ} (x : Aligned way p v i k j e) where
  -- the start itself leads here
  moved_here : SplitsFrom v k p i way → SplitsFrom v e p j way
  moved_here s =
      let low : k ≤ e = x.value_low in
      let high : e ≤ length v = x.value_high in
      let same : k + (e - k) ≡ e = omega arith in
      let moved : Moved way p v i k j e k (k + (e - k)) = x.forth k (omega arith) (omega arith) s in
      subst (λ (m : ℕ). SplitsFrom v m p j way) same moved.here

  -- where a star begins at the start, the alignment hasn't moved
  star_at_start : HasByte p i star → i ≡ j
  star_at_start h = by (cases_lt i j) where
    by : (i < j) ⊎ (j ≤ i) → i ≡ j
    by (inl past) = absurd (x.no_star past h)
    by (inr same) = let low : i ≤ j = x.low in omega arith

  crossing_here : BeginsCrossingAt p i way → BeginsCrossingAt p j way
  crossing_here b = subst (λ (m : ℕ). BeginsCrossingAt p m way) (star_at_start (crossing_star way p i b)) b

  flat_here : IsFlat p i way → IsFlat p j way
  flat_here f =
      let moved = x.list f.tokens f.read in record { tokens = moved.tokens; read = moved.read; single = moved.single f.single }

  -- at the pattern's end
  no_short_end : j ≡ length p → ¬ EndsShortFrom v e p j way
  no_short_end at_end so = by so.beginning so.read where
    by : (ts : List Token) → From way p j (ts ++ so.next ∷ so.rest) → ⊥
    by [] read = let inside = TokenAt-inside way p j so.next read.0 read.1 in omega arith
    by (t ∷ ts) read = let inside = TokenAt-inside way p j t read.0 read.1 in omega arith

  end_match : {depth : ℕ} → depth ≢ 64 → j ≡ length p → e ≡ length v → IsAttempt Match p i v k way depth
  end_match shallow at_end all = record {
    split = λ so. x.back (end_in way p v j e at_end (omega arith));
    room = in_room
        (λ room. record {
          here = λ ne. absurd (ne refl);
          everywhere = λ so. cc;
          component = λ so. cc;
          limit = λ so. cc;
        })
        (λ room. record {
          short = λ flat. ((λ so. cc), λ so. absurd (no_short_end at_end (x.short_forth so)));
          long = λ flat. inr (inl refl);
          crossing = λ b so. cc;
        });
    path = λ so. cc;
    limit = λ deep. absurd (shallow deep);
  }

  end_more : {depth : ℕ} → depth ≢ 64 → j ≡ length p → e ≢ length v → IsAttempt NoMatch p i v k way depth
  end_more shallow at_end more = record {
    split = λ so. cc;
    room = in_room
        (λ room. record {
          here = λ ne s.
              let all : length v ≤ e = end_out way p v j e at_end (moved_here s) in
              let high : e ≤ length v = x.value_high in
              more (omega arith);
          everywhere = λ so. cc;
          component = λ so. cc;
          limit = λ so. cc;
        })
        (λ room. record {
          short = λ flat. ((λ so. cc), λ so. absurd (no_short_end at_end (x.short_forth so)));
          long = λ flat. inr (inr refl);
          crossing = λ b so.
              let inside = HasByte.inside (crossing_star way p j (crossing_here b)) in omega arith;
        });
    path = λ so. cc;
    limit = λ deep. absurd (shallow deep);
  }

  pub end_here : {depth : ℕ} {answer : Answer} → depth ≢ 64 → j ≡ length p → (e ≡ length v → answer ≡ Match)
      → (e ≢ length v → answer ≡ NoMatch) → IsAttempt answer p i v k way depth
  end_here {depth} shallow at_end ends more = elim (cases_eq e (length v)) [
    | inl all ↦ subst (λ (a : Answer). IsAttempt a p i v k way depth) (sym (ends all)) (end_match shallow at_end all)
    | inr left ↦ subst (λ (a : Answer). IsAttempt a p i v k way depth) (sym (more left)) (end_more shallow at_end left)
  ]

  -- at a token that nothing of the value from here on splits
  lost : ((m : ℕ) → e ≤ m → m ≤ length v → ¬ SplitsFrom v m p j way) → Excludes AbortAll p i v k way
  lost never = record {
    here = λ ne s. never e (omega arith) x.value_high (moved_here s);
    everywhere = λ so bare m low high s.
        let moved = x.forth m low high s in
        let value_low : k ≤ e = x.value_low in
        never (m + (e - k)) (omega arith) moved.inside moved.here;
    component = λ so. cc;
    limit = λ so. cc;
  }

  one_lost : (t : Token) (next : ℕ) → IsOne t → TokenAt way p j t next → e ≡ length v
      → (m : ℕ) → e ≤ m → m ≤ length v → ¬ SplitsFrom v m p j way
  one_lost t next one here all m low high s =
      let out = one_out way p v j next m t one here s in
      let inside : m < length v = out.0 in
      omega arith

  -- the value ends before the list does
  short_now : (t : Token) (next : ℕ) → TokenAt way p j t next → e ≡ length v → IsFlat p j way → EndsShortFrom v e p j way
  short_now t next here all f = by f.tokens f.read where
    by : (ts : List Token) → From way p j ts → EndsShortFrom v e p j way
    by [] read = let inside = TokenAt-inside way p j t next here in absurd (omega arith)
    by (u ∷ us) read = record { beginning = []; next = u; rest = us; read = read; cut = drop_of_length-le v (omega arith) }

  pub value_ends : {depth : ℕ} → depth ≢ 64 → (t : Token) (next : ℕ) → IsOne t → TokenAt way p j t next → e ≡ length v
      → IsAttempt AbortAll p i v k way depth
  value_ends shallow t next one here all = record {
    split = λ so. cc;
    room = in_room
        (λ room. lost (one_lost t next one here all))
        (λ room. record {
          short = λ flat. ((λ so. x.short_back (short_now t next here all (flat_here flat))), λ so. refl);
          long = λ flat. inl refl;
          crossing = λ b so. cc;
        });
    path = λ so. cc;
    limit = λ deep. absurd (shallow deep);
  }

  -- the first token of a list whose tokens take one byte each
  flat_one : (t : Token) (next : ℕ) → TokenAt way p j t next → IsFlat p j way → IsOne t
  flat_one t next here f = by f.tokens f.read f.single where
    by : (ts : List Token) → From way p j ts → TakeOneByte ts → IsOne t
    by [] read single = let inside = TokenAt-inside way p j t next here in absurd (omega arith)
    by (u ∷ us) read single =
        let same = TokenAt-unique way p j u t read.0 next read.1 here in
        subst IsOne same.0 (single_one u us single)

  pub nothing_here : {depth : ℕ} → depth ≢ 64 → (next : ℕ) → TokenAt way p j Nothing next → IsAttempt AbortAll p i v k way depth
  nothing_here shallow next here = record {
    split = λ so. cc;
    room = in_room
        (λ room. lost (λ m low high s. nothing_out way p v j next m here high s))
        (λ room. record {
          short = λ flat. absurd (flat_one Nothing next here (flat_here flat));
          long = λ flat. inl refl;
          crossing = λ b so. cc;
        });
    path = λ so. cc;
    limit = λ deep. absurd (shallow deep);
  }

  pub misses : {depth : ℕ} → depth ≢ 64 → (t : Token) (next : ℕ) → IsOne t → TokenAt way p j t next → e < length v
      → ¬ Fits way t (get_or v e 0) → IsAttempt NoMatch p i v k way depth
  misses shallow t next one here inside unfit = record {
    split = λ so. cc;
    room = in_room
        (λ room. record {
          here = λ ne s. unfit (one_out way p v j next e t one here (moved_here s)).1;
          everywhere = λ so. cc;
          component = λ so. cc;
          limit = λ so. cc;
        })
        (λ room. record {
          short = λ flat. ((λ so. cc), λ so. absurd (unfit (short_out t next one here inside (x.short_forth so)).0));
          long = λ flat. inr (inr refl);
          crossing = λ b so. absurd (one_no_star way p j t next one here (crossing_star way p j (crossing_here b)));
        });
    path = λ so. cc;
    limit = λ deep. absurd (shallow deep);
  }

  -- at a star token
  pub star_here : {depth : ℕ} {answer : Answer} → depth ≢ 64 → AtStar answer p j v e way depth → IsAttempt answer p i v k way depth
  star_here {depth} shallow s = record {
    split = λ so. x.back (s.found so);
    room = in_room
        (λ room. record {
          here = λ ne whole. s.lost (room_here room) ne (moved_here whole);
          everywhere = λ so bare m low high whole.
              let moved = x.forth m low high whole in
              let value_low : k ≤ e = x.value_low in
              s.everywhere (room_here room) so (omega (arith, past bare)) (m + (e - k)) (omega arith) moved.inside (moved.behind (past bare)) moved.here;
          component = λ so bare m low high none whole.
              let moved = x.forth m low high whole in
              let value_low : k ≤ e = x.value_low in
              s.component (room_here room) so (m + (e - k)) (omega arith) moved.inside (moved.level (s.path so) none) moved.here;
          limit = s.limit (room_here room);
        })
        (λ room. record {
          short = λ flat. absurd (not_flat flat);
          long = λ flat. absurd (not_flat flat);
          crossing = λ b. s.crossing (crossing_here b);
        });
    path = s.path;
    limit = λ deep. absurd (shallow deep);
  } where
    room_here : HasRoom p i way depth → HasRoom p j way depth
    room_here room =
        let moved = x.list room.tokens room.read in
        let few : depth + star_count room.tokens ≤ 63 = room.few in
        let counted : star_count moved.tokens ≡ star_count room.tokens = moved.counted in
        record { tokens = moved.tokens; read = moved.read; few = omega arith }

    at_star : HasByte p j star
    at_star = run_lead p j s.is_star.stop s.is_star.run

    past : ¬ HasByte p i star → i < j
    past bare = by (cases_lt i j) where
      by : (i < j) ⊎ (j ≤ i) → i < j
      by (inl more) = more
      by (inr less) =
          let low : i ≤ j = x.low in
          let same : j ≡ i = omega arith in
          absurd (bare (subst (λ (m : ℕ). HasByte p m star) same at_star))

    not_flat : IsFlat p i way → ⊥
    not_flat flat =
        one_no_star way p j s.token s.after (flat_one s.token s.after s.here (flat_here flat)) s.here at_star

-- ---- whole patterns

pub whole_match : {way : Way} {p v : List ℕ} → SplitsBy v p way → Holds true (SplitsBy v p way) p
whole_match s = record {
  yes = λ so. s;
  excludes = λ n stars few all. refl;
}

pub whole_no_match : {way : Way} {p v : List ℕ} {answer : Answer} → is_exact way ≡ false → IsAttempt answer p 0 v 0 way 0 → answer ≢ Match
    → Holds false (SplitsBy v p way) p
whole_no_match {way} {p} inexact x no_match = record {
  yes = λ so. cc;
  excludes = λ n stars few all.
      let counted : star_count all.tokens ≡ star_count stars.1 =
      star_count_alike way (way_of stars.0) (inexact ∙ sym (modes_are_inexact stars.0)) p 0 all.tokens stars.1 all.read stars.2 in
      let is : star_count stars.1 ≡ n = stars.3 in
      let room : HasRoom p 0 way 0 = record { tokens = all.tokens; read = all.read; few = omega arith } in
      absurd ((excluded x room).here no_match all);
}
