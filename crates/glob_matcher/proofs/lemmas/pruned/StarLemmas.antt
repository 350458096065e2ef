-- Searches after a star: what they try, what they find, and what their answers say at the star token.
use Rattle.std.proofs.Common.{◌≡◌, ◌≢◌, ◌⊎◌, inl, inr, ℕ, ◌+◌, ◌-◌, ◌<◌, ◌≤◌, IsTrue, Option, Some, None, List, [], ◌∷◌, length, get_or, min, refl, sym, ◌∙◌, ap, subst, arith}
use Rattle.std.specs.Prelude.{IsSomeAnd}
use Rattle.std.proofs.lemmas.Bool.{cases_lt}
use Rattle.glob_matcher.specs.declared.wildmatch.way.Way.{Way}
use Rattle.glob_matcher.specs.declared.wildmatch.pruned.Answer.{Answer}
use Rattle.glob_matcher.specs.declared.wildmatch.pruned.Answer.TheVariants.{Match, NoMatch, AbortAll, AbortToStarStar, RecursionLimitReached}
use Rattle.glob_matcher.specs.Bytes.{HasByte, NoSlash, fold, is_path, slash, star}
use Rattle.glob_matcher.specs.Tokens.{Token, Byte, Any, OneOf, Free, Local, Dirs, Nothing, TokenAt, DirsAt, From, kind_of}
use Rattle.glob_matcher.specs.Matching.{SplitsFrom}
use Rattle.glob_matcher.specs.Private.Fitting.{AfterSlash}
use Rattle.glob_matcher.specs.Pruning.{Excludes, IsAttempt, star_count}
use Rattle.glob_matcher.specs.Private.StarSearch.{HasRoom, wanted_by, AsksFor, Skips, IsComponentEnd, IsTriedEverywhere, IsTriedInComponent, IsTriedInDirectories}
use Rattle.glob_matcher.proofs.lemmas.reading.TokenLemmas.{TokenAt-unique, TokenAt-inside, run_lead}
use Rattle.glob_matcher.proofs.lemmas.cutting.CutLemmas.{IsOne, one_in, one_out, free_in, free_out, local_in, local_out, dirs_in_empty, dirs_in, dirs_out, end_out, nothing_out}
use Rattle.glob_matcher.proofs.lemmas.cutting.SplitLemmas.{IsStarToken, slash_token, no_slash_join}
use Rattle.glob_matcher.proofs.lemmas.cutting.SlashLemmas.{fold_slash}
use Rattle.glob_matcher.proofs.lemmas.reading.Starts.{dirs_slash}

-- ---- room

-- after a star token there is room one deeper
module _ {way : Way} {p : List ℕ} {i : ℕ} {t : Token} {j depth : ℕ} where
  pub room_after : TokenAt way p i t j → IsStarToken p i t j
      → HasRoom p i way depth → HasRoom p j way (depth + 1)
  room_after here is_star room = by room.tokens room.read room.few where
    by : (ts : List Token) → From way p i ts → depth + star_count ts ≤ 63 → HasRoom p j way (depth + 1)
    by [] read few = let inside = TokenAt-inside way p i t j here in absurd (omega arith)
    by (u ∷ us) read few =
        let same = TokenAt-unique way p i u t read.0 j read.1 here in
        let counted : star_count (u ∷ us) ≡ star_count us + 1 =
        subst (λ (w : Token). star_count (w ∷ us) ≡ star_count us + 1) (sym same.0) (is_star.counts us) in
        record { tokens = us; read = subst (λ (n : ℕ). From way p n us) same.1 read.2; few = omega arith }

-- at the slash of a double star's token there is as much room as after it
pub room_at_slash : {way : Way} {p : List ℕ} {i depth : ℕ} → HasByte p i slash → HasRoom p (i + 1) way depth
    → HasRoom p i way depth
room_at_slash {way} {p} {i} h room =
    record { tokens = Byte slash ∷ room.tokens; read = (i + 1, slash_token way p i h, room.read); few = room.few }

pub excluded : {answer : Answer} {way : Way} {p v : List ℕ} {i k depth : ℕ} → IsAttempt answer p i v k way depth → HasRoom p i way depth
    → Excludes answer p i v k way
excluded x room = (x.room room.tokens room.read room.few).0

-- ---- the first token after a star

-- the token at a place takes one byte or matches nothing, and it is the byte that is wanted, where one is
pub record FirstToken (way : Way) (p : List ℕ) (i : ℕ) (wanted : Option ℕ) : Type 0 where
  pub token : Token
  pub after : ℕ
  pub here : TokenAt way p i token after
  pub one_or_nothing : IsOne token ⊎ (token ≡ Nothing)
  pub asks : (b : ℕ) → wanted ≡ Some b → token ≡ Byte b

first_token_by : (way : Way) (p : List ℕ) (i : ℕ) (wanted : Option ℕ) (t : Token) (j : ℕ) → ¬ HasByte p i star → TokenAt way p i t j
    → wanted ≡ wanted_by (kind_of t) → FirstToken way p i wanted
first_token_by way p i wanted (Byte b) j bare here is =
    record { token = Byte b; after = j; here = here; one_or_nothing = inl tt; asks = λ c so. let same : Some b ≡ Some c = sym is ∙ so in cc }
first_token_by way p i wanted Any j bare here is =
    record { token = Any; after = j; here = here; one_or_nothing = inl tt; asks = λ c so. let same : None ≡ Some c = sym is ∙ so in cc }
first_token_by way p i wanted (OneOf s) j bare here is =
    record { token = OneOf s; after = j; here = here; one_or_nothing = inl tt; asks = λ c so. let same : None ≡ Some c = sym is ∙ so in cc }
first_token_by way p i wanted Free j bare here is = absurd (bare (run_lead p i j here.0))
first_token_by way p i wanted Local j bare here is = absurd (bare (run_lead p i j here.0))
first_token_by way p i wanted Dirs j bare here is = absurd (bare (run_lead p i here.run_end here.run))
first_token_by way p i wanted Nothing j bare here is =
    record { token = Nothing; after = j; here = here; one_or_nothing = inr refl; asks = λ c so. let same : None ≡ Some c = sym is ∙ so in cc }

pub first_token : {way : Way} {p : List ℕ} {i : ℕ} {wanted : Option ℕ} → ¬ HasByte p i star → AsksFor way p i wanted
    → FirstToken way p i wanted
first_token {way} {p} {i} {wanted} bare x =
    first_token_by way p i wanted x.read.token x.after bare x.read.here (x.asks ∙ ap wanted_by x.read.same_kind)

module _ {way : Way} {p v : List ℕ} {i : ℕ} {wanted : Option ℕ} where
  -- no split begins at a place that a search passes over
  pub passed_over : {a b : ℕ} (m : ℕ) → FirstToken way p i wanted
      → Skips way v wanted a b → a ≤ m → m < b → ¬ SplitsFrom v m p i way
  passed_over m x skips low below s = by wanted (skips.differs m low below) x.asks where
    by : (w : Option ℕ) → IsSomeAnd w (λ c. fold way (get_or v m 0) ≢ fold way c) → ((c : ℕ) → w ≡ Some c → x.token ≡ Byte c) → ⊥
    by None differs asks = differs
    by (Some c) differs asks =
        let here : TokenAt way p i (Byte c) x.after = subst (λ (t : Token). TokenAt way p i t x.after) (asks c refl) x.here in
        differs (one_out way p v i x.after m (Byte c) tt here s).1

  -- no split begins at the value's end
  pub not_at_end : (m : ℕ) → FirstToken way p i wanted → m ≡ length v
      → ¬ SplitsFrom v m p i way
  not_at_end m x all s = by x.one_or_nothing where
    by : IsOne x.token ⊎ (x.token ≡ Nothing) → ⊥
    by (inl one) =
        let out = one_out way p v i x.after m x.token one x.here s in
        let inside : m < length v = out.0 in
        omega arith
    by (inr same) =
        nothing_out way p v i x.after m (subst (λ (t : Token). TokenAt way p i t x.after) same x.here) (omega arith) s

-- ---- the searches

-- Where there is room, no split begins from one place up to another.
pub record Tried (way : Way) (p v : List ℕ) (i depth k e until : ℕ) : Type 0 where
  pub low : k ≤ e
  pub high : e ≤ until
  pub none : HasRoom p i way depth → (m : ℕ) → k ≤ m → m < e → ¬ SplitsFrom v m p i way

module _ {way : Way} {p v : List ℕ} {i depth k e until found : ℕ} {wanted : Option ℕ} where
  -- the places passed over are tried too
  tried_to : Tried way p v i depth k e until
      → FirstToken way p i wanted → Skips way v wanted e found → HasRoom p i way depth
      → (m : ℕ) → k ≤ m → m < found → ¬ SplitsFrom v m p i way
  tried_to x first skips room m low below = by (cases_lt m e) where
    by : (m < e) ⊎ (e ≤ m) → ¬ SplitsFrom v m p i way
    by (inl before) = x.none room m low before
    by (inr after) = passed_over m first skips after below

  pub tried_next : {answer : Answer} → Tried way p v i depth k e until → FirstToken way p i wanted → Skips way v wanted e found → found < until
      → IsAttempt answer p i v found way depth → answer ≢ Match → Tried way p v i depth k (found + 1) until
  tried_next x first skips inside attempt lost =
      let low : k ≤ e = x.low in
      let past : e ≤ found = skips.low in record {
        low = omega arith;
        high = omega arith;
        none = λ room m above below. by room m above below (cases_lt m found);
      } where
        by : HasRoom p i way depth → (m : ℕ) → k ≤ m → m < found + 1 → (m < found) ⊎ (found ≤ m) → ¬ SplitsFrom v m p i way
        by room m above below (inl before) = tried_to x first skips room m above before
        by room m above below (inr after) =
            let same : found ≡ m = omega arith in
            subst (λ (n : ℕ). ¬ SplitsFrom v n p i way) same ((excluded attempt room).here lost)

  -- all places from the one found on are lost, and so all from the start on
  all_lost : ¬ HasByte p i star
      → Tried way p v i depth k e until → FirstToken way p i wanted → Skips way v wanted e found
      → IsAttempt AbortAll p i v found way depth → HasRoom p i way depth
      → (m : ℕ) → k ≤ m → m ≤ length v → ¬ SplitsFrom v m p i way
  all_lost bare x first skips attempt room m low high = by (cases_lt m found) where
    by : (m < found) ⊎ (found ≤ m) → ¬ SplitsFrom v m p i way
    by (inl before) = tried_to x first skips room m low before
    by (inr after) = (excluded attempt room).everywhere refl bare m after high

module _ {way : Way} {p v : List ℕ} {i k e depth : ℕ} {wanted : Option ℕ} where
  -- no further place
  pub cross_none : Tried way p v i (depth + 1) k e (length v) → FirstToken way p i wanted → Skips way v wanted e (length v)
      → IsTriedEverywhere AbortAll p i v k way depth
  cross_none x first skips = record {
    found = λ so. cc;
    lost = λ room ne m low high. by room m low high (cases_lt m (length v));
    limit = λ room so. cc;
    not_here_alone = λ so. cc;
    not_component_alone = λ so. cc;
  } where
    by : HasRoom p i way (depth + 1) → (m : ℕ) → k ≤ m → m ≤ length v → (m < length v) ⊎ (length v ≤ m) → ¬ SplitsFrom v m p i way
    by room m low high (inl below) =
        tried_to x first skips room m low below
    by room m low high (inr all) = not_at_end m first (omega arith)

  -- an answer that ends the search
  pub cross_answer : {found : ℕ} (answer : Answer) → ¬ HasByte p i star
      → Tried way p v i (depth + 1) k e (length v) → FirstToken way p i wanted → Skips way v wanted e found → found < length v
      → IsAttempt answer p i v found way (depth + 1) → answer ≢ NoMatch → answer ≢ AbortToStarStar
      → IsTriedEverywhere answer p i v k way depth
  cross_answer {found} Match bare x first skips inside attempt n1 n2 =
      let low : k ≤ e = x.low in
      let past : e ≤ found = skips.low in record {
        found = λ so. (found, omega arith, omega arith, attempt.split refl);
        lost = λ room ne. absurd (ne refl);
        limit = λ room so. cc;
        not_here_alone = n1;
        not_component_alone = n2;
      }
  cross_answer NoMatch bare x first skips inside attempt n1 n2 = absurd (n1 refl)
  cross_answer AbortAll bare x first skips inside attempt n1 n2 = record {
    found = λ so. cc;
    lost = λ room ne. all_lost bare x first skips attempt room;
    limit = λ room so. cc;
    not_here_alone = n1;
    not_component_alone = n2;
  }
  cross_answer AbortToStarStar bare x first skips inside attempt n1 n2 = absurd (n2 refl)
  cross_answer RecursionLimitReached bare x first skips inside attempt n1 n2 = record {
    found = λ so. cc;
    lost = λ room ne. absurd ((excluded attempt room).limit refl);
    limit = λ room so. (excluded attempt room).limit refl;
    not_here_alone = n1;
    not_component_alone = n2;
  }

-- ---- within a component

-- what lies within a component ends before its slash
within_end : {v : List ℕ} {k end : ℕ} (m : ℕ) → IsComponentEnd v k end → k ≤ m → m ≤ length v → NoSlash v k m → end < m → ⊥
within_end {v} {k} {end} m x low high none past =
    let first : k ≤ end = x.low in none.at end first past (x.ends (omega arith))

pub stay_more : {way : Way} {p v : List ℕ} {i k end depth : ℕ} → i ≡ length p → k ≤ length v → IsComponentEnd v k end
    → end ≢ length v → IsTriedInComponent AbortToStarStar p i v k way depth
stay_more {way} {p} {v} {i} {k} {end} at_end inside x more = record {
  found = λ so. cc;
  lost = λ room ne m low high none s.
      let all : length v ≤ m = end_out way p v i m at_end s in
      let before : end ≤ length v = x.inside in
      let strict : end < length v → ⊥ = λ past. within_end m x low high none (omega arith) in
      more (omega arith);
  everywhere = λ room so. cc;
  limit = λ room so. cc;
}

module _ {way : Way} {p v : List ℕ} {i k e end until depth : ℕ} {wanted : Option ℕ} where
  pub stay_none : IsComponentEnd v k end
      → until ≡ min (length v) (end + 1)
      → Tried way p v i (depth + 1) k e until → FirstToken way p i wanted → Skips way v wanted e until
      → IsTriedInComponent AbortToStarStar p i v k way depth
  stay_none x reach tried first skips = record {
    found = λ so. cc;
    lost = λ room ne m low high none. by room m low high none (cases_lt m until);
    everywhere = λ room so. cc;
    limit = λ room so. cc;
  } where
    last : (m : ℕ) → k ≤ m → m ≤ length v → NoSlash v k m → until ≤ m → m ≡ length v
    last m low high none past =
        let before : end < m → ⊥ = within_end m x low high none in
        let least : until ≡ min (length v) (end + 1) = reach in
        omega arith

    by : HasRoom p i way (depth + 1) → (m : ℕ) → k ≤ m → m ≤ length v → NoSlash v k m → (m < until) ⊎ (until ≤ m)
        → ¬ SplitsFrom v m p i way
    by room m low high none (inl below) =
        tried_to tried first skips room m low below
    by room m low high none (inr past) = not_at_end m first (last m low high none past)

  pub stay_answer : {found : ℕ} (answer : Answer) → ¬ HasByte p i star → IsComponentEnd v k end → until ≡ min (length v) (end + 1)
      → Tried way p v i (depth + 1) k e until → FirstToken way p i wanted → Skips way v wanted e found → found < until
      → IsAttempt answer p i v found way (depth + 1) → answer ≢ NoMatch → IsTriedInComponent answer p i v k way depth
  stay_answer {found} Match bare x reach tried first skips inside attempt n1 =
      let low : k ≤ e = tried.low in
      let past : e ≤ found = skips.low in
      let least : until ≡ min (length v) (end + 1) = reach in record {
        found = λ so. (found, omega arith, omega arith, record { at = λ m above below. x.none.at m above (omega arith) }, attempt.split refl);
        lost = λ room ne. absurd (ne refl);
        everywhere = λ room so. cc;
        limit = λ room so. cc;
      }
  stay_answer NoMatch bare x reach tried first skips inside attempt n1 = absurd (n1 refl)
  stay_answer AbortAll bare x reach tried first skips inside attempt n1 = record {
    found = λ so. cc;
    lost = λ room ne m low high none.
        all_lost bare tried first skips attempt room m low high;
    everywhere = λ room so. all_lost bare tried first skips attempt room;
    limit = λ room so. cc;
  }
  stay_answer {found} AbortToStarStar bare x reach tried first skips inside attempt n1 = record {
    found = λ so. cc;
    lost = λ room ne m low high none. by room m low high none (cases_lt m found);
    everywhere = λ room so. cc;
    limit = λ room so. cc;
  } where
    by : HasRoom p i way (depth + 1) → (m : ℕ) → k ≤ m → m ≤ length v → NoSlash v k m → (m < found) ⊎ (found ≤ m)
        → ¬ SplitsFrom v m p i way
    by room m low high none (inl before) =
        tried_to tried first skips room m low before
    by room m low high none (inr after) =
        let from : k ≤ e = tried.low in
        let past : e ≤ found = skips.low in
        (excluded attempt room).component refl bare m after high (record { at = λ q above below. none.at q (omega arith) below })
  stay_answer RecursionLimitReached bare x reach tried first skips inside attempt n1 = record {
    found = λ so. cc;
    lost = λ room ne. absurd ((excluded attempt room).limit refl);
    everywhere = λ room so. cc;
    limit = λ room so. (excluded attempt room).limit refl;
  }

-- ---- at the star token

-- the token at place i is a run that crosses slashes, or a double star with its slash
pub record BeginsCrossingAt (p : List ℕ) (i : ℕ) (way : Way) : Type 0 where
  pub after : ℕ
  pub token : TokenAt way p i Free after ⊎ TokenAt way p i Dirs after

-- What an answer says at a star token: what it says of further places, it says of those that the bytes before it allow.
pub record AtStar (answer : Answer) (p : List ℕ) (i : ℕ) (v : List ℕ) (k : ℕ) (way : Way) (depth : ℕ) : Type 0 where
  pub token : Token
  pub after : ℕ
  pub here : TokenAt way p i token after
  pub is_star : IsStarToken p i token after
  pub found : answer ≡ Match → SplitsFrom v k p i way
  pub path : answer ≡ AbortToStarStar → IsTrue (is_path way)
  pub lost : HasRoom p i way depth → answer ≢ Match → ¬ SplitsFrom v k p i way
  pub everywhere : HasRoom p i way depth → answer ≡ AbortAll → 0 < i → (e : ℕ) → k ≤ e → e ≤ length v
      → (HasByte p (i - 1) slash → get_or v (e - 1) 0 ≡ slash) → ¬ SplitsFrom v e p i way
  pub component : HasRoom p i way depth → answer ≡ AbortToStarStar → (e : ℕ) → k ≤ e → e ≤ length v → NoSlash v k e
      → ¬ SplitsFrom v e p i way
  pub limit : HasRoom p i way depth → answer ≢ RecursionLimitReached
  pub crossing : BeginsCrossingAt p i way → answer ≢ NoMatch

abort_no_match : (answer : Answer) → answer ≡ AbortAll → answer ≢ Match
abort_no_match answer so f = cc

component_no_match : (answer : Answer) → answer ≡ AbortToStarStar → answer ≢ Match
component_no_match answer so f = cc

local_not_crossing : {way : Way} {p : List ℕ} {i j : ℕ} → TokenAt way p i Local j → BeginsCrossingAt p i way → ⊥
local_not_crossing {way} {p} {i} {j} here b = by b.token where
  by : TokenAt way p i Free b.after ⊎ TokenAt way p i Dirs b.after → ⊥
  by (inl so) = let same : Local ≡ Free = (TokenAt-unique way p i Local Free j b.after here so).0 in cc
  by (inr so) = let same : Local ≡ Dirs = (TokenAt-unique way p i Local Dirs j b.after here so).0 in cc

module _ {way : Way} {p v : List ℕ} {i j k depth : ℕ} {answer : Answer} where
  pub free_star : TokenAt way p i Free j → k ≤ length v
      → IsTriedEverywhere answer p j v k way depth → AtStar answer p i v k way depth
  free_star here inside x =
      let is_star : IsStarToken p i Free j = record { stop = j; run = here.0; after = inl refl; counts = λ ts. refl } in record {
        token = Free;
        after = j;
        here = here;
        is_star = is_star;
        found = λ so. let there = x.found so in free_in way p v i j k there.0 here there.1 there.2 there.3;
        path = λ so. absurd (x.not_component_alone so);
        lost = λ room ne s.
            let out = free_out way p v i j k here inside s in
            x.lost (room_after here is_star room) ne out.0 out.1 out.2 out.3;
        everywhere = λ room so past m low high behind s.
            let out = free_out way p v i j m here high s in
            let later : m ≤ out.0 = out.1 in
            x.lost (room_after here is_star room) (abort_no_match answer so) out.0 (omega arith) out.2 out.3;
        component = λ room so. absurd (x.not_component_alone so);
        limit = λ room. x.limit (room_after here is_star room);
        crossing = λ b. x.not_here_alone;
      }

  pub local_star : TokenAt way p i Local j → k ≤ length v
      → IsTriedInComponent answer p j v k way depth → AtStar answer p i v k way depth
  local_star here inside x =
      let is_star : IsStarToken p i Local j = record { stop = j; run = here.0; after = inl refl; counts = λ ts. refl } in record {
        token = Local;
        after = j;
        here = here;
        is_star = is_star;
        found = λ so. let there = x.found so in local_in way p v i j k there.0 here there.1 there.2 there.3 there.4;
        path = λ so. here.1;
        lost = λ room ne s.
            let out = local_out way p v i j k here inside s in
            x.lost (room_after here is_star room) ne out.0 out.1 out.2 out.3 out.4;
        everywhere = λ room so past m low high behind s.
            let out = local_out way p v i j m here high s in
            let later : m ≤ out.0 = out.1 in
            x.everywhere (room_after here is_star room) so out.0 (omega arith) out.2 out.4;
        component = λ room so m low high none s.
            let out = local_out way p v i j m here high s in
            let later : m ≤ out.0 = out.1 in
            let all : NoSlash v k out.0 = no_slash_join none out.3 in
            x.lost (room_after here is_star room) (component_no_match answer so) out.0 (omega arith) out.2 all out.4;
        limit = λ room. x.limit (room_after here is_star room);
        crossing = λ b. absurd (local_not_crossing here b);
      }

  pub dirs_star : TokenAt way p i Dirs j → k ≤ length v
      → IsTriedInDirectories answer p i j v k way depth → AtStar answer p i v k way depth
  dirs_star here inside x =
      let is_star : IsStarToken p i Dirs j =
      record { stop = here.run_end; run = here.run; after = inr (here.slash, here.after); counts = λ ts. refl } in record {
        token = Dirs;
        after = j;
        here = here;
        is_star = is_star;
        found = x.found;
        path = λ so. absurd (x.not_component_alone so);
        lost = λ room ne. x.lost (room_after here is_star room) ne k (omega arith) inside (λ no. absurd (no refl));
        everywhere = λ room so past m low high behind.
            x.lost (room_after here is_star room) (abort_no_match answer so) m low high
            (λ no. behind (after_slash past here.bounded.before));
        component = λ room so. absurd (x.not_component_alone so);
        limit = λ room. x.limit (room_after here is_star room);
        crossing = λ b. x.not_here_alone;
      } where
        after_slash : 0 < i → (i ≡ 0) ⊎ HasByte p (i - 1) slash → HasByte p (i - 1) slash
        after_slash past (inl none) = absurd (omega arith)
        after_slash past (inr h) = h

-- ---- a double star with its slash

module _ {way : Way} {p v : List ℕ} {i j k depth : ℕ} where
  pub descent_here : DirsAt way p i j → k ≤ length v
      → SplitsFrom v k p j way → IsTriedInDirectories Match p i j v k way depth
  descent_here here inside s = record {
    found = λ so. dirs_in_empty way p v i j k here inside s;
    lost = λ room ne. absurd (ne refl);
    limit = λ room so. cc;
    not_here_alone = λ so. cc;
    not_component_alone = λ so. cc;
  }

  pub descent_later : {s : ℕ} {first answer : Answer} → DirsAt way p i j → j ≡ s + 1
      → k ≤ length v → IsAttempt first p j v k way (depth + 1) → first ≢ Match → IsTriedEverywhere answer p s v k way depth
      → IsTriedInDirectories answer p i j v k way depth
  descent_later {s} {first} {answer} here next inside empty none x = record {
    found = λ so. let there = x.found so in found there.0 there.1 there.2 there.3;
    lost = λ room ne m low high behind whole.
        let out = dirs_out way p v i j m here high whole in
        later room ne m low high behind out.0 out.1 out.2;
    limit = λ room. x.limit (room_here room);
    not_here_alone = x.not_here_alone;
    not_component_alone = x.not_component_alone;
  } where
    at_slash : HasByte p s slash
    at_slash = dirs_slash way p i s (subst (λ (n : ℕ). DirsAt way p i n) next here)

    room_here : HasRoom p j way (depth + 1) → HasRoom p s way (depth + 1)
    room_here room = room_at_slash at_slash (subst (λ (n : ℕ). HasRoom p n way (depth + 1)) next room)

    token : TokenAt way p s (Byte slash) j
    token = subst (λ (n : ℕ). TokenAt way p s (Byte slash) n) (sym next) (slash_token way p s at_slash)

    found : (e : ℕ) → k ≤ e → e ≤ length v → SplitsFrom v e p s way → SplitsFrom v k p i way
    found e low high whole =
        let out = one_out way p v s j e (Byte slash) tt token whole in
        let below : e < length v = out.0 in
        let back : e + 1 - 1 ≡ e = omega arith in
        let is : get_or v (e + 1 - 1) 0 ≡ slash =
        subst (λ (n : ℕ). get_or v n 0 ≡ slash) (sym back) (fold_slash way (get_or v e 0) out.1) in
        dirs_in way p v i j k (e + 1) here (record { past = omega arith; inside = omega arith; slash = is }) out.2

    -- a slash, and after it what the rest splits
    slash_then : HasRoom p j way (depth + 1) → answer ≢ Match → (e : ℕ) → k < e → e ≤ length v → get_or v (e - 1) 0 ≡ slash
        → ¬ SplitsFrom v e p j way
    slash_then room ne e past high is rest =
        let forth : e - 1 + 1 ≡ e = omega arith in
        let taken : fold way (get_or v (e - 1) 0) ≡ fold way slash = ap (λ (c : ℕ). fold way c) is in
        x.lost (room_here room) ne (e - 1) (omega arith) (omega arith)
        (one_in way p v s j (e - 1) (Byte slash) token (omega arith) taken
        (subst (λ (n : ℕ). SplitsFrom v n p j way) (sym forth) rest))

    later : HasRoom p j way (depth + 1) → answer ≢ Match → (m : ℕ) → k ≤ m → m ≤ length v
        → (m ≢ k → get_or v (m - 1) 0 ≡ slash) → (e : ℕ) → (e ≡ m) ⊎ AfterSlash v m e → SplitsFrom v e p j way → ⊥
    later room ne m low high behind e (inl same) rest = by (cases_lt k m) where
      by : (k < m) ⊎ (m ≤ k) → ⊥
      by (inl past) =
          slash_then room ne m past high (behind (λ is. omega arith)) (subst (λ (n : ℕ). SplitsFrom v n p j way) same rest)
      by (inr only) =
          let is : e ≡ k = omega arith in
          (excluded empty room).here none (subst (λ (n : ℕ). SplitsFrom v n p j way) is rest)
    later room ne m low high behind e (inr after) rest =
        let past : m < e = after.past in slash_then room ne e (omega arith) after.inside after.slash rest
