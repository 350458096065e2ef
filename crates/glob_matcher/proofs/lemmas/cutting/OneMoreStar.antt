-- One more star at the start of a star token: in plain mode the pattern's tokens stay as they are.
use Rattle.std.proofs.Common.{◌≡◌, ◌⊎◌, inl, inr, ℕ, ◌+◌, ◌-◌, ◌<◌, ◌≤◌, ◌↔◌, false, List, [], ◌∷◌, length, refl, sym, ◌∙◌, ap, subst, arith}
use Rattle.std.specs.List.{insert}
use Rattle.std.proofs.lemmas.Bool.{cases_lt}
use Rattle.std.proofs.lemmas.List.Edits.{length-insert, get_or-insert_at, get_or-insert_below, get_or-insert_above}
use Rattle.glob_matcher.specs.declared.wildmatch.mode.Mode.{Mode}
use Rattle.glob_matcher.specs.declared.wildmatch.way.Way.{Way}
use Rattle.glob_matcher.specs.Ways.{way_of}
use Rattle.glob_matcher.proofs.lemmas.reading.WayLemmas.{modes_are_inexact}
use Rattle.glob_matcher.specs.Bytes.{HasByte, is_path, star, slash}
use Rattle.glob_matcher.specs.ExactFolding.{is_exact}
use Rattle.glob_matcher.specs.Tokens.{Token, Byte, Free, TokenAt, IsRun, Spells, From, Tokens}
use Rattle.glob_matcher.specs.Matching.{SplitsBy}
use Rattle.glob_matcher.specs.Pruning.{HasStars, IsBoundary, star_count}
use Rattle.glob_matcher.proofs.lemmas.reading.SetLemmas.{HasByte-unique}
use Rattle.glob_matcher.proofs.lemmas.reading.TokenLemmas.{TokenAt-unique, TokenAt-inside, run_lead}
use Rattle.glob_matcher.proofs.lemmas.reading.Existence.{From-short}
use Rattle.glob_matcher.proofs.lemmas.cutting.SplitLemmas.{IsStarToken, IsOtherToken, star_or_other, slash_token}
use Rattle.glob_matcher.proofs.lemmas.reading.ForwardReading.{Alike, alike_flip, from_alike, plain_bounds, spells_alike}

-- ---- the bytes

module _ (p : List ℕ) (i : ℕ) (lead : HasByte p i star) where
  abbrev q : List ℕ
  q = insert p i star

  long : length q ≡ length p + 1
  long = let inside : i < length p = lead.inside in length-insert p i star (omega arith)

  star_at : HasByte q i star
  star_at =
      let inside : i < length p = lead.inside in
      let more = long in
      record { inside = omega arith; is = get_or-insert_at p i star 0 (omega arith) }

  -- up to the star that was there, the bytes are the same
  before : (x c : ℕ) → x < i + 1 → HasByte p x c → HasByte q x c
  before x c below h = elim (cases_lt x i) [
    | inl less ↦
        let inside : i < length p = lead.inside in
        let more = long in
        record { inside = omega arith; is = get_or-insert_below p i star 0 x less (omega arith) ∙ h.is }
    | inr last ↦
        let at : i ≡ x = omega arith in
        let same : star ≡ c = HasByte-unique p x star c (subst (λ (m : ℕ). HasByte p m star) at lead) h in
        subst (λ (d : ℕ). HasByte q x d) same (subst (λ (m : ℕ). HasByte q m star) at star_at)
  ]

  before_back : (x c : ℕ) → x < i + 1 → HasByte q x c → HasByte p x c
  before_back x c below h = elim (cases_lt x i) [
    | inl less ↦
        let inside : i < length p = lead.inside in
        record { inside = omega arith; is = sym (get_or-insert_below p i star 0 x less (omega arith)) ∙ h.is }
    | inr last ↦
        let at : i ≡ x = omega arith in
        let same : star ≡ c = HasByte-unique q x star c (subst (λ (m : ℕ). HasByte q m star) at star_at) h in
        subst (λ (d : ℕ). HasByte p x d) same (subst (λ (m : ℕ). HasByte p m star) at lead)
  ]

  alike_before : Alike p 0 q 0 (i + 1)
  alike_before = record {
    there = λ x y c f h.
        let below : x < 0 + (i + 1) = f.below in
        let sum : x + 0 ≡ y + 0 = f.same in
        let at : x ≡ y = omega arith in
        subst (λ (m : ℕ). HasByte q m c) at (before x c (omega arith) h);
    back = λ x y c f h.
        let below : x < 0 + (i + 1) = f.below in
        let sum : x + 0 ≡ y + 0 = f.same in
        let at : y ≡ x = omega arith in
        before_back x c (omega arith) (subst (λ (m : ℕ). HasByte q m c) at h);
  }

  -- from that star on, the bytes stand one place further
  after : (x c : ℕ) → i ≤ x → HasByte p x c → HasByte q (x + 1) c
  after x c low h =
      let inside : i < length p = lead.inside in
      let there : x < length p = h.inside in
      let more = long in
      record { inside = omega arith; is = get_or-insert_above p i star 0 x low (omega arith) ∙ h.is }

  after_back : (x c : ℕ) → i ≤ x → HasByte q (x + 1) c → HasByte p x c
  after_back x c low h =
      let inside : i < length p = lead.inside in
      let there : x + 1 < length q = h.inside in
      let more = long in
      record { inside = omega arith; is = sym (get_or-insert_above p i star 0 x low (omega arith)) ∙ h.is }

  alike_after : (n : ℕ) → Alike p i q (i + 1) n
  alike_after n = record {
    there = λ x y c f h.
        let sum : x + (i + 1) ≡ y + i = f.same in
        let at : x + 1 ≡ y = omega arith in
        subst (λ (m : ℕ). HasByte q m c) at (after x c f.low h);
    back = λ x y c f h.
        let sum : x + (i + 1) ≡ y + i = f.same in
        let at : y ≡ x + 1 = omega arith in
        after_back x c f.low (subst (λ (m : ℕ). HasByte q m c) at h);
  }

  longer_run : (j : ℕ) → IsRun p i j → IsRun q i (j + 1)
  longer_run j run =
      let some : i < j = run.some in record {
        some = omega arith;
        stars = λ m low below. by m low below (cases_lt i m);
        whole = λ h. run.whole (after_back j star (omega arith) h);
      } where
        by : (m : ℕ) → i ≤ m → m < j + 1 → (i < m) ⊎ (m ≤ i) → HasByte q m star
        by m low below (inl past) =
            let at : (m - 1) + 1 ≡ m = omega arith in
            subst (λ (m : ℕ). HasByte q m star) at (after (m - 1) star (omega arith) (run.stars (m - 1) (omega arith) (omega arith)))
        by m low below (inr first) =
            let at : i ≡ m = omega arith in
            subst (λ (m : ℕ). HasByte q m star) at star_at

  -- the tokens after the run
  rest_there : (way : Way) (j : ℕ) (ts : List Token) → is_path way ≡ false → i ≤ j → From way p j ts → From way q (j + 1) ts
  rest_there way j ts plain low read =
      let more = long in
      let short : j + length ts ≤ length p = From-short way p j ts read in
      from_alike p i q (i + 1) (length p + 1) (alike_after (length p + 1)) (omega arith) (omega arith) way (λ x y _. plain_bounds way p q x y plain) j (j + 1) ts
      (record { low = low; below = omega arith; same = omega arith }) read

  rest_back : (way : Way) (j : ℕ) (ts : List Token) → is_path way ≡ false → i ≤ j → From way q (j + 1) ts → From way p j ts
  rest_back way j ts plain low read =
      let more = long in
      let short : j + 1 + length ts ≤ length q = From-short way q (j + 1) ts read in
      from_alike q (i + 1) p i (length p + 1) (alike_flip p i q (i + 1) (length p + 1) (alike_after (length p + 1)))
      (omega arith) (omega arith) way (λ x y _. plain_bounds way q p x y plain) (j + 1) j ts
      (record { low = omega arith; below = omega arith; same = omega arith }) read

-- ---- the tokens

-- Where two texts spell the same tokens and each reading of the one's rest is one of the other's, so are the whole readings.
read_over : (way : Way) (p q : List ℕ) (ts : List Token) (x i y j : ℕ) → Spells way p x ts i → Spells way q y ts j
    → ((us : List Token) → From way p i us → From way q j us) → (us : List Token) → From way p x us → From way q y us
read_over way p q [] x i y j e f rest us read =
    subst (λ (n : ℕ). From way q n us) (sym f) (rest us (subst (λ (n : ℕ). From way p n us) e read))
read_over way p q (t ∷ ts) x i y j e f rest [] read =
    let inside = TokenAt-inside way p x t e.0 e.1 in
    absurd (omega arith)
read_over way p q (t ∷ ts) x i y j e f rest (u ∷ us) read =
    let same = TokenAt-unique way p x t u e.0 read.0 e.1 read.1 in (
      f.0,
      subst (λ (w : Token). TokenAt way q y w f.0) same.0 f.1,
      read_over way p q ts e.0 i f.0 j e.2 f.2 rest us (subst (λ (n : ℕ). From way p n us) (sym same.1) read.2),
    )

module _ (way : Way) (p : List ℕ) (ts : List Token) (i j : ℕ) (plain : is_path way ≡ false) (spelled : Spells way p 0 ts i)
    (free : TokenAt way p i Free j) where
  lead : HasByte p i star
  lead = run_lead p i j free.0

  low : i ≤ j
  low = let some : i < j = free.0.some in omega arith

  spelled_too : Spells way (insert p i star) 0 ts i
  spelled_too =
      spells_alike p (insert p i star) (i + 1) (alike_before p i lead) way 0 ts i plain (omega arith) lead.inside spelled

  free_too : TokenAt way (insert p i star) i Free (j + 1)
  free_too = (longer_run p i lead j free.0, λ path. cc)

  pub reads_there : (us : List Token) → Tokens way p us → Tokens way (insert p i star) us
  reads_there =
      read_over way p (insert p i star) ts 0 i 0 i spelled spelled_too
      (read_over way p (insert p i star) (Free ∷ []) i j i (j + 1) (j, free, refl) (j + 1, free_too, refl)
      (λ us read. rest_there p i lead way j us plain low read))

  pub reads_back : (us : List Token) → Tokens way (insert p i star) us → Tokens way p us
  reads_back =
      read_over way (insert p i star) p ts 0 i 0 i spelled_too spelled
      (read_over way (insert p i star) p (Free ∷ []) i (j + 1) i j (j + 1, free_too, refl) (j, free, refl)
      (λ us read. rest_back p i lead way j us plain low read))

-- ---- the count of star tokens

-- a reading in plain mode, with as many star tokens
record PlainReading (way : Way) (p : List ℕ) (i n : ℕ) : Type 0 where
  tokens : List Token
  read : From way p i tokens
  counted : star_count tokens ≡ n

plain_reading : (m way : Way) → is_exact m ≡ is_exact way → (p : List ℕ) (i : ℕ) (ts : List Token) → is_path way ≡ false → From m p i ts
    → PlainReading way p i (star_count ts)
plain_reading m way exact p i [] plain e = record { tokens = []; read = e; counted = refl }
plain_reading m way exact p i (t ∷ ts) plain e = by (plain_reading m way exact p e.0 ts plain e.2) (star_or_other m p i t e.0 e.1) where
  free : (stop : ℕ) → IsRun p i stop → TokenAt way p i Free stop
  free stop run = (run, λ path. cc)

  star : PlainReading way p e.0 (star_count ts) → (x : IsStarToken p i t e.0)
      → (e.0 ≡ x.stop) ⊎ (HasByte p x.stop slash × (e.0 ≡ x.stop + 1)) → PlainReading way p i (star_count (t ∷ ts))
  star r x (inl here) = record {
    tokens = Free ∷ r.tokens;
    read = (x.stop, free x.stop x.run, subst (λ (n : ℕ). From way p n r.tokens) here r.read);
    counted = ap (λ (n : ℕ). n + 1) r.counted ∙ sym (x.counts ts);
  }
  star r x (inr here) = record {
    tokens = Free ∷ Byte slash ∷ r.tokens;
    read = (
      x.stop,
      free x.stop x.run,
      (x.stop + 1, slash_token way p x.stop here.0, subst (λ (n : ℕ). From way p n r.tokens) here.1 r.read),
    );
    counted = ap (λ (n : ℕ). n + 1) r.counted ∙ sym (x.counts ts);
  }

  by : PlainReading way p e.0 (star_count ts) → IsStarToken p i t e.0 ⊎ IsOtherToken m p i t e.0
      → PlainReading way p i (star_count (t ∷ ts))
  by r (inl x) = star r x x.after
  by r (inr x) = record {
    tokens = t ∷ r.tokens;
    read = (e.0, x.alike way exact, r.read);
    counted = x.counts r.tokens ∙ (r.counted ∙ sym (x.counts ts));
  }

-- ---- the law

-- one more star changes nothing of what the pattern splits in plain mode
pub same_splits : (way : Way) (p v : List ℕ) (i j : ℕ) → is_path way ≡ false → IsBoundary p i way → TokenAt way p i Free j
    → SplitsBy v p way ↔ SplitsBy v (insert p i star) way
same_splits way p v i j plain start free = (
  λ s. record { tokens = s.tokens; read = reads_there way p start.tokens i j plain start.spelled free s.tokens s.read; cut = s.cut },
  λ s. record { tokens = s.tokens; read = reads_back way p start.tokens i j plain start.spelled free s.tokens s.read; cut = s.cut },
)

-- nor of the number of its star tokens
pub same_stars : (mode : Mode) (p : List ℕ) (i j n : ℕ) → is_path (way_of mode) ≡ false → IsBoundary p i (way_of mode) → TokenAt (way_of mode) p i Free j
    → HasStars p n ↔ HasStars (insert p i star) n
same_stars mode p i j n plain start free =
    let way : Way = way_of mode in
    let exact : (other : Mode) → is_exact (way_of other) ≡ is_exact way = λ other. modes_are_inexact other ∙ sym (modes_are_inexact mode) in (
      λ s.
          let r = plain_reading (way_of s.0) way (exact s.0) p 0 s.1 plain s.2 in
          (mode, r.tokens, reads_there way p start.tokens i j plain start.spelled free r.tokens r.read, r.counted ∙ s.3),
      λ s.
          let r = plain_reading (way_of s.0) way (exact s.0) (insert p i star) 0 s.1 plain s.2 in
          (mode, r.tokens, reads_back way p start.tokens i j plain start.spelled free r.tokens r.read, r.counted ∙ s.3),
    )
