-- One alignment: after some tokens of one byte each, what is known where it stands is known where it began.
use Rattle.std.proofs.Common.{◌≡◌, ◌⊎◌, inl, inr, ℕ, ◌+◌, ◌-◌, ◌<◌, ◌≤◌, IsTrue, List, [], ◌∷◌, ◌++◌, length, get_or, drop, refl, sym, ◌∙◌, ap, subst, arith, length-drop}
use Rattle.std.proofs.lemmas.Bool.{cases_lt}
use Rattle.glob_matcher.specs.declared.wildmatch.way.Way.{Way}
use Rattle.glob_matcher.specs.Bytes.{HasByte, NoSlash, is_path, slash, star}
use Rattle.glob_matcher.specs.Tokens.{Token, Byte, Any, OneOf, Free, Local, Dirs, Nothing, TokenAt, From}
use Rattle.glob_matcher.specs.Matching.{OneByte, Lang, IsCut, SplitsFrom, Fits}
use Rattle.glob_matcher.specs.Pruning.{IsStart, TakeOneByte, star_count}
use Rattle.glob_matcher.proofs.lemmas.reading.TokenLemmas.{TokenAt-unique, TokenAt-inside}
use Rattle.glob_matcher.proofs.lemmas.cutting.CutLemmas.{IsOne, one_byte_in, one_byte_out, lang_is_one, one_is_lang, one_in, one_out}
use Rattle.glob_matcher.proofs.lemmas.cutting.SplitLemmas.{IsStarToken, IsOtherToken, star_or_other}
use Rattle.glob_matcher.proofs.lemmas.cutting.SlashLemmas.{fold_slash, only_slash, ends_in_slash_byte}
use Rattle.glob_matcher.proofs.lemmas.reading.Starts.{start_next}

-- The value's bytes from place k on are cut by a beginning, not the whole, of the tokens from place i of the pattern on.
pub record EndsShortFrom (v : List ℕ) (k : ℕ) (p : List ℕ) (i : ℕ) (way : Way) : Type 0 where
  pub beginning : List Token
  pub next : Token
  pub rest : List Token
  pub read : From way p i (beginning ++ next ∷ rest)
  pub cut : IsCut way beginning (drop k v)

-- Place m of the value, where the alignment may begin too, leads to place n.
pub record Moved (way : Way) (p v : List ℕ) (i k j e m n : ℕ) : Type 0 where
  pub inside : n ≤ length v
  pub here : SplitsFrom v n p j way
  pub behind : i < j → HasByte p (j - 1) slash → get_or v (n - 1) 0 ≡ slash
  pub level : IsTrue (is_path way) → NoSlash v k m → NoSlash v e n

-- What the list of tokens from the start on says of the list from here on.
pub record ListMoved (way : Way) (p : List ℕ) (j : ℕ) (ts : List Token) : Type 0 where
  pub tokens : List Token
  pub read : From way p j tokens
  pub counted : star_count tokens ≡ star_count ts
  pub single : TakeOneByte ts → TakeOneByte tokens

-- The alignment began at places i and k, and stands at places j and e.
pub record Aligned (way : Way) (p v : List ℕ) (i k j e : ℕ) : Type 0 where
  pub start : IsStart p j way
  pub low : i ≤ j
  pub value_low : k ≤ e
  pub value_high : e ≤ length v
  pub no_star : i < j → ¬ HasByte p i star
  pub back : SplitsFrom v e p j way → SplitsFrom v k p i way
  pub forth : (m : ℕ) → k ≤ m → m ≤ length v → SplitsFrom v m p i way → Moved way p v i k j e m (m + (e - k))
  pub list : (ts : List Token) → From way p i ts → ListMoved way p j ts
  pub short_back : EndsShortFrom v e p j way → EndsShortFrom v k p i way
  pub short_forth : EndsShortFrom v k p i way → EndsShortFrom v e p j way

one_count : (t : Token) (ts : List Token) → IsOne t → star_count (t ∷ ts) ≡ star_count ts
one_count (Byte b) ts one = refl
one_count Any ts one = refl
one_count (OneOf s) ts one = refl
one_count Free ts one = absurd one
one_count Local ts one = absurd one
one_count Dirs ts one = absurd one
one_count Nothing ts one = absurd one

-- a token of one byte doesn't begin with a star
pub one_no_star : (way : Way) (p : List ℕ) (i : ℕ) (t : Token) (j : ℕ) → IsOne t → TokenAt way p i t j → ¬ HasByte p i star
one_no_star way p i t j one here h = by (star_or_other way p i t j here) where
  by : IsStarToken p i t j ⊎ IsOtherToken way p i t j → ⊥
  by (inl x) =
      let more : star_count (t ∷ []) ≡ star_count [] + 1 = x.counts [] in
      let none : star_count (t ∷ []) ≡ star_count [] = one_count t [] one in
      omega arith
  by (inr x) = x.no_star h

one_single : (t : Token) (ts : List Token) → IsOne t → TakeOneByte (t ∷ ts) → TakeOneByte ts
one_single (Byte b) ts one x = x
one_single Any ts one x = x
one_single (OneOf s) ts one x = x
one_single Free ts one x = absurd one
one_single Local ts one x = absurd one
one_single Dirs ts one x = absurd one
one_single Nothing ts one x = absurd one

pub single_one : (t : Token) (ts : List Token) → TakeOneByte (t ∷ ts) → IsOne t
single_one (Byte b) ts x = tt
single_one Any ts x = tt
single_one (OneOf s) ts x = tt
single_one Free ts x = x
single_one Local ts x = x
single_one Dirs ts x = x
single_one Nothing ts x = x

-- the list after a token of one byte
module _ {way : Way} {p : List ℕ} (i : ℕ) (t : Token) (j : ℕ) where
  list_next : (ts : List Token) → IsOne t → TokenAt way p i t j
      → From way p i ts → ListMoved way p j ts
  list_next [] one here read = let inside = TokenAt-inside way p i t j here in absurd (omega arith)
  list_next (u ∷ us) one here read =
      let same = TokenAt-unique way p i t u j read.0 here read.1 in
      let one' : IsOne u = subst IsOne same.0 one in record {
        tokens = us;
        read = subst (λ (n : ℕ). From way p n us) (sym same.1) read.2;
        counted = sym (one_count u us one');
        single = one_single u us one';
      }

list_then : {way : Way} {p : List ℕ} {i j : ℕ} {ts : List Token} → ListMoved way p i ts
    → ((us : List Token) → From way p i us → ListMoved way p j us) → ListMoved way p j ts
list_then x next =
    let y = next x.tokens x.read in
    record { tokens = y.tokens; read = y.read; counted = y.counted ∙ x.counted; single = λ s. y.single (x.single s) }

module _ {way : Way} {p v : List ℕ} {i k : ℕ} (t : Token) (j : ℕ) where
  -- one more byte taken by the beginning of a list
  short_in : TokenAt way p i t j → k < length v
      → Fits way t (get_or v k 0) → EndsShortFrom v (k + 1) p j way → EndsShortFrom v k p i way
  short_in here inside fits later =
      let one = one_byte_in (Fits way t) v k inside fits in record {
        beginning = t ∷ later.beginning;
        next = later.next;
        rest = later.rest;
        read = (j, here, later.read);
        cut = (get_or v k 0 ∷ [], drop (k + 1) v, one.1, one_is_lang way t (get_or v k 0 ∷ []) one.0, later.cut);
      }

  pub short_out : IsOne t → TokenAt way p i t j → k < length v
      → EndsShortFrom v k p i way → Fits way t (get_or v k 0) × EndsShortFrom v (k + 1) p j way
  short_out one here inside all = out all.beginning all.read all.cut where
    out : (ts : List Token) → From way p i (ts ++ all.next ∷ all.rest) → IsCut way ts (drop k v)
        → Fits way t (get_or v k 0) × EndsShortFrom v (k + 1) p j way
    out [] read cut =
        let none : length v - k ≡ 0 = sym (length-drop k v) ∙ ap (λ (xs : List ℕ). length xs) cut in absurd (omega arith)
    out (u ∷ us) read cut =
        let same = TokenAt-unique way p i u t read.0 j read.1 here in
        let piece : OneByte (Fits way t) cut.0 =
        lang_is_one way t cut.0 one (subst (λ (x : Token). Lang way x cut.0) same.0 cut.3) in
        let parts = one_byte_out (Fits way t) v k cut.0 cut.1 cut.2 piece in (
          parts.1,
          record {
            beginning = us;
            next = all.next;
            rest = all.rest;
            read = subst (λ (n : ℕ). From way p n (us ++ all.next ∷ all.rest)) same.1 read.2;
            cut = subst (λ (xs : List ℕ). IsCut way us xs) parts.2 cut.4;
          },
        )

module _ {way : Way} {p v : List ℕ} {i k j e : ℕ} (t : Token) (next : ℕ) where
  -- what a byte taken moves
  moved_next : {m n : ℕ} → Moved way p v i k j e m n → e ≤ n
      → IsOne t → TokenAt way p j t next → Fits way t (get_or v e 0) → Moved way p v i k next (e + 1) m (n + 1)
  moved_next {m} {n} x low one here fits =
      let out = one_out way p v j next n t one here x.here in
      let inside : n < length v = out.0 in record {
        inside = omega arith;
        here = out.2;
        behind = λ past is.
            let same : t ≡ Byte slash = ends_in_slash_byte way p j t next one here is in
            let back : n + 1 - 1 ≡ n = omega arith in
            let taken : Fits way (Byte slash) (get_or v n 0) = subst (λ (u : Token). Fits way u (get_or v n 0)) same out.1 in
            subst (λ (q : ℕ). get_or v q 0 ≡ slash) (sym back) (fold_slash way (get_or v n 0) taken);
        level = λ path none. record {
          at = λ q above below is.
              let before : NoSlash v e n = x.level path none in
              at_last q path before above is (cases_lt q n) (omega arith) out.1;
        };
      } where
        at_last : (q : ℕ) → IsTrue (is_path way) → NoSlash v e n → e + 1 ≤ q → get_or v q 0 ≡ slash → (q < n) ⊎ (n ≤ q) → q ≤ n
            → Fits way t (get_or v n 0) → ⊥
        at_last q path before above is (inl less) most taken = before.at q (omega arith) less is
        at_last q path before above is (inr more) most taken =
            let same : q ≡ n = omega arith in
            let byte : get_or v n 0 ≡ slash = subst (λ (r : ℕ). get_or v r 0 ≡ slash) same is in
            let first : get_or v e 0 ≡ slash =
            only_slash way t (get_or v e 0) path (subst (λ (c : ℕ). Fits way t c) byte taken) fits in
            before.at e (omega arith) (omega arith) first

  pub aligned_next : Aligned way p v i k j e
      → IsOne t → TokenAt way p j t next → j < next → e < length v → Fits way t (get_or v e 0)
      → Aligned way p v i k next (e + 1)
  aligned_next x one here past inside fits =
      let low : i ≤ j = x.low in
      let value_low : k ≤ e = x.value_low in record {
        start = start_next t next x.start here;
        low = omega arith;
        value_low = omega arith;
        value_high = omega arith;
        no_star = λ more h. first h (cases_lt i j);
        back = λ s. x.back (one_in way p v j next e t here inside fits s);
        forth = λ m low high s.
            let same : m + (e + 1 - k) ≡ m + (e - k) + 1 = omega arith in
            subst (λ (n : ℕ). Moved way p v i k next (e + 1) m n) (sym same)
            (moved_next (x.forth m low high s) (omega arith) one here fits);
        list = λ ts read. list_then (x.list ts read) (λ us. list_next j t next us one here);
        short_back = λ s. x.short_back (short_in t next here inside fits s);
        short_forth = λ s. (short_out t next one here inside (x.short_forth s)).1;
      } where
        first : HasByte p i star → (i < j) ⊎ (j ≤ i) → ⊥
        first h (inl more) = x.no_star more h
        first h (inr same) =
            let low : i ≤ j = x.low in
            let is : i ≡ j = omega arith in
            one_no_star way p j t next one here (subst (λ (n : ℕ). HasByte p n star) is h)
