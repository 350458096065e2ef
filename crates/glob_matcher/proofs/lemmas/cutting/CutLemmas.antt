-- Cuttings by the places of the value: what the first token of a cutting takes, and what is left.
use Rattle.std.proofs.Common.{◌≡◌, ◌⊎◌, inl, inr, ℕ, suc, ◌+◌, ◌-◌, ◌<◌, ◌≤◌, List, [], ◌∷◌, ◌++◌, length, get_or, take, drop, refl, sym, ◌∙◌, ap, subst, arith, add-one, length-append, length-drop, drop-cons}
use Rattle.std.proofs.Math.Seq.{drop-append_seam, get_or-append_seam, take-suc}
use Rattle.std.proofs.Math.ListN.{drop_of_length-le, get_or-append}
use Rattle.std.proofs.lemmas.List.{take-append-drop, drop-drop, get_or-drop, length-take}
use Rattle.glob_matcher.specs.declared.wildmatch.way.Way.{Way}
use Rattle.glob_matcher.specs.Bytes.{EndsInSlash, NoSlash, slash}
use Rattle.glob_matcher.specs.Tokens.{Token, Byte, Any, OneOf, Free, Local, Dirs, Nothing, TokenAt, From}
use Rattle.glob_matcher.specs.Matching.{OneByte, Lang, IsCut, SplitsFrom, Fits}
use Rattle.glob_matcher.specs.Private.Fitting.{AfterSlash}
use Rattle.glob_matcher.proofs.lemmas.reading.TokenLemmas.{TokenAt-unique, TokenAt-inside}

module _ (v : List ℕ) where
  -- The value from place k on is a piece, up to place e, and what follows.
  pub record IsPiece (k e : ℕ) (piece : List ℕ) : Type 0 where
    pub low : k ≤ e
    pub high : e ≤ length v
    pub joined : drop k v ≡ piece ++ drop e v
    pub long : length piece ≡ e - k

  -- what is cut off in front is a piece
  piece_of : (k : ℕ) (piece rest : List ℕ) → k ≤ length v → drop k v ≡ piece ++ rest
      → IsPiece k (k + length piece) piece × (rest ≡ drop (k + length piece) v)
  piece_of k piece rest inside cut =
      let long : length v - k ≡ length piece + length rest =
      sym (length-drop k v) ∙ (ap (λ (xs : List ℕ). length xs) cut ∙ length-append piece rest) in
      let after : rest ≡ drop (k + length piece) v =
      sym (drop-append_seam piece rest) ∙ (ap (drop (length piece)) (sym cut) ∙ drop-drop (length piece) k v) in
      (record { low = omega arith; high = omega arith; joined = cut ∙ ap (λ (xs : List ℕ). piece ++ xs) after; long = omega arith }, after)

  -- each stretch of the value is a piece
  stretch_is_piece : (k e : ℕ) → k ≤ e → e ≤ length v → IsPiece k e (take (e - k) (drop k v))
  stretch_is_piece k e low high =
      let sum : k + (e - k) ≡ e = omega arith in
      let joined : drop k v ≡ take (e - k) (drop k v) ++ drop e v =
      sym (take-append-drop (e - k) (drop k v))
      ∙ ap (λ (xs : List ℕ). take (e - k) (drop k v) ++ xs) (drop-drop (e - k) k v ∙ ap (λ (n : ℕ). drop n v) sum) in
      record { low = low; high = high; joined = joined; long = simp (length-take, length-drop) (omega arith) }

  -- the byte of a piece at a place is that of the value
  piece_at : (k e : ℕ) (piece : List ℕ) → IsPiece k e piece → (m : ℕ) → m < length piece → get_or piece m 0 ≡ get_or v (k + m) 0
  piece_at k e piece x m below =
      sym (get_or-append piece (drop e v) 0 m below)
      ∙ (ap (λ (xs : List ℕ). get_or xs m 0) (sym x.joined) ∙ get_or-drop k v m 0)

-- one byte from place k
module _ (P : ℕ → Type 0) (v : List ℕ) (k : ℕ) where
  pub one_byte_out : (piece rest : List ℕ) → drop k v ≡ piece ++ rest → OneByte P piece
      → (k < length v) × P (get_or v k 0) × (rest ≡ drop (k + 1) v)
  one_byte_out piece rest cut one =
      let byte : drop k v ≡ one.0 ∷ rest = cut ∙ ap (λ (xs : List ℕ). xs ++ rest) one.1 in
      let long : length v - k ≡ suc (length rest) = sym (length-drop k v) ∙ ap (λ (xs : List ℕ). length xs) byte in
      let inside : k < length v = omega arith in
      let both : get_or v k 0 ∷ drop (suc k) v ≡ one.0 ∷ rest = sym (drop-cons v k 0 inside) ∙ byte in
      let head : one.0 ≡ get_or v k 0 = cc in
      let tail : rest ≡ drop (suc k) v = cc in
      (inside, subst P head one.2, rw add-one tail)

  pub one_byte_in : k < length v → P (get_or v k 0)
      → OneByte P (get_or v k 0 ∷ []) × (drop k v ≡ (get_or v k 0 ∷ []) ++ drop (k + 1) v)
  one_byte_in inside holds =
      ((get_or v k 0, refl, holds), rw add-one (drop-cons v k 0 inside))

-- the token takes one byte
abbrev pub IsOne : Token → Type 0
IsOne (Byte b) = Unit {0}
IsOne Any = Unit {0}
IsOne (OneOf set) = Unit {0}
IsOne _ = ⊥

module _ (way : Way) where
  pub fits_one : (t : Token) (c : ℕ) → Fits way t c → IsOne t
  fits_one (Byte b) c fits = tt
  fits_one Any c fits = tt
  fits_one (OneOf set) c fits = tt
  fits_one Free c fits = absurd fits
  fits_one Local c fits = absurd fits
  fits_one Dirs c fits = absurd fits
  fits_one Nothing c fits = absurd fits

  pub lang_is_one : (t : Token) (piece : List ℕ) → IsOne t → Lang way t piece → OneByte (Fits way t) piece
  lang_is_one (Byte b) piece one w = w
  lang_is_one Any piece one w = w
  lang_is_one (OneOf set) piece one w = w
  lang_is_one Free piece one w = absurd one
  lang_is_one Local piece one w = absurd one
  lang_is_one Dirs piece one w = absurd one
  lang_is_one Nothing piece one w = absurd one

  pub one_is_lang : (t : Token) (piece : List ℕ) → OneByte (Fits way t) piece → Lang way t piece
  one_is_lang (Byte b) piece w = w
  one_is_lang Any piece w = w
  one_is_lang (OneOf set) piece w = w
  one_is_lang Free piece w = absurd w.2
  one_is_lang Local piece w = absurd w.2
  one_is_lang Dirs piece w = absurd w.2
  one_is_lang Nothing piece w = absurd w.2

module _ (v : List ℕ) (k e : ℕ) where
  -- a stretch that ends after a slash
  ends_in_slash : AfterSlash v k e → EndsInSlash (take (e - k) (drop k v))
  ends_in_slash after =
      let past : k < e = after.past in
      let high : e ≤ length v = after.inside in
      let one : e - k ≡ suc (e - 1 - k) = omega arith in
      let inside : e - 1 - k < length (drop k v) = simp length-drop (omega arith) in
      let place : k + (e - 1 - k) ≡ e - 1 = omega arith in
      let last : get_or (drop k v) (e - 1 - k) 0 ≡ slash =
      get_or-drop k v (e - 1 - k) 0 ∙ (ap (λ (n : ℕ). get_or v n 0) place ∙ after.slash) in record {
        front = take (e - 1 - k) (drop k v);
        joined =
            ap (λ (n : ℕ). take n (drop k v)) one
            ∙ (take-suc (drop k v) (e - 1 - k) 0 inside ∙ ap (λ (b : ℕ). take (e - 1 - k) (drop k v) ++ b ∷ []) last);
      }

  -- the place after a piece of that language
  slash_before : (piece : List ℕ) → IsPiece v k e piece → (piece ≡ []) ⊎ EndsInSlash piece
      → (e ≡ k) ⊎ AfterSlash v k e
  slash_before piece x (inl is) =
      let long : length piece ≡ e - k = x.long in
      let none : length piece ≡ 0 = ap (λ (xs : List ℕ). length xs) is in
      let low : k ≤ e = x.low in
      inl (omega arith)
  slash_before piece x (inr ends) =
      let long : length piece ≡ e - k = x.long in
      let sum : length piece ≡ length ends.front + 1 = ap (λ (xs : List ℕ). length xs) ends.joined ∙ length-append ends.front (slash ∷ []) in
      let low : k ≤ e = x.low in
      let place : k + length ends.front ≡ e - 1 = omega arith in
      let last : get_or piece (length ends.front) 0 ≡ slash =
      ap (λ (xs : List ℕ). get_or xs (length ends.front) 0) ends.joined ∙ get_or-append_seam ends.front slash [] 0 in
      let byte : get_or v (e - 1) 0 ≡ slash =
      ap (λ (n : ℕ). get_or v n 0) (sym place) ∙ (sym (piece_at v k e piece x (length ends.front) (omega arith)) ∙ last) in
      inr (record { past = omega arith; inside = x.high; slash = byte })

module _ (way : Way) (p v : List ℕ) where
  -- What the first token takes, and what the rest splits.
  pub token_in : (i j k e : ℕ) (t : Token) (piece : List ℕ) → TokenAt way p i t j
      → IsPiece v k e piece → Lang way t piece → SplitsFrom v e p j way → SplitsFrom v k p i way
  token_in i j k e t piece here x w later = record {
    tokens = t ∷ later.tokens;
    read = (j, here, later.read);
    cut = (piece, drop e v, x.joined, w, later.cut);
  }

  pub token_out : (i j k : ℕ) (t : Token) → TokenAt way p i t j → k ≤ length v
      → SplitsFrom v k p i way → (e : ℕ) × (piece : List ℕ) × IsPiece v k e piece × Lang way t piece × SplitsFrom v e p j way
  token_out i j k t here inside all = out all.tokens all.read all.cut where
    out : (ts : List Token) → From way p i ts → IsCut way ts (drop k v)
        → (e : ℕ) × (piece : List ℕ) × IsPiece v k e piece × Lang way t piece × SplitsFrom v e p j way
    out [] read cut = let here_inside = TokenAt-inside way p i t j here in absurd (omega arith)
    out (u ∷ us) read cut =
        let same = TokenAt-unique way p i u t read.0 j read.1 here in
        let parts = piece_of v k cut.0 cut.1 inside cut.2 in (
          k + length cut.0,
          cut.0,
          parts.0,
          subst (λ (x : Token). Lang way x cut.0) same.0 cut.3,
          record {
            tokens = us;
            read = subst (λ (n : ℕ). From way p n us) same.1 read.2;
            cut = subst (λ (xs : List ℕ). IsCut way us xs) parts.1 cut.4;
          },
        )

  -- The tokens from the pattern's end on split what is empty.
  pub end_in : (i k : ℕ) → i ≡ length p → length v ≤ k → SplitsFrom v k p i way
  end_in i k at_end past = record { tokens = []; read = at_end; cut = drop_of_length-le v past }

  pub end_out : (i k : ℕ) → i ≡ length p → SplitsFrom v k p i way → length v ≤ k
  end_out i k at_end all = out all.tokens all.read all.cut where
    out : (ts : List Token) → From way p i ts → IsCut way ts (drop k v) → length v ≤ k
    out [] read cut =
        let none : length v - k ≡ 0 = sym (length-drop k v) ∙ ap (λ (xs : List ℕ). length xs) cut in omega arith
    out (u ∷ us) read cut = let here_inside = TokenAt-inside way p i u read.0 read.1 in absurd (omega arith)

  -- One byte taken.
  pub one_in : (i j k : ℕ) (t : Token) → TokenAt way p i t j → k < length v
      → Fits way t (get_or v k 0) → SplitsFrom v (k + 1) p j way → SplitsFrom v k p i way
  one_in i j k t here inside fits later =
      let one = one_byte_in (Fits way t) v k inside fits in
      record {
        tokens = t ∷ later.tokens;
        read = (j, here, later.read);
        cut = (get_or v k 0 ∷ [], drop (k + 1) v, one.1, one_is_lang way t (get_or v k 0 ∷ []) one.0, later.cut);
      }

  pub one_out : (i j k : ℕ) (t : Token) → IsOne t → TokenAt way p i t j
      → SplitsFrom v k p i way → (k < length v) × Fits way t (get_or v k 0) × SplitsFrom v (k + 1) p j way
  one_out i j k t one here all = out all.tokens all.read all.cut where
    out : (ts : List Token) → From way p i ts → IsCut way ts (drop k v)
        → (k < length v) × Fits way t (get_or v k 0) × SplitsFrom v (k + 1) p j way
    out [] read cut = let here_inside = TokenAt-inside way p i t j here in absurd (omega arith)
    out (u ∷ us) read cut =
        let same = TokenAt-unique way p i u t read.0 j read.1 here in
        let piece : OneByte (Fits way t) cut.0 =
        lang_is_one way t cut.0 one (subst (λ (x : Token). Lang way x cut.0) same.0 cut.3) in
        let parts = one_byte_out (Fits way t) v k cut.0 cut.1 cut.2 piece in (
          parts.0,
          parts.1,
          record {
            tokens = us;
            read = subst (λ (n : ℕ). From way p n us) same.1 read.2;
            cut = subst (λ (xs : List ℕ). IsCut way us xs) parts.2 cut.4;
          },
        )

  -- A run that crosses slashes takes any stretch.
  pub free_in : (i j k e : ℕ) → TokenAt way p i Free j → k ≤ e → e ≤ length v
      → SplitsFrom v e p j way → SplitsFrom v k p i way
  free_in i j k e here low high later =
      token_in i j k e Free (take (e - k) (drop k v)) here (stretch_is_piece v k e low high) tt later

  pub free_out : (i j k : ℕ) → TokenAt way p i Free j → k ≤ length v
      → SplitsFrom v k p i way → (e : ℕ) × (k ≤ e) × (e ≤ length v) × SplitsFrom v e p j way
  free_out i j k here inside all =
      let out = token_out i j k Free here inside all in (out.0, out.2.low, out.2.high, out.4)

  -- A run within a component takes a stretch without slash.
  pub local_in : (i j k e : ℕ) → TokenAt way p i Local j → k ≤ e → e ≤ length v → NoSlash v k e
      → SplitsFrom v e p j way → SplitsFrom v k p i way
  local_in i j k e here low high none later =
      let x = stretch_is_piece v k e low high in
      let bare : NoSlash (take (e - k) (drop k v)) 0 (length (take (e - k) (drop k v))) = record {
        at = λ m low_in_piece below.
            let long = x.long in
            rw (piece_at v k e (take (e - k) (drop k v)) x m below) (none.at (k + m) (omega arith) (omega arith));
      } in
      token_in i j k e Local (take (e - k) (drop k v)) here x bare later

  pub local_out : (i j k : ℕ) → TokenAt way p i Local j → k ≤ length v
      → SplitsFrom v k p i way → (e : ℕ) × (k ≤ e) × (e ≤ length v) × NoSlash v k e × SplitsFrom v e p j way
  local_out i j k here inside all =
      let out = token_out i j k Local here inside all in
      let x : IsPiece v k out.0 out.1 = out.2 in
      let none : NoSlash v k out.0 = record {
        at = λ m low below.
            let long = x.long in
            let same = piece_at v k out.0 out.1 x (m - k) (omega arith) in
            let sum : k + (m - k) ≡ m = omega arith in
            rw sum at (rw same at (out.3.at (m - k) (omega arith) (omega arith)));
      } in
      (out.0, x.low, x.high, none, out.4)

  -- A double star with its slash takes nothing, or a stretch that ends in a slash.
  pub dirs_in_empty : (i j k : ℕ) → TokenAt way p i Dirs j → k ≤ length v
      → SplitsFrom v k p j way → SplitsFrom v k p i way
  dirs_in_empty i j k here inside later =
      token_in i j k k Dirs [] here (record { low = omega arith; high = inside; joined = refl; long = omega arith }) (inl refl) later

  pub dirs_in : (i j k e : ℕ) → TokenAt way p i Dirs j → AfterSlash v k e
      → SplitsFrom v e p j way → SplitsFrom v k p i way
  dirs_in i j k e here after later =
      let x = stretch_is_piece v k e (omega (arith, after.past)) after.inside in
      token_in i j k e Dirs (take (e - k) (drop k v)) here x (inr (ends_in_slash v k e after)) later

  pub dirs_out : (i j k : ℕ) → TokenAt way p i Dirs j → k ≤ length v
      → SplitsFrom v k p i way → (e : ℕ) × ((e ≡ k) ⊎ AfterSlash v k e) × SplitsFrom v e p j way
  dirs_out i j k here inside all =
      let out = token_out i j k Dirs here inside all in
      (out.0, slash_before v k out.0 out.1 out.2 out.3, out.4)

  -- What matches nothing splits nothing.
  pub nothing_out : (i j k : ℕ) → TokenAt way p i Nothing j → k ≤ length v
      → SplitsFrom v k p i way → ⊥
  nothing_out i j k here inside all = (token_out i j k Nothing here inside all).3
