-- What the rest of a pattern splits, it splits as a pattern of its own, unless a run at its start is bounded in one of both alone.
use Rattle.std.proofs.Common.{◌≡◌, ◌↔◌, ◌⊎◌, inl, inr, ℕ, ◌+◌, ◌-◌, ◌<◌, ◌≤◌, List, [], ◌∷◌, ◌++◌, length, get_or, sym, ap, ◌∙◌, length-append, arith}
use Rattle.std.proofs.Math.Seq.{get_or-append_seam}
use Rattle.std.proofs.lemmas.Bool.{cases_lt}
use Rattle.std.proofs.lemmas.List.{get_or-append-add, get_or_append_left}
use Rattle.glob_matcher.specs.declared.wildmatch.way.Way.{Way}
use Rattle.glob_matcher.specs.Bytes.{EndsInSlash, HasByte, IsEscaped, backslash, slash, star}
use Rattle.glob_matcher.specs.Matching.{SplitsFrom}
use Rattle.glob_matcher.specs.Rests.{StandsAlone}
use Rattle.glob_matcher.specs.Tokens.{Token, From, IsBounded}
use Rattle.glob_matcher.proofs.lemmas.reading.ForwardReading.{Alike, BoundAlike, Faces, alike_flip, from_alike}

module _ (front rest : List ℕ) where
  long : length (front ++ rest) ≡ length front + length rest
  long = length-append front rest

  -- a byte of the rest, in the whole
  same_byte : (x y : ℕ) → x ≡ length front + y → get_or (front ++ rest) x 0 ≡ get_or rest y 0
  same_byte x y at = ap (λ (m : ℕ). get_or (front ++ rest) m 0) at ∙ get_or-append-add front rest y 0

  rest_alike : Alike (front ++ rest) (length front) rest 0 (length rest + 1)
  rest_alike = record {
    there = λ x y c f h.
        let same : x + 0 ≡ y + length front = f.same in
        let inside : x < length (front ++ rest) = h.inside in
        record { inside = omega (arith, long); is = sym (same_byte x y (omega arith)) ∙ h.is };
    back = λ x y c f h.
        let same : x + 0 ≡ y + length front = f.same in
        let inside : y < length rest = h.inside in
        record { inside = omega (arith, long); is = same_byte x y (omega arith) ∙ h.is };
  }

  -- places of both that face each other
  faces : (x y : ℕ) → x ≡ length front + y → y ≤ length rest → Faces (length front) 0 (length rest + 1) x y
  faces x y at low = record { low = omega arith; below = omega arith; same = omega arith }

  byte_there : (x y c : ℕ) → x ≡ length front + y → HasByte (front ++ rest) x c → HasByte rest y c
  byte_there x y c at h = let inside : x < length (front ++ rest) = h.inside in rest_alike.there x y c (faces x y at (omega (arith, long))) h

  byte_back : (x y c : ℕ) → x ≡ length front + y → HasByte rest y c → HasByte (front ++ rest) x c
  byte_back x y c at h = let inside : y < length rest = h.inside in rest_alike.back x y c (faces x y at (omega arith)) h

  -- ---- what bounds a run

  before_there : (x y : ℕ) → x ≡ length front + y → (x ≡ 0) ⊎ HasByte (front ++ rest) (x - 1) slash → (y < 1) ⊎ (1 ≤ y) → (y ≡ 0) ⊎ HasByte rest (y - 1) slash
  before_there x y at before (inl none) = inl (omega arith)
  before_there x y at (inl start) (inr some) = absurd (omega arith)
  before_there x y at (inr h) (inr some) = inr (byte_there (x - 1) (y - 1) slash (omega arith) h)

  front_ends : (x : ℕ) → x ≡ length front → (front ≡ []) ⊎ EndsInSlash front → (x ≡ 0) ⊎ HasByte (front ++ rest) (x - 1) slash
  front_ends x at (inl none) = inl (omega (arith, ap (λ (l : List ℕ). length l) none))
  front_ends x at (inr ends) =
      let cut : length front ≡ length ends.front + 1 = ap (λ (l : List ℕ). length l) ends.joined ∙ length-append ends.front (slash ∷ []) in
      let place : x - 1 ≡ length ends.front = omega arith in
      inr (record {
        inside = omega (arith, long);
        is = get_or_append_left front rest 0 (x - 1) (omega arith)
            ∙ ap (λ (l : List ℕ). get_or l (x - 1) 0) ends.joined
            ∙ ap (λ (m : ℕ). get_or (ends.front ++ slash ∷ []) m 0) place
            ∙ get_or-append_seam ends.front slash [] 0;
      })

  after_there : (j m : ℕ) → j ≡ length front + m → (j ≡ length (front ++ rest)) ⊎ (HasByte (front ++ rest) j slash ⊎ IsEscaped (front ++ rest) j slash)
      → (m ≡ length rest) ⊎ (HasByte rest m slash ⊎ IsEscaped rest m slash)
  after_there j m at (inl end) = inl (omega (arith, long))
  after_there j m at (inr (inl h)) = inr (inl (byte_there j m slash at h))
  after_there j m at (inr (inr e)) = inr (inr (record { escape = byte_there j m backslash at e.escape; byte = byte_there (j + 1) (m + 1) slash (omega arith) e.byte }))

  after_back : (j m : ℕ) → j ≡ length front + m → (m ≡ length rest) ⊎ (HasByte rest m slash ⊎ IsEscaped rest m slash)
      → (j ≡ length (front ++ rest)) ⊎ (HasByte (front ++ rest) j slash ⊎ IsEscaped (front ++ rest) j slash)
  after_back j m at (inl end) = inl (omega (arith, long))
  after_back j m at (inr (inl h)) = inr (inl (byte_back j m slash at h))
  after_back j m at (inr (inr e)) = inr (inr (record { escape = byte_back j m backslash at e.escape; byte = byte_back (j + 1) (m + 1) slash (omega arith) e.byte }))

  bounded_there : (x y j m : ℕ) → x ≡ length front + y → j ≡ length front + m → IsBounded (front ++ rest) x j → IsBounded rest y m
  bounded_there x y j m at end b =
      let many : x + 2 ≤ j = b.many in
      record { many = omega arith; before = before_there x y at b.before (cases_lt y 1); after = after_there j m end b.after }

  module _ (alone : StandsAlone front rest) where
    before_back : (x y : ℕ) → x ≡ length front + y → (y ≡ 0 → HasByte rest 0 star × HasByte rest 1 star) → (y ≡ 0) ⊎ HasByte rest (y - 1) slash
        → (y < 1) ⊎ (1 ≤ y) → (x ≡ 0) ⊎ HasByte (front ++ rest) (x - 1) slash
    before_back x y at stars before (inl none) =
        let start : y ≡ 0 = omega arith in
        let both = stars start in
        front_ends x (omega arith) (alone both.0 both.1)
    before_back x y at stars (inl start) (inr some) = absurd (omega arith)
    before_back x y at stars (inr h) (inr some) = inr (byte_back (x - 1) (y - 1) slash (omega arith) h)

    bounded_back : (x y j m : ℕ) → x ≡ length front + y → j ≡ length front + m → (y + 2 ≤ m → y ≡ 0 → HasByte rest 0 star × HasByte rest 1 star)
        → IsBounded rest y m → IsBounded (front ++ rest) x j
    bounded_back x y j m at end stars b =
        let many : y + 2 ≤ m = b.many in
        record { many = omega arith; before = before_back x y at (stars many) b.before (cases_lt y 1); after = after_back j m end b.after }

    bounds_there : (way : Way) (x y : ℕ) → Faces (length front) 0 (length rest + 1) x y → BoundAlike way (front ++ rest) rest x y
    bounds_there way x y f path j m sum run =
        let same : x + 0 ≡ y + length front = f.same in (
          bounded_there x y j m (omega arith) (omega arith),
          bounded_back x y j m (omega arith) (omega arith) (λ many start. (
            byte_there x 0 star (omega arith) (run.stars x (omega arith) (omega arith)),
            byte_there (x + 1) 1 star (omega arith) (run.stars (x + 1) (omega arith) (omega arith)),
          )),
        )

    bounds_back : (way : Way) (y x : ℕ) → Faces 0 (length front) (length rest + 1) y x → BoundAlike way rest (front ++ rest) y x
    bounds_back way y x f path m j sum run =
        let same : y + length front ≡ x + 0 = f.same in (
          bounded_back x y j m (omega arith) (omega arith) (λ many start. (run.stars 0 (omega arith) (omega arith), run.stars 1 (omega arith) (omega arith))),
          bounded_there x y j m (omega arith) (omega arith),
        )

    -- ---- the tokens and what they cut

    read_there : (way : Way) (ts : List Token) → From way (front ++ rest) (length front) ts → From way rest 0 ts
    read_there way ts read =
        from_alike (front ++ rest) (length front) rest 0 (length rest + 1) rest_alike (omega (arith, long)) (omega (arith, long))
        way (bounds_there way) (length front) 0 ts (faces (length front) 0 (omega arith) (omega arith)) read

    read_back : (way : Way) (ts : List Token) → From way rest 0 ts → From way (front ++ rest) (length front) ts
    read_back way ts read =
        from_alike rest 0 (front ++ rest) (length front) (length rest + 1) (alike_flip (front ++ rest) (length front) rest 0 (length rest + 1) rest_alike)
        (omega (arith, long)) (omega (arith, long)) way (bounds_back way) 0 (length front) ts (record { low = omega arith; below = omega arith; same = omega arith }) read

    pub rest_splits : (way : Way) (value : List ℕ) (k : ℕ) → SplitsFrom value k (front ++ rest) (length front) way ↔ SplitsFrom value k rest 0 way
    rest_splits way value k = (
      λ s. record { tokens = s.tokens; read = read_there way s.tokens s.read; cut = s.cut },
      λ s. record { tokens = s.tokens; read = read_back way s.tokens s.read; cut = s.cut },
    )
