-- The literal end of a pattern: each value that is split ends in it.
use Rattle.std.proofs.Common.{◌≡◌, inl, inr, ⊎_elim, ℕ, zero, suc, ◌+◌, ◌-◌, ◌<◌, ◌≤◌, true, false, List, [], ◌∷◌, ◌++◌, length, get_or, drop, refl, sym, ◌∙◌, ap, subst, arith, length-append, length-drop}
use Rattle.std.specs.List.{list_any}
use Rattle.std.proofs.Math.Seq.{drop-append_seam}
use Rattle.std.proofs.lemmas.Bool.{cases_lt, cases_eq, or_parts, false≢true, false_from_ne_true}
use Rattle.std.proofs.lemmas.List.{get_or-drop}
use Rattle.std.proofs.lemmas.List.Folds.{list_any_at}
use Rattle.std.specs.Str.{byte}
use Rattle.glob_matcher.specs.declared.wildmatch.way.Way.{Way}
use Rattle.glob_matcher.specs.Bytes.{HasByte, fold, slash, star}
use Rattle.glob_patterns.specs.Laws.LiteralBytes.{EndsAlike, is_joining}
use Rattle.glob_matcher.specs.Tokens.{Token, Byte, Any, OneOf, Free, Local, Dirs, Nothing, TokenAt, From}
use Rattle.glob_matcher.specs.Matching.{SplitsBy, SplitsFrom}
use Rattle.glob_matcher.proofs.lemmas.cutting.CutLemmas.{token_out, one_out, end_out, nothing_out}
use Rattle.glob_matcher.proofs.lemmas.reading.Existence.{items_close, TokenAt-past}
use Rattle.glob_patterns.proofs.lemmas.LiteralLemmas.{IsLiteral, IsCopied, literal_out, AreAlike-from}

-- no byte from place n on may belong to a token of more than one byte
record IsTail (p : List ℕ) (n : ℕ) : Type 0 where
  inside : n ≤ length p
  at : (y : ℕ) → n ≤ y → y < length p → is_joining (get_or p y 0) ≡ false

-- from some place of the value on, it has the bytes of the pattern's tail, and no more
record EndsInTail (way : Way) (v p : List ℕ) (n : ℕ) : Type 0 where
  place : ℕ
  fits : place + (length p - n) ≡ length v
  copied : IsCopied way v p place n (length p)

not_in_tail : (p : List ℕ) (n y b : ℕ) → IsTail p n → n ≤ y → HasByte p y b → is_joining b ≡ true → ⊥
not_in_tail p n y b tail low h joins = false≢true (sym (tail.at y low h.inside) ∙ (ap is_joining h.is ∙ joins))

-- a later tail is literal
tail_is_literal : (p : List ℕ) (n m : ℕ) → IsTail p n → n ≤ m → IsLiteral p m (length p)
tail_is_literal p n m tail low = record { at = λ y from below. (or_parts _ _ (tail.at y (omega arith) below)).0 }

-- from the tail's start, or from a later place of it, on the value has its bytes and ends
from_tail : (way : Way) (p v : List ℕ) (n m k : ℕ) → IsTail p n → n ≤ m → m ≤ length p → k ≤ length v → SplitsFrom v k p m way
    → (k + (length p - m) ≡ length v) × IsCopied way v p k m (length p)
from_tail way p v n m k tail low high inside all =
    let out = literal_out way p v (length p - m) k (k + (length p - m)) m (length p) refl (omega arith) (omega arith) inside (tail_is_literal p n m tail low) all in
    let past : length v ≤ k + (length p - m) = end_out way p v (length p) (k + (length p - m)) refl out.2 in
    let reach = out.0 in
    (omega arith, out.1)

-- an escape before the tail takes its first byte
from_escape : (way : Way) (p v : List ℕ) (n i k b : ℕ) → IsTail p n → i + 1 ≡ n → n < length p → HasByte p (i + 1) b → TokenAt way p i (Byte b) (i + 2)
    → SplitsFrom v k p i way → EndsInTail way v p n
from_escape way p v n i k b tail place inside h here all =
    let one = one_out way p v i (i + 2) k (Byte b) tt here all in
    let rest = from_tail way p v n (i + 2) (k + 1) tail (omega arith) (omega arith) (let below = one.0 in omega arith) one.2 in
    let sum = rest.0 in record {
      place = k;
      fits = omega arith;
      copied = record {
        at = λ x y low high same. ⊎_elim
            (λ (first : y ≡ n).
            let x_is : x ≡ k = omega arith in
            let y_is : y ≡ i + 1 = omega arith in
            ap (λ (m : ℕ). fold way (get_or v m 0)) x_is ∙ (one.1 ∙ ap (fold way) (sym (ap (λ (m : ℕ). get_or p m 0) y_is ∙ h.is))))
            (λ (later : y ≡ n → ⊥). rest.1.at x y (omega arith) high (omega arith))
            (cases_eq y n);
      };
    }

-- a token that begins before the tail and ends within it
straddles : (way : Way) (p v : List ℕ) (n i j k : ℕ) (t : Token) → IsTail p n → i < n → n < j → k ≤ length v → TokenAt way p i t j
    → SplitsFrom v k p i way → EndsInTail way v p n
straddles way p v n i j k (Byte b) tail low past inside (inl e) all =
    from_escape way p v n i k b tail (omega (arith, e.1)) (let in_text = e.0.byte.inside in omega (arith, e.1)) e.0.byte (inl (e.0, refl, e.2)) all
straddles way p v n i j k (Byte b) tail low past inside (inr e) all = absurd (omega (arith, e.2))
straddles way p v n i j k Any tail low past inside e all = absurd (omega (arith, e.1))
straddles way p v n i j k (OneOf s) tail low past inside e all =
    absurd (not_in_tail p n e.close (byte "]") tail (omega (arith, e.after)) (items_close p _ _ _ _ _ e.items) refl)
straddles way p v n i j k Free tail low past inside e all = absurd (not_in_tail p n (j - 1) star tail (omega arith) (e.0.stars (j - 1) (omega arith) (omega arith)) refl)
straddles way p v n i j k Local tail low past inside e all = absurd (not_in_tail p n (j - 1) star tail (omega arith) (e.0.stars (j - 1) (omega arith) (omega arith)) refl)
straddles way p v n i j k Dirs tail low past inside e all = absurd (not_in_tail p n e.run_end slash tail (omega (arith, e.after)) e.slash refl)
straddles way p v n i j k Nothing tail low past inside e all = absurd (nothing_out way p v i j k e inside all)

at_tail : (way : Way) (p v : List ℕ) (n k : ℕ) → IsTail p n → k ≤ length v → SplitsFrom v k p n way → EndsInTail way v p n
at_tail way p v n k tail inside all =
    let out = from_tail way p v n n k tail (omega arith) tail.inside inside all in
    record { place = k; fits = out.0; copied = out.1 }

Later : (way : Way) (p v : List ℕ) (n i : ℕ) → Type 0
Later way p v n i = (j k : ℕ) → i < j → j ≤ n → k ≤ length v → SplitsFrom v k p j way → EndsInTail way v p n

from_before_tail : (way : Way) (p v : List ℕ) (n i k : ℕ) (ts : List Token) → From way p i ts → IsTail p n → i < n → k ≤ length v
    → Later way p v n i → SplitsFrom v k p i way → EndsInTail way v p n
unfolding Later
from_before_tail way p v n i k [] read tail low inside later all = let high = tail.inside in absurd (omega (arith, read))
from_before_tail way p v n i k (t ∷ ts) read tail low inside later all =
    let out = token_out way p v i read.0 k t read.1 inside all in
    let past : i < read.0 = TokenAt-past way p i t read.0 read.1 in
    elim (cases_lt n read.0) [
      | inr within ↦ later read.0 out.0 past within out.2.high out.4
      | inl beyond ↦ straddles way p v n i read.0 k t tail low beyond inside read.1 all
    ]

to_tail : (d : ℕ) (way : Way) (p v : List ℕ) (n i k : ℕ) → n ≤ i + d → i ≤ n → IsTail p n → k ≤ length v
    → SplitsFrom v k p i way → EndsInTail way v p n
unfolding Later
to_tail zero way p v n i k enough low tail inside all =
    let here : i ≡ n = omega arith in
    at_tail way p v n k tail inside (subst (λ (m : ℕ). SplitsFrom v k p m way) here all)
to_tail (suc d) way p v n i k enough low tail inside all = ⊎_elim
    (λ (here : i ≡ n). at_tail way p v n k tail inside (subst (λ (m : ℕ). SplitsFrom v k p m way) here all))
    (λ (before : i ≡ n → ⊥). from_before_tail way p v n i k all.tokens all.read tail (omega arith) inside
    (λ j e past within in_value rest. to_tail d way p v n j e (omega arith) within tail in_value rest) all)
    (cases_eq i n)

-- the byte of a text at a place of its end
pub end_at : (front end : List ℕ) (m : ℕ) → get_or (front ++ end) (length front + m) 0 ≡ get_or end m 0
end_at front end m = sym (get_or-drop (length front) (front ++ end) m 0) ∙ ap (λ (xs : List ℕ). get_or xs m 0) (drop-append_seam front end)

is_tail : (front end : List ℕ) → list_any is_joining end ≡ false → IsTail (front ++ end) (length front)
is_tail front end none =
    let long = length-append front end in record {
      inside = omega arith;
      at = λ y low below.
          let place : length front + (y - length front) ≡ y = omega arith in
          let same : get_or (front ++ end) y 0 ≡ get_or end (y - length front) 0 =
          ap (λ (m : ℕ). get_or (front ++ end) m 0) (sym place) ∙ end_at front end (y - length front) in
          false_from_ne_true (is_joining (get_or (front ++ end) y 0))
          (λ some. false≢true (sym none ∙ list_any_at is_joining end (y - length front) 0 (omega arith) (ap is_joining (sym same) ∙ some)));
    }

-- A value that is split ends in the text's literal end, up to case where the mode folds.
pub literal_ends : (front end v : List ℕ) (way : Way) → list_any is_joining end ≡ false → SplitsBy v (front ++ end) way → EndsAlike way v end
literal_ends front end v way none s =
    let p : List ℕ = front ++ end in
    let out = to_tail (length front) way p v (length front) 0 0 (omega arith) (omega arith) (is_tail front end none) (omega arith) s in
    let long : length p ≡ length front + length end = length-append front end in
    let sum : out.place + (length p - length front) ≡ length v = out.fits in
    let start : length v - length end ≡ out.place = omega arith in record {
      fits = omega arith;
      alike = AreAlike-from way end (drop (length v - length end) v) (length-drop-is end v (omega arith))
          (λ m below.
          let copied : fold way (get_or v (out.place + m) 0) ≡ fold way (get_or p (length front + m) 0) =
          out.copied.at (out.place + m) (length front + m) (omega arith) (omega arith) (omega arith) in
          ap (fold way) (sym (end_at front end m)) ∙ (sym copied
          ∙ ap (fold way) (ap (λ (k : ℕ). get_or v (k + m) 0) (sym start) ∙ sym (get_or-drop (length v - length end) v m 0))));
    } where
      length-drop-is : (xs ys : List ℕ) → length xs ≤ length ys → length xs ≡ length (drop (length ys - length xs) ys)
      length-drop-is xs ys fits = let long = length-drop (length ys - length xs) ys in omega arith
