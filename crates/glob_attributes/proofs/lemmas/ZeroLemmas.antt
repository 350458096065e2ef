-- What stands before the first byte 0.
use Rattle.std.proofs.Common.{◌≡◌, ℕ, suc, ◌+◌, List, [], ◌∷◌, ◌++◌, take, drop, ap, ◌∙◌, refl, arith}
use Rattle.std.specs.Prelude.{Some, None}
use Rattle.std.specs.List.{before_first}
use Rattle.std.proofs.lemmas.Bool.{ne_eqb}
use Rattle.memchr.specs.Find.{IsFirstByte, is_byte}
use Rattle.byte_streams.specs.Records.{HasNo}
use Rattle.byte_streams.proofs.lemmas.CutLemmas.{HasNo-not_found, IsCutAt-found}
use Rattle.glob_attributes.proofs.lemmas.PlaceLemmas.{place-later}
use Rattle.glob_attributes.specs.Private.Readings.{is_zero}

take-more : (n b : ℕ) (text : List ℕ) → take (1 + n) (b ∷ text) ≡ b ∷ take n text
take-more n b text = let is : 1 + n ≡ suc n = omega arith in ap (λ k. take k (b ∷ text)) is

before_cut : (front rest : List ℕ) → HasNo 0 front → before_first is_zero (front ++ 0 ∷ rest) ≡ front
before_cut [] rest none = refl
before_cut (b ∷ front) rest none =
    ap (λ n. take n (b ∷ (front ++ 0 ∷ rest))) (place-later is_zero b (front ++ 0 ∷ rest) (ne_eqb b 0 none.0))
    ∙ take-more _ b (front ++ 0 ∷ rest)
    ∙ ap (λ text. b ∷ text) (before_cut front rest none.1)

pub before_none : (text : List ℕ) → HasNo 0 text → before_first is_zero text ≡ text
before_none [] none = refl
before_none (b ∷ text) none =
    ap (λ n. take n (b ∷ text)) (place-later is_zero b text (ne_eqb b 0 none.0))
    ∙ take-more _ b text
    ∙ ap (λ rest. b ∷ rest) (before_none text none.1)

pub before_found : (text : List ℕ) (place : ℕ) → IsFirstByte (is_byte 0) text (Some place) → before_first is_zero text ≡ take place text
before_found text place found =
    let cut = IsCutAt-found 0 text place found in
    ap (before_first is_zero) cut.joined ∙ before_cut (take place text) (drop (place + 1) text) cut.none

pub before_not_found : (text : List ℕ) → IsFirstByte (is_byte 0) text None → before_first is_zero text ≡ text
before_not_found text none = before_none text (HasNo-not_found 0 text none)
