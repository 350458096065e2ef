-- What stands between bytes of a kind.
use Rattle.std.proofs.Common.{◌≡◌, ◌≢◌, ℕ, ◌+◌, false, List, [], ◌∷◌, ◌++◌, take, drop, ap, ◌∙◌, refl, arith, eq-eqb}
use Rattle.std.specs.Prelude.{◌==◌, Some, None}
use Rattle.std.proofs.lemmas.Grind.{common_steps}
use Rattle.std.specs.List.{slice_split}
use Rattle.memchr.specs.Find.{IsFirstByte, is_byte}
use Rattle.byte_streams.specs.Records.{HasNo}
use Rattle.byte_streams.proofs.lemmas.CutLemmas.{HasNo-not_found, IsCutAt-found}

-- what stands between such bytes
abbrev pub pieces : ℕ → List ℕ → List (List ℕ)
pieces end bytes = slice_split (λ b. b == end) bytes

other_byte : (end b : ℕ) → b ≢ end → (b == end) ≡ false
other_byte end b other = grind (arith, common_steps)

-- what stands before such a byte is the first piece
cut : (end : ℕ) (front rest : List ℕ) → HasNo end front → pieces end (front ++ end ∷ rest) ≡ front ∷ pieces end rest
cut end [] rest none = let same = eq-eqb end end refl in rw same refl
cut end (b ∷ front) rest none =
    let no = other_byte end b none.0 in
    let later = cut end front rest none.1 in
    rw no (rw later refl)

-- bytes without one are one piece
uncut : (end : ℕ) (bytes : List ℕ) → HasNo end bytes → pieces end bytes ≡ bytes ∷ []
uncut end [] none = refl
uncut end (b ∷ bytes) none =
    let no = other_byte end b none.0 in
    let later = uncut end bytes none.1 in
    rw no (rw later refl)

-- by the first place of such a byte, or where there is none
pub first_piece_at : (end : ℕ) (bytes : List ℕ) (at : ℕ) → IsFirstByte (is_byte end) bytes (Some at) → pieces end bytes ≡ take at bytes ∷ pieces end (drop (at + 1) bytes)
first_piece_at end bytes at found =
    let parts = IsCutAt-found end bytes at found in
    ap (pieces end) parts.joined ∙ cut end (take at bytes) (drop (at + 1) bytes) parts.none

pub first_piece_whole : (end : ℕ) (bytes : List ℕ) → IsFirstByte (is_byte end) bytes None → pieces end bytes ≡ bytes ∷ []
first_piece_whole end bytes none = uncut end bytes (HasNo-not_found end bytes none)
