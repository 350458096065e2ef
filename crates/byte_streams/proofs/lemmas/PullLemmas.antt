-- What the reads for one record gave.
use Rattle.std.proofs.Common.{◌≡◌, ◌≢◌, ℕ, ◌+◌, ◌≤◌, Bool, true, false, length, length-append, arith, List, ◌∷◌, ◌++◌, take, Option, inl, sym, ap, subst, ◌∙◌, append_assoc}
use Rattle.std.proofs.KnownBytes.{Consumes-trans}
use Rattle.std.proofs.Math.Nat.{sub-zero}
use Rattle.std.specs.Io.KnownBytes.{Consumes}
use Rattle.std.specs.List.{slice_range}
use Rattle.byte_streams.specs.Records.{HasNo, IsCutAt}
use Rattle.byte_streams.specs.Private.Pulling.{Gives, TakesRest}
use Rattle.byte_streams.proofs.lemmas.RecordLemmas.{AllByRecursion-append}

-- ---- a part of a piece

pub front_of : (piece : List ℕ) (count : ℕ) → slice_range piece 0 count ≡ take count piece
front_of piece count = ap (λ n. take n piece) (sub-zero count)

-- ---- the reads for one record

-- each read gave a byte of the record, which doesn't end yet
pub record IsReading (begun grown : List ℕ) (q r : Option (List ℕ)) (reads left : ℕ) : Type 0 where
  pub more : List ℕ
  pub consumed : Consumes q r more
  pub joined : grown ≡ begun ++ more
  pub long : reads ≤ left + length more

module _ (end : ℕ) (begun grown : List ℕ) (q r : Option (List ℕ)) (reads left : ℕ) (reading : IsReading begun grown q r reads left) where
  module _ (s : Option (List ℕ)) (bytes : List ℕ) (read : Consumes r s bytes) where
    IsReading-read : Consumes q s (reading.more ++ bytes)
    IsReading-read = Consumes-trans q r s reading.more bytes reading.consumed read

    pub IsReading-further : (more : List ℕ) × Consumes q s more
    IsReading-further = (reading.more ++ bytes, IsReading-read)

    joined_on : begun ++ (reading.more ++ bytes) ≡ grown ++ bytes
    joined_on = sym (append_assoc begun reading.more bytes) ∙ ap (λ l. l ++ bytes) (sym reading.joined)

    module _ (fewer : ℕ) (one_less : left ≤ fewer + 1) (count : ℕ) (is : count ≡ length bytes) (some : count ≢ 0) where
      longer : reads ≤ fewer + length (reading.more ++ bytes)
      longer = let grew = length-append reading.more bytes in let low = reading.long in omega arith

      -- the record ends in the bytes
      pub IsReading-ended : HasNo end grown → (own : ℕ) → own ≡ end → (now : Bool) → now ≡ false → (held given rest : List ℕ) → held ≡ bytes → TakesRest true own held grown given rest → Gives end begun given rest now q s reads fewer
      IsReading-ended none own owned now not held given rest all (front, whole, same) = let cut = subst (λ e. IsCutAt e bytes front rest) owned (subst (λ l. IsCutAt own l front rest) all whole) in record {
        more = reading.more ++ bytes;
        consumed = IsReading-read;
        unended = subst (HasNo end) (sym same) (AllByRecursion-append _ grown front none cut.none);
        stands = inl (
          not,
          record {
            joined = joined_on ∙ ap (λ l. grown ++ l) cut.joined ∙ sym (append_assoc grown front (end ∷ rest)) ∙ ap (λ l. l ++ end ∷ rest) (sym same);
          },
          longer,
        );
      }
