-- A literal front of the pattern, which the value has too: the engine stands behind it, and each byte of it is paid for.
use Rattle.std.proofs.Common.{◌≡◌, ℕ, zero, suc, ◌+◌, ◌-◌, ◌*◌, ◌<◌, ◌≤◌, List, length, get_or, refl, subst, arith}
use Rattle.std.specs.Prelude.{min}
use Rattle.std.proofs.Math.Nat.{le-min, min-le_left, min-le_right}
use Rattle.glob_matcher.specs.declared.wildmatch.way.Way.{Way}
use Rattle.glob_matcher.specs.Steps.{Counts}
use Rattle.glob_matcher.specs.Private.Finding.{IsLiteralFront, PassesLiterally, places_compared}
use Rattle.glob_matcher.specs.Private.Takes.{TakesExactly}
use Rattle.glob_matcher.specs.Private.States.{StandsAt}
use Rattle.glob_matcher.specs.Private.Prices.{Measure, amount}
use Rattle.glob_matcher.specs.Private.Budget.{AllowsAt}
use Rattle.glob_matcher.specs.Private.Turns.{IsFront, at_front}
use Rattle.glob_matcher.proofs.lemmas.reading.Reading.{literal_token}
use Rattle.glob_matcher.proofs.lemmas.two_marks.States.{stands_start}
use Rattle.glob_matcher.proofs.lemmas.two_marks.TakenBytes.{inner_of, stands_on}
use Rattle.glob_matcher.proofs.lemmas.two_marks.Prices.{amount-same, amount-sum}
use Rattle.glob_matcher.proofs.lemmas.two_marks.Budget.{allows_less}
use Rattle.glob_matcher.proofs.lemmas.two_marks.TakenByteCosts.{allows_on}
use Rattle.glob_matcher.proofs.lemmas.two_marks.Scans.{byte_of}
use Rattle.glob_matcher.proofs.lemmas.two_marks.Turns.{front_passed}

-- the engine stands behind so many bytes of both texts, which are paid for
record IsBehind (way : Way) (p v : List ℕ) (k : ℕ) : Type 0 where
  stands : StandsAt way p v (at_front k)
  allows : (measure : Measure) (spent limit : ℕ) → AllowsAt measure way p v (at_front 0) spent limit
      → AllowsAt measure way p v (at_front k) (spent + amount measure k (8 * k)) limit

module _ {way : Way} {p v : List ℕ} where
  behind_next : (k : ℕ) → k < length p → k < length v → PassesLiterally way (get_or p k 0) (get_or v k 0) → IsBehind way p v k → IsBehind way p v (k + 1)
  behind_next k inside within here behind =
      let token = literal_token way p k inside here.0.0 in
      let inner = inner_of token.token behind.stands here.1 (λ is. here.0.1 (byte_of is)) in
      record {
        stands = stands_on behind.stands token refl within here.1 (λ is. here.0.1 (byte_of is));
        allows = λ measure s n a.
            let price : amount measure (k + 1) (8 * (k + 1)) ≤ amount measure k (8 * k) + amount measure 1 (8 * (k + 1 - k)) =
            amount-sum measure k (8 * k) 1 (8 * (k + 1 - k)) (omega arith) (omega arith) in
            allows_on {after = s + amount measure (k + 1) (8 * (k + 1))} token refl (omega arith) within here.1 inner (behind.allows measure s n a);
      }

  behind_all : (k : ℕ) → k ≤ length p → k ≤ length v → ((m : ℕ) → m < k → PassesLiterally way (get_or p m 0) (get_or v m 0)) → IsBehind way p v k
  behind_all zero inside within each = record {
    stands = stands_start way p v;
    allows = λ measure s n a.
        let none : amount measure 0 (8 * 0) ≤ 0 = omega (arith, amount-same measure 0) in
        allows_less (omega (arith, none)) a;
  }
  behind_all (suc k) inside within each =
      let next : k + 1 ≡ suc k = omega arith in
      subst (IsBehind way p v) next
      (behind_next k (omega arith) (omega arith) (each k (omega arith))
      (behind_all k (omega arith) (omega arith) (λ m low. each m (omega arith))))

  -- Both texts are passed up to the end of their literal front, by what is counted for a comparison of both.
  pub front_compared : {k : ℕ} {before after : Counts} → IsLiteralFront way p v k
      → TakesExactly before after (places_compared p v k) (2 * places_compared p v k) → IsFront way p v k before after
  front_compared {k} {before} {after} front takes =
      let behind = behind_all k front.inside front.within front.passed in
      let all = places_compared p v k in
      let enough : k ≤ all = le-min (omega arith) (le-min front.inside front.within) in
      let most : all ≤ k + 1 = min-le_left (k + 1) (min (length p) (length v)) in
      let both : all ≤ min (length p) (length v) = min-le_right (k + 1) (min (length p) (length v)) in
      let within : min (length p) (length v) ≤ length v = min-le_right (length p) (length v) in
      front_passed {tests = all - k} behind.stands behind.allows
      (record { steps = omega (arith, takes.steps, enough); looks = omega (arith, takes.looks, most); low = omega (arith, takes.looks) }) (omega (arith, both, within))
