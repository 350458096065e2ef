-- What a search in the rest of a text says of the whole text.
use Rattle.std.proofs.Common.{◌≡◌, ℕ, ◌+◌, ◌-◌, ◌<◌, ◌≤◌, List, length, get_or, take, drop, Some, None, refl, sym, ◌∙◌, ap, subst, arith}
use Rattle.memchr.specs.Find.{NoneBefore, Nowhere, Passes}
use Rattle.glob_matcher.specs.declared.wildmatch.any_of.AnyOf.{AnyOf}
use Rattle.glob_matcher.specs.Private.Finding.{HasComeTo, IsAnyOf, is_any_of}
use Rattle.glob_matcher.proofs.lemmas.cutting.PlaceLemmas.{part_byte, part_length}

-- what a part of the text has nowhere, the text has not there
passed_in_part : (v : List ℕ) (wanted : AnyOf) (k n d : ℕ) → d ≤ n → Nowhere (Passes (is_any_of wanted) (take n (drop k v))) 0 d
    → (m : ℕ) → k ≤ m → m < k + d → ¬ IsAnyOf wanted (get_or v m 0)
passed_in_part v wanted k n d few none m low below is =
    let same = part_byte v k n (m - k) (omega arith) in
    let sum : k + (m - k) ≡ m = omega arith in
    none (m - k) (omega arith) (omega arith) (ap (is_any_of wanted) (same ∙ ap (λ (l : ℕ). get_or v l 0) sum) ∙ is)

pub come_to_end : (v : List ℕ) (wanted : AnyOf) (k n : ℕ) → k + n ≡ length v
    → Nowhere (Passes (is_any_of wanted) (take n (drop k v))) 0 (length (take n (drop k v))) → HasComeTo v wanted k (length v) None
come_to_end v wanted k n whole none =
    let few : Nowhere (Passes (is_any_of wanted) (take n (drop k v))) 0 n =
    subst (λ (l : ℕ). Nowhere (Passes (is_any_of wanted) (take n (drop k v))) 0 l) (part_length v k n (omega arith)) none in record {
      low = omega arith;
      inside = omega arith;
      passed = λ m low below. passed_in_part v wanted k n n (omega arith) few m low (omega arith);
      met = refl;
    }

pub come_to_found : (v : List ℕ) (wanted : AnyOf) (k n d : ℕ) → k + n ≡ length v
    → NoneBefore (Passes (is_any_of wanted) (take n (drop k v))) 0 (length (take n (drop k v))) d
    → Passes (is_any_of wanted) (take n (drop k v)) d → HasComeTo v wanted k (k + d) (Some (get_or v (k + d) 0))
come_to_found v wanted k n d whole before here =
    let inside : d < n = subst (λ (l : ℕ). d < l) (part_length v k n (omega arith)) before.high in record {
      low = omega arith;
      inside = omega arith;
      passed = passed_in_part v wanted k n d (omega arith) before.before;
      met = (record { inside = omega arith; is = refl }, ap (is_any_of wanted) (sym (part_byte v k n d inside)) ∙ here);
    }
