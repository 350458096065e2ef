-- Places in a part of the value, and in the value: what a search in the part says of the whole.
use Rattle.std.proofs.Common.{◌≡◌, ◌≢◌, ℕ, ◌+◌, ◌-◌, ◌<◌, ◌≤◌, List, length, get_or, take, drop, Some, refl, sym, ◌∙◌, ap, subst, arith, get_or-drop, get_or-take, length-take, length-drop, eq-eqb, eqb-true}
use Rattle.memchr.specs.Find.{NoneBefore, Nowhere, Passes, is_byte}
use Rattle.glob_matcher.specs.declared.wildmatch.way.Way.{Way}
use Rattle.glob_matcher.specs.Bytes.{fold, slash}
use Rattle.glob_matcher.specs.Private.StarSearch.{Skips, IsComponentEnd}

-- a part of the value has its bytes
pub part_byte : (v : List ℕ) (k n m : ℕ) → m < n → get_or (take n (drop k v)) m 0 ≡ get_or v (k + m) 0
part_byte v k n m below = rw (get_or-take, get_or-drop) refl

pub part_length : (v : List ℕ) (k n : ℕ) → k + n ≤ length v → length (take n (drop k v)) ≡ n
part_length v k n fits = simp (length-take, length-drop) (omega arith)

-- what is passed over in a part is passed over in the value
pub skips_part : (way : Way) (v : List ℕ) (k n b d : ℕ) → k + n ≤ length v
    → Skips way (take n (drop k v)) (Some b) 0 d → Skips way v (Some b) k (k + d)
skips_part way v k n b d fits part =
    let inside : d ≤ n = subst (λ (l : ℕ). d ≤ l) (part_length v k n fits) part.inside in record {
      low = omega arith;
      inside = omega arith;
      differs = λ m low below.
          let same = part_byte v k n (m - k) (omega arith) in
          let sum : k + (m - k) ≡ m = omega arith in
          let differs : fold way (get_or (take n (drop k v)) (m - k) 0) ≢ fold way b = part.differs (m - k) (omega arith) (omega arith) in
          subst (λ (c : ℕ). fold way c ≢ fold way b) (same ∙ ap (λ (l : ℕ). get_or v l 0) sum) differs;
    }

-- no slash in a part
no_slash_part : (v : List ℕ) (k n d : ℕ) → d ≤ n → Nowhere (Passes (is_byte slash) (take n (drop k v))) 0 d
    → (m : ℕ) → k ≤ m → m < k + d → get_or v m 0 ≢ slash
no_slash_part v k n d few none m low below is =
    let same = part_byte v k n (m - k) (omega arith) in
    let sum : k + (m - k) ≡ m = omega arith in
    let there : get_or (take n (drop k v)) (m - k) 0 ≡ slash = same ∙ (ap (λ (l : ℕ). get_or v l 0) sum ∙ is) in
    none (m - k) (omega arith) (omega arith) (eq-eqb _ slash there)

pub component_found : (v : List ℕ) (k n d : ℕ) → k + n ≡ length v
    → NoneBefore (Passes (is_byte slash) (take n (drop k v))) 0 (length (take n (drop k v))) d
    → Passes (is_byte slash) (take n (drop k v)) d → IsComponentEnd v k (k + d)
component_found v k n d whole before here =
    let inside : d < n = subst (λ (l : ℕ). d < l) (part_length v k n (omega arith)) before.high in record {
      low = omega arith;
      inside = omega arith;
      none = record { at = no_slash_part v k n d (omega arith) before.before };
      ends = λ below. sym (part_byte v k n d inside) ∙ eqb-true _ slash here;
    }

pub component_last : (v : List ℕ) (k n : ℕ) → k + n ≡ length v
    → Nowhere (Passes (is_byte slash) (take n (drop k v))) 0 (length (take n (drop k v))) → IsComponentEnd v k (length v)
component_last v k n whole none =
    let few : Nowhere (Passes (is_byte slash) (take n (drop k v))) 0 n =
    subst (λ (l : ℕ). Nowhere (Passes (is_byte slash) (take n (drop k v))) 0 l) (part_length v k n (omega arith)) none in record {
      low = omega arith;
      inside = omega arith;
      none = record { at = λ m low below. no_slash_part v k n n (omega arith) few m low (omega arith) };
      ends = λ below. absurd (omega arith);
    }

pub skips_whole_part : (way : Way) (v : List ℕ) (k e b : ℕ) → k ≤ e → e ≤ length v
    → Skips way (take (e - k) (drop k v)) (Some b) 0 (length (take (e - k) (drop k v)))
    → Skips way v (Some b) k e
skips_whole_part way v k e b low inside part =
    let sum : k + (e - k) ≡ e = omega arith in
    subst (λ (n : ℕ). Skips way v (Some b) k n) sum
    (skips_part way v k (e - k) b (e - k) (omega arith)
    (subst (λ (n : ℕ). Skips way (take (e - k) (drop k v)) (Some b) 0 n)
    (part_length v k (e - k) (omega arith)) part))
