-- What is left of a path under a base.
use Rattle.std.proofs.Common.{◌≡◌, ℕ, ◌+◌, List, length, take, drop, refl, sym, ap, ◌∙◌, subst, take_at, true, false, Option, None, Some, MatchOption, Bor}
use Rattle.std.specs.Char.{to_ascii_lowercase}
use Rattle.std.specs.Str.{bytes_eq}
use Rattle.std.proofs.lemmas.Slice.Eq.{bytes_eq-Decides}
use Rattle.std.proofs.lemmas.List.{take-append-drop, length-map}
use Rattle.glob_patterns.specs.declared.pattern.case.Case.{Case}
use Rattle.glob_patterns.specs.declared.pattern.case.Case.TheVariants.{Sensitive, Fold}
use Rattle.gix_glob.specs.Stripping.{folding_by, Rest}

-- comparing keeps a text's length
pub length-folding_by : (case : Case) (text : List ℕ) → length (folding_by case text) ≡ length text
length-folding_by Sensitive text = refl
length-folding_by Fold text = length-map text to_ascii_lowercase

-- the front is as long as the base
pub Rest-front : (case : Case) (base path rest : List ℕ) (r : Rest case base path rest) → length r.front ≡ length base
Rest-front case base path rest r = sym (length-folding_by case r.front) ∙ ap length r.same ∙ length-folding_by case base

-- the front and the rest are what the base's length cuts off
pub Rest-cut : (case : Case) (base path rest : List ℕ) (r : Rest case base path rest) → r.front ≡ take (length base) path
Rest-cut case base path rest r = sym (ap (take (length base)) r.joined ∙ take_at r.front rest (length base) (Rest-front case base path rest r))

-- and they are a front and a rest where the front compares equal
pub Rest-from_cut : (case : Case) (base path : List ℕ) → folding_by case (take (length base) path) ≡ folding_by case base → Rest case base path (drop (length base) path)
Rest-from_cut case base path same = record {
  front = take (length base) path;
  joined = sym (take-append-drop (length base) path);
  same = same;
}

pub Rest-compares : (case : Case) (base path rest : List ℕ) → Rest case base path rest → folding_by case (take (length base) path) ≡ folding_by case base
Rest-compares case base path rest r = ap (folding_by case) (sym (Rest-cut case base path rest r)) ∙ r.same

-- what `strip_prefix` tests and answers
pub Rest-no_prefix : (base path rest : List ℕ) → bytes_eq (take (length base) path) base ≡ false → ¬ Rest Sensitive base path rest
Rest-no_prefix base path rest differs r =
    let same = (bytes_eq-Decides (take (length base) path) base).1 (Rest-compares Sensitive base path rest r) in cc

pub Rest-prefix : (base path rest : List ℕ) → bytes_eq (take (length base) path) base ≡ true → rest ≡ drop (length base) path → Rest Sensitive base path rest
Rest-prefix base path rest same is =
    subst (Rest Sensitive base path) (sym is) (Rest-from_cut Sensitive base path ((bytes_eq-Decides (take (length base) path) base).0 same))

pub exact_answer : (base path : List ℕ) (answer : Option (Bor (List ℕ))) → MatchOption answer (bytes_eq (take (length base) path) base ≡ false) (λ rest. (bytes_eq (take (length base) path) base ≡ true) × (rest.now ≡ drop (length base) path) × (length rest.now + length base ≡ length path)) → MatchOption answer ((rest : List ℕ) → ¬ Rest Sensitive base path rest) (λ rest. Rest Sensitive base path rest.now)
exact_answer base path None differs = λ rest. Rest-no_prefix base path rest differs
exact_answer base path (Some rest) is = Rest-prefix base path rest.now is.0 is.1
