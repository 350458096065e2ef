-- Copies that are equal.
use Rattle.std.proofs.Common.{◌≡◌, ℕ, ◌+◌, ◌<◌, ◌==◌, Bool, true, ◌&&◌, List, [], ◌∷◌, ◌++◌, length, take, get_or, refl, sym, ap, ◌∙◌, add-one}
use Rattle.std.proofs.Math.Seq.{take-suc}
use Rattle.std.proofs.lemmas.Bool.{and_from, and_parts}
use Rattle.std.specs.Cmp.Lexicographic.{pointwise}
use Rattle.gix_glob.specs.declared.search.pattern.mapping.Mapping.{Mapping}
use Rattle.glob_patterns.specs.contracts.pattern.PatternPartialEq.TheImpl.{ghosts as patterns}

-- what `==` says of two mappings
abbrev pub equal_mappings : {V : Type 0} → (V → V → Bool) → Mapping V → Mapping V → Bool
equal_mappings eq a b = patterns.eq a.pattern b.pattern && (eq a.value b.value && (a.sequence_number == b.sequence_number))

pub all_three : (a b c : Bool) → a ≡ true → b ≡ true → c ≡ true → a && (b && c) ≡ true
all_three a b c p q r = and_from a (b && c) p (and_from b c q r)

-- lists that are equal at each place, with one more equal pair at the end
pub pointwise-push : {A : Type 0} (E : A → A → Bool) (xs ys : List A) (x y : A) → pointwise E xs ys ≡ true → E x y ≡ true → pointwise E (xs ++ x ∷ []) (ys ++ y ∷ []) ≡ true
pointwise-push E [] [] x y same equal = and_from (E x y) true equal refl
pointwise-push E [] (b ∷ bs) x y same equal = absurd (cc)
pointwise-push E (a ∷ rest) [] x y same equal = absurd (cc)
pointwise-push E (a ∷ rest) (b ∷ bs) x y same equal =
    and_from (E a b) (pointwise E (rest ++ x ∷ []) (bs ++ y ∷ [])) (and_parts (E a b) (pointwise E rest bs) same).0
    (pointwise-push E rest bs x y (and_parts (E a b) (pointwise E rest bs) same).1 equal)

-- the same along a list
pub pointwise-next : {A : Type 0} (E : A → A → Bool) (xs ys : List A) (i : ℕ) (x y : A) → i < length xs → x ≡ get_or xs i x → pointwise E (take i xs) ys ≡ true → E x y ≡ true → pointwise E (take (i + 1) xs) (ys ++ y ∷ []) ≡ true
pointwise-next E xs ys i x y inside is same equal =
    ap (λ front. pointwise E front (ys ++ y ∷ [])) (rw add-one (take-suc xs i x inside) ∙ ap (λ z. take i xs ++ z ∷ []) (sym is))
    ∙ pointwise-push E (take i xs) ys x y same equal
