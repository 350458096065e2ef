-- What an outcome keeps of another one.
use Rattle.std.proofs.Common.{◌≡◌, Bool, ◌||◌, List, [], ◌∷◌, map, Result, Ok, Err, refl, ap, subst, sym}
use Rattle.std.specs.List.{list_any}
use Rattle.std.specs.Prelude.{IfOk, MatchResult, OnOk}

-- one that ended well as the other did, whatever that one answered
pub ended_well : {A F : Type 0} (outcome : Result A F) (result : Result (Unit {0}) F) → MatchResult outcome (λ _. result ≡ Ok tt) (λ fault. result ≡ Err fault)
    → (P : A → Type 0) (Q : Type 0) → ((a : A) → P a → Q) → IfOk outcome P → OnOk result Q
ended_well (Ok a) result is P Q from held = subst (λ r. OnOk r Q) (sym is) (from a held)
ended_well (Err fault) result is P Q from held = subst (λ r. OnOk r Q) (sym is) tt

-- some item passes as it is seen
pub any_seen : {A B : Type 0} (passes : B → Bool) (see : A → B) (items : List A) → list_any (λ item. passes (see item)) items ≡ list_any passes (map see items)
any_seen passes see [] = refl
any_seen passes see (item ∷ items) = ap (λ b. passes (see item) || b) (any_seen passes see items)
