-- The value that counts of a key is that of its last entry.
use Rattle.std.proofs.Common.{◌≡◌, List, [], ◌∷◌, ◌++◌, ℕ, Option, None, Some, map, refl, ap, ◌∙◌}
use Rattle.std.specs.List.{last_or}
use Rattle.git_config.specs.Configuration.{Seen, settings_of}
use Rattle.git_repository.specs.Values.{last_value}

last_or-append : {A : Type 0} (o : Option A) (xs : List A) (x : A) → last_or o (xs ++ x ∷ []) ≡ Some x
last_or-append o [] x = refl
last_or-append o (y ∷ xs) x = last_or-append (Some y) xs x

values-append : (front : List Seen) (s : Seen) → map (λ (s : Seen). s.entry.value) (front ++ s ∷ []) ≡ map (λ (s : Seen). s.entry.value) front ++ s.entry.value ∷ []
values-append [] s = refl
values-append (t ∷ front) s = ap (λ l. t.entry.value ∷ l) (values-append front s)

pub last_value-is : (key : List ℕ) (settings front : List Seen) (s : Seen) → settings_of key settings ≡ front ++ s ∷ [] → last_value key settings ≡ Some s.entry.value
last_value-is key settings front s is =
    ap (λ l. last_or None (map (λ (s : Seen). s.entry.value) l)) is
    ∙ ap (λ l. last_or None l) (values-append front s)
    ∙ last_or-append None (map (λ (s : Seen). s.entry.value) front) s.entry.value
