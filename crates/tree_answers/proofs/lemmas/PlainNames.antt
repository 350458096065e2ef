-- Told paths that are names are plain paths.
use Rattle.std.proofs.Common.{◌≡◌, ◌≢◌, ⊎_elim, ℕ, zero, suc, ◌+◌, true, false, List, [], ◌∷◌, subst, arith}
use Rattle.std.specs.List.{onto_first}
use Rattle.std.specs.Str.{byte}
use Rattle.std.proofs.lemmas.Bool.{cases_Bool, eq-eqb, false≢true}
use Rattle.gix_glob.specs.Bytes.{HasByte, slash}
use Rattle.git_paths.specs.Paths.{AreNames, is_slash, parts_of}
use Rattle.git_paths.proofs.lemmas.NameLemmas.{behind_first}
use Rattle.glob_lists.specs.Paths.{IsPlainPath}

behind_names : (parts : List (List ℕ)) → AreNames parts → AreNames (behind_first parts)
behind_names [] names = tt
behind_names (part ∷ parts) names = names.1

fewer : (b : ℕ) (parts : List (List ℕ)) → AreNames (behind_first (onto_first b parts)) → AreNames (behind_first parts)
fewer b [] names = tt
fewer b (part ∷ parts) names = names

slash_here : (b : ℕ) (rest : List ℕ) → HasByte (b ∷ rest) 0 slash → is_slash b ≡ true
slash_here b rest here = eq-eqb b (byte "/") here.is

later : (b : ℕ) (rest : List ℕ) (i : ℕ) → HasByte (b ∷ rest) (suc i) slash → HasByte rest i slash
later b rest i here = record { inside = let h = here.inside in omega (arith, h); is = here.is }

-- a slash at the front is no name's
none_at_front : (rest : List ℕ) → HasByte rest 0 slash → AreNames (parts_of rest) → ⊥
none_at_front [] here names = let h = here.inside in absurd (omega (arith, h))
none_at_front (c ∷ rest) here names = let parts : AreNames ([] ∷ parts_of rest) = rw (slash_here c rest here) at names in false≢true parts.0

-- nor is one behind another
none_twice : (path : List ℕ) (i : ℕ) → HasByte path i slash → HasByte path (suc i) slash → AreNames (behind_first (parts_of path)) → ⊥
none_twice [] i here next names = let h = here.inside in absurd (omega (arith, h))
none_twice (b ∷ rest) zero here next names =
    none_at_front rest (later b rest 0 next) (rw (slash_here b rest here) at names)
none_twice (b ∷ rest) (suc i) here next names = ⊎_elim
    (λ (slash : is_slash b ≡ true). none_twice rest i (later b rest i here) (later b rest (suc i) next) (behind_names (parts_of rest) (rw slash at names)))
    (λ (other : is_slash b ≡ false). none_twice rest i (later b rest i here) (later b rest (suc i) next) (fewer b (parts_of rest) (rw other at names)))
    (cases_Bool (is_slash b))

not_empty : (told : List ℕ) → AreNames (parts_of told) → told ≢ []
not_empty [] names none = false≢true names.0
not_empty (b ∷ told) names none = absurd (cc)

pub names_are_plain : (told : List ℕ) → AreNames (parts_of told) → IsPlainPath told
names_are_plain told names = record {
  some = not_empty told names;
  relative = λ here. none_at_front told here names;
  single = λ i here next. let place : i + 1 ≡ suc i = omega arith in none_twice told i here (subst (λ n. HasByte told n slash) place next) (behind_names (parts_of told) names);
}
