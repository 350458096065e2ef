-- What is shown of the entries of a key, and of the last one.
use Rattle.std.proofs.Common.{◌≡◌, ◌∙◌, ℕ, Bool, true, false, cond, List, [], ◌∷◌, ◌++◌, drop, Option, None, Some, ap, refl, sym}
use Rattle.std.specs.List.{flat_map, last_or}
use Rattle.std.specs.Option.{option_to_list}
use Rattle.std.specs.Str.{bytes_eq}
use Rattle.git_config.specs.declared.origin.Manner.{Manner}
use Rattle.git_config.specs.Configuration.{Seen, key_of, settings_of}
use Rattle.git_config.specs.Answers.{Last, Values}
use Rattle.git_config.specs.Private.Answering.{IsLast, shown_from}
use Rattle.git_config.specs.Shown.{value_shown}

value_or_none : (b : Bool) (show : Seen → List ℕ) (s : Seen) (rest : List Seen) → cond b (show s) [] ++ flat_map show rest ≡ flat_map show (cond b (s ∷ rest) rest)
value_or_none true show s rest = refl
value_or_none false show s rest = refl

-- what is shown of the entries of a key
pub values_shown : (manner : Manner) (key : List ℕ) (all : List Seen) → shown_from manner (Values key) all ≡ flat_map (value_shown manner) (settings_of key all)
values_shown manner key [] = refl
values_shown manner key (s ∷ all) =
    let here = bytes_eq (key_of s) key in
    ap (λ (l : List ℕ). cond here (value_shown manner s) [] ++ l) (values_shown manner key all) ∙ value_or_none here (value_shown manner) s (settings_of key all)

last_or-append : {A : Type 0} (o : Option A) (xs : List A) (x : A) → last_or o (xs ++ x ∷ []) ≡ Some x
last_or-append o [] x = refl
last_or-append o (y ∷ xs) x = last_or-append (Some y) xs x

-- from its last entry on, that one alone
pub last_shown : (manner : Manner) (key : List ℕ) (all : List Seen) (place : ℕ) → IsLast key all place
    → shown_from manner (Last key) (drop place all) ≡ flat_map (value_shown manner) (option_to_list (last_or None (settings_of key all)))
last_shown manner key all place is =
    values_shown manner key (drop place all) ∙ ap (flat_map (value_shown manner)) (is.only ∙ sym (ap (λ (l : List Seen). option_to_list (last_or None l)) is.all ∙ ap (λ (o : Option Seen). option_to_list o) (last_or-append None is.front is.last)))
