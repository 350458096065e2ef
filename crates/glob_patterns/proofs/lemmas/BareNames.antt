-- The last part of a path has no slash.
use Rattle.std.proofs.Common.{◌≡◌, ℕ, ◌+◌, ◌<◌, false, ◌==◌, List, length, get_or, drop, sym, ◌∙◌, arith, get_or-drop, length-drop, eqb-true}
use Rattle.std.proofs.lemmas.Bool.{false_from_ne_true}
use Rattle.std.proofs.lemmas.List.{get_or_default}
use Rattle.std.proofs.lemmas.List.Folds.{list_any_none}
use Rattle.glob_matcher.specs.Bytes.{has_slash, slash}
use Rattle.glob_patterns.specs.RepositoryPaths.{IsAfterLastSlash}

-- behind the last slash there is none
pub after_last_slash : (path : List ℕ) (k : ℕ) → IsAfterLastSlash path k → has_slash (drop k path) ≡ false
after_last_slash path k last = list_any_none (λ b. b == slash) (drop k path) (λ m d below.
    let long = length-drop k path in
    let inside : k + m < length path = omega arith in
    false_from_ne_true (get_or (drop k path) m d == slash) (λ is.
    last.last (k + m) (omega arith) (record { inside = inside; is = get_or_default path (k + m) 0 d inside ∙ sym (get_or-drop k path m d) ∙ eqb-true _ slash is })))
