-- What is read keeps the invariant.
use Rattle.std.proofs.Common.{sym, subst, List, ℕ}
use Rattle.glob_patterns.specs.Patterns.{IsPattern}
use Rattle.glob_patterns.proofs.lemmas.GitLineLemmas.{IsPattern-GitReads}
use Rattle.glob_patterns.proofs.pattern.Pattern.from_git_line.Goals as goal

pub invariant_of-result : goal.invariant_of-result
invariant_of-result c =
    let read = c.git_pattern-first_wildcard_pos in
    let kept : IsPattern c.in_ok-text.text.items read.result.1 read.result.2 =
    subst (λ (xs : List ℕ). IsPattern xs read.result.1 read.result.2) (sym c.in_ok-text.ensures.items) (IsPattern-GitReads _ _ _ _ read.ensures) in
    record { placed = kept.placed; ends = kept.ends }
