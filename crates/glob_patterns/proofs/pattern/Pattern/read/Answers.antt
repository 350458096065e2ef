-- What is read keeps the invariant.
use Rattle.std.proofs.Common.{sym, subst, List, ℕ}
use Rattle.glob_patterns.specs.Patterns.{IsPattern}
use Rattle.glob_patterns.proofs.lemmas.ReadingLemmas.{IsPattern-Reads}
use Rattle.glob_patterns.proofs.pattern.Pattern.read.Goals as goal

pub invariant_of-result : goal.invariant_of-result
invariant_of-result c =
    let read = IsPattern-Reads _ _ _ _ _ c.in-Some.ensures.reads in
    let kept : IsPattern c.in_ok-text.text.items c.in-Some.mode c.in-Some.first_wildcard_pos =
    subst (λ (xs : List ℕ). IsPattern xs c.in-Some.mode c.in-Some.first_wildcard_pos) (sym c.in_ok-text.ensures.items) read in
    record { placed = kept.placed; ends = kept.ends }
