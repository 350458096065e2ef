use Rattle.std.proofs.Common.{◌≡◌, ℕ, ◌+◌, ◌-◌, get_or, inl, inr, refl, subst, arith}
use Rattle.std.proofs.lemmas.Bool.{cases_lt}
use Rattle.glob_matcher.specs.Private.Finding.{PassesLiterally}
use Rattle.glob_matcher.proofs.wildmatch.spans.pass_spans.Goals as goal

pub spans-preserved : goal.spans-preserved
spans-preserved c =
    let from = c.spans.passed in
    record {
      inside = omega (arith, c.spans-test);
      within = omega (arith, c.spans-test);
      each = λ m low. elim (cases_lt m from) [
        | inl early ↦ c.spans.invariant.each m early
        | inr late ↦
            let sum : from + (m - from) ≡ m = omega arith in
            subst (λ (k : ℕ). PassesLiterally c.args.way (get_or c.args.pattern.now k 0) (get_or c.args.value.now k 0)) sum
            (c.if-not-passes_span.ensures refl (m - from) (omega arith))
      ];
    }
