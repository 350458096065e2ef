use Rattle.std.proofs.Common.{ℕ, ◌+◌, ◌-◌, Option, IfNone, sym, subst, arith}
use Rattle.glob_matcher.specs.Private.StarSearch.{Skips}
use Rattle.glob_matcher.proofs.lemmas.cutting.PlaceLemmas.{skips_part, skips_whole_part}
use Rattle.glob_matcher.proofs.wildmatch.pruned.Level.next_at.Goals as goal

pub returns-in_err-offset-clause-none : goal.returns-in_err-offset-clause-none
returns-in_err-offset-clause-none c =
    let v = c.args.self.now.value.now in
    let passed = skips_whole_part c.args.self.now.way v c.args.at c.args.until c.in-Some.byte c.requires.low c.requires.inside c.in_err-offset.ensures.none in
    subst (λ (r : Option ℕ). IfNone r (Skips c.args.self.now.way v c.args.wanted c.args.at c.args.until)) (sym c.from_residual.ensures)
    (subst (λ (w : Option ℕ). Skips c.args.self.now.way v w c.args.at c.args.until) (sym c.in-Some.is) passed)

pub returns-clause-found : goal.returns-clause-found
returns-clause-found c =
    let v = c.args.self.now.value.now in
    let passed = skips_part c.args.self.now.way v c.args.at (c.args.until - c.args.at) c.in-Some.byte c.in_ok-offset.offset (omega arith) c.in_ok-offset.ensures.found in
    subst (λ (w : Option ℕ). Skips c.args.self.now.way v w c.args.at (c.args.at + c.in_ok-offset.offset)) (sym c.in-Some.is) passed
