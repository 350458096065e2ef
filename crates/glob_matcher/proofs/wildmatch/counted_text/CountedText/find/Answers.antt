use Rattle.std.proofs.Common.{◌≡◌, ◌+◌, ◌-◌, ℕ, List, None, Some, length, get_or, ap, subst, arith}
use Rattle.glob_matcher.specs.Private.Finding.{HasComeTo}
use Rattle.glob_matcher.proofs.lemmas.two_marks.Findings.{come_to_end, come_to_found}
use Rattle.glob_matcher.proofs.wildmatch.counted_text.CountedText.find.Goals as goal

pub returns-in-None-clause-found : goal.returns-in-None-clause-found
returns-in-None-clause-found g c =
    let v = c.self.inside.bytes.now in
    let same : length v ≡ length c.args.self.now = ap length c.self.view_is in
    subst (λ (t : List ℕ). HasComeTo t c.args.wanted c.args.from (length v) None) c.self.view_is
    (come_to_end v c.args.wanted c.args.from (length v - c.args.from) (omega (arith, same, c.requires)) c.in-None.ensures)

pub returns-in-Some-clause-found : goal.returns-in-Some-clause-found
returns-in-Some-clause-found g c =
    let v = c.self.inside.bytes.now in
    let same : length v ≡ length c.args.self.now = ap length c.self.view_is in
    let at = c.args.from + c.in-Some.passed in
    subst (λ (t : List ℕ). HasComeTo t c.args.wanted c.args.from at (Some (get_or v at 0))) c.self.view_is
    (come_to_found v c.args.wanted c.args.from (length v - c.args.from) c.in-Some.passed (omega (arith, same, c.requires)) c.in-Some.ensures.0 c.in-Some.ensures.1)
