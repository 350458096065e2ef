-- Each finding is true.
use Rattle.std.proofs.Common.{◌-◌, ◌<◌, length, sym, subst, arith}
use Rattle.glob_lint.specs.Private.Findings.{IsTold}
use Rattle.glob_lint.proofs.removable.removable_of.Goals as goal

pub findings-preserved : goal.findings-preserved
findings-preserved c = λ rules lists all.
    let at = c.findings.at - 1 in
    let within : at < length c.args.findings.now = omega arith in
    let told = subst (IsTold rules lists) (sym c.index-findings-at.is) (all at c.index-findings-at.result within) in
    c.in_ok-add_finding.ensures rules lists told (c.findings.invariant rules lists all)

pub returns : goal.returns
returns c = λ rules lists all. (c.findings.stay.items, c.findings.invariant rules lists all)
