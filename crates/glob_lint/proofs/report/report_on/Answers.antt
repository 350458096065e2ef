-- Each line is named, what is said is true, and the lines that may go may go together.
use Rattle.std.proofs.Common.{All, length, sym, subst}
use Rattle.glob_lint.specs.Private.Findings.{AreFindings, IsTold}
use Rattle.glob_lint.specs.Seen.{seen}
use Rattle.glob_lint.proofs.lemmas.Going.{alike_together}
use Rattle.glob_lint.proofs.lemmas.Held.{within_of_entry}
use Rattle.glob_lint.proofs.lemmas.Named.{effects_told}
use Rattle.glob_lint.proofs.report.report_on.Goals as goal
use Rattle.glob_lint.proofs.report.report_on.Goals.{In_ok-findings}

found_of : (c : In_ok-findings) → AreFindings c.args.rules (seen c.args.lists.now) (length c.args.lists.now) c.in_ok-findings.findings.items
found_of c =
    let items = c.in_ok-findings.findings.items in
    let same = c.in_ok-asked.ensures in
    let lists = subst (λ l. AreFindings c.in_ok-asked.asked.rules (seen l) (length l) items) same.0 c.in_ok-findings.ensures in
    subst (λ rules. AreFindings rules (seen c.args.lists.now) (length c.args.lists.now) items) same.1 lists

pub returns-clause-each : goal.returns-clause-each
returns-clause-each c = λ pair there.
    let found = found_of (goal.at.returns-clause-each c).In_ok-findings in
    found.each pair there (within_of_entry c.args.lists.now pair there)

pub returns-clause-told : goal.returns-clause-told
returns-clause-told c =
    let found = found_of (goal.at.returns-clause-told c).In_ok-findings in
    effects_told c.args.rules (seen c.args.lists.now) c.in_ok-findings.findings.items found.told

pub returns-clause-together : goal.returns-clause-together
returns-clause-together c = λ gone some.
    let lists = seen c.args.lists.now in
    let found = found_of (goal.at.returns-clause-together c).In_ok-findings in
    let told = subst (All (IsTold c.args.rules lists)) (sym c.deref.ensures.value) found.told in
    let may = c.in_ok-removable.ensures c.args.rules lists told in
    alike_together c.args.rules lists c.in_ok-removable.removable.items may.0 gone may.1 some
