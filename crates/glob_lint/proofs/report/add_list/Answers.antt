-- Each line of the list is named, in order.
use Rattle.std.proofs.Common.{◌≡◌, ◌+◌, ◌<◌, ◌≤◌, ℕ, inl, inr, ⊎_elim, length, sym, subst, arith}
use Rattle.std.proofs.lemmas.Bool.{cases_lt}
use Rattle.glob_lists.specs.Deciding.{HasEntryAt}
use Rattle.glob_lint.specs.declared.report.Finding.{Finding}
use Rattle.glob_lint.specs.Private.Findings.{AddsFindings}
use Rattle.glob_lint.specs.Seen.{seen}
use Rattle.glob_lint.proofs.lemmas.Held.{has_entry, same_pair}
use Rattle.glob_lint.proofs.lemmas.Named.{adds_as, adds_one, inside_at}
use Rattle.glob_lint.proofs.report.add_list.Goals as goal

pub effect_of-requires-clause-there : goal.effect_of-requires-clause-there
effect_of-requires-clause-there c =
    let read = subst (λ xs. c.lines.place < length xs) c.as_slice-patterns.ensures.value c.lines-test.true in
    has_entry c.args.asked.now.lists.now (c.args.at, c.lines.place) c.index-asked-at.result c.index-asked-at.is c.requires.inside read

pub lines-preserved : goal.lines-preserved
lines-preserved c =
    let lists = seen c.args.asked.now.lists.now in
    let here : ℕ × ℕ = (c.args.at, c.lines.place) in
    let finding : Finding = record { pair = here; effect = c.in_ok-effect.effect } in
    let These : ℕ × ℕ → Type 0 = λ pair. (pair.0 ≡ c.args.at) × (pair.1 < c.lines.place) in
    let Those : ℕ × ℕ → Type 0 = λ pair. (pair.0 ≡ c.args.at) × (pair.1 < c.lines.place + 1) in
    let added = adds_one c.args.asked.now.rules lists These Those c.args.findings.now.items c.lines.findings.items finding c.lines.invariant c.in_ok-effect.ensures
    (λ pair h. let less = h.1 in ⊎_elim
    (λ (below : pair.1 < c.lines.place). inl (h.0, below))
    (λ (from : c.lines.place ≤ pair.1). let place : c.lines.place ≡ pair.1 = omega arith in inr (same_pair here pair (sym h.0) place))
    (cases_lt pair.1 c.lines.place)) in
    subst (λ xs. AddsFindings c.args.asked.now.rules lists Those c.args.findings.now.items xs) (sym c.in_ok-push.ensures.items) added

pub returns : goal.returns
returns c =
    let lists = seen c.args.asked.now.lists.now in
    adds_as c.args.asked.now.rules lists (λ pair. (pair.0 ≡ c.args.at) × (pair.1 < c.lines.place)) (λ pair. HasEntryAt lists pair × (pair.0 ≡ c.args.at))
    c.args.findings.now.items c.lines.findings.items c.lines.invariant
    (λ pair h.
    let within = inside_at c.args.asked.now.lists.now pair c.args.at c.index-asked-at.result c.index-asked-at.is h.1 h.0 in
    let past = subst (λ xs. length xs ≤ c.lines.place) c.as_slice-patterns.ensures.value c.lines-test.false in
    (h.1, omega (arith, within, past)))
