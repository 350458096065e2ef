use Rattle.std.proofs.Common.{inl, inr, refl, sym, subst, ◌∙◌}
use Rattle.std.proofs.lemmas.Bool.{false≢true}
use Rattle.git_index.specs.Entries.{tracked}
use Rattle.globtree.specs.Listed.{Listed, MatchesListed}
use Rattle.globtree.proofs.lemmas.ListedLemmas.{same_listed}
use Rattle.globtree.proofs.list_tracked.push_matched.Goals as goal

pub returns-then-not-is_matched : goal.returns-then-not-is_matched
returns-then-not-is_matched c =
    let same = same_listed c.in_ok-listed.listed (tracked c.args.entry.now) c.in_ok-listed.ensures.path c.in_ok-listed.ensures.folder in
    inr ((λ matches. false≢true (sym c.if-not-is_matched.true ∙ c.is_matched.ensures.1 (subst (λ (l : Listed). MatchesListed c.args.list.now l) (sym same) matches))), refl)

pub returns : goal.returns
returns c =
    let same = same_listed c.in_ok-listed.listed (tracked c.args.entry.now) c.in_ok-listed.ensures.path c.in_ok-listed.ensures.folder in
    inl (subst (λ (l : Listed). MatchesListed c.args.list.now l) same (c.is_matched.ensures.0 c.if-not-is_matched.false), c.in_ok-push_path.ensures)
