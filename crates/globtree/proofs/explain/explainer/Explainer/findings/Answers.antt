-- Changes that were tried leave the lists as they were.
use Rattle.std.proofs.Common.{◌≡◌, ◌∙◌, ap, subst, sym, rules}
use Rattle.glob_lists.specs.Deciding.{BasesAreFolders}
use Rattle.glob_explain.specs.Causes.{seen}
use Rattle.globtree.proofs.explain.explainer.Explainer.findings.Goals as goal
use Rattle.globtree.proofs.explain.explainer.Explainer.findings.Goals.{then-not-matches+in_ok-findings, else-not-matches}

pub keeping_lines-requires : goal.keeping_lines-requires
keeping_lines-requires g c =
    let same : seen c.if-not-matches.lists ≡ seen c.as_mut_slice-lists.result.now = elim c.if-not-matches.branch [
      | then-not-matches+in_ok-findings w ↦ ap seen w.lists-is ∙ w.near_lines.ensures.same
      | else-not-matches w ↦ ap seen w.lists-is
    ] in
    let bases : BasesAreFolders (seen c.as_mut_slice-lists.result.now) = search rules in
    subst BasesAreFolders (sym same) bases
