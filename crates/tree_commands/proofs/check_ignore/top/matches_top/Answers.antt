-- The pattern is asked about no bytes.
use Rattle.std.proofs.Common.{ap, sym, ◌∙◌}
use Rattle.gix_glob.specs.Patterns.{looks_at_name}
use Rattle.tree_commands.proofs.check_ignore.top.matches_top.Goals as goal

pub returns : goal.returns
returns c =
    let told = rw c.top.ensures at (rw c.view.ensures.mode at (rw c.view.ensures.text at (c.is_matched_by.ensures c.view.ensures.lawful))) in
    (λ yes. (ap looks_at_name (sym c.mode.ensures) ∙ sym c.if-not-looks_at_name.ensures, told.0 yes), λ h. told.1 h.1)
