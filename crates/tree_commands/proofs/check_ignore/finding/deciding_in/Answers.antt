use Rattle.tree_commands.proofs.check_ignore.finding.deciding_in.Goals as goal

pub returns : goal.returns
returns g c = rw c.rules.ensures at (rw c.lists.ensures at c.deciding_for_top.ensures)
