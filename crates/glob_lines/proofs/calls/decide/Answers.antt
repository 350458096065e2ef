use Rattle.glob_lines.proofs.calls.decide.Goals as goal

pub returns : goal.returns
returns g c = rw c.from_plain.ensures at c.decide.ensures
