use Rattle.glob_lines.proofs.calls.decide_with_counts.Goals as goal

pub returns-clause-exact : goal.returns-clause-exact
returns-clause-exact g c = rw c.by_crate.ensures at (rw c.from_plain.ensures at c.decide_with_counts.ensures.exact)
