-- The digits stand in the table.
use Rattle.glob_lines.proofs.lemmas.DecimalLemmas.{PAIRS_at}
use Rattle.glob_lines.proofs.numbers.two_digits.Goals as goal

pub returns : goal.returns
returns c = PAIRS_at c.args.number c.requires
