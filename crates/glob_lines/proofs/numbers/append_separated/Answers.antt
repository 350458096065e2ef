-- A number has the digits of its pairs.
use Rattle.std.proofs.Common.{rules}
use Rattle.glob_lines.proofs.lemmas.DecimalLemmas.{decimal_three, decimal_four, decimal_five}
use Rattle.glob_lines.proofs.numbers.append_separated.Goals as goal

pub returns-in-100-to-999 : goal.returns-in-100-to-999
returns-in-100-to-999 c = let e = decimal_three c.args.number (search rules) (search rules) in rw e (search rules)

pub returns-in-1000-to-9999 : goal.returns-in-1000-to-9999
returns-in-1000-to-9999 c = let e = decimal_four c.args.number (search rules) (search rules) in rw e (search rules)

pub returns-in-10000-to-99999 : goal.returns-in-10000-to-99999
returns-in-10000-to-99999 c = let e = decimal_five c.args.number (search rules) (search rules) in rw e (search rules)
