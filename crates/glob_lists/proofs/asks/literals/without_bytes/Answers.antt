-- A shift takes bytes off.
use Rattle.std.proofs.Common.{◌*◌, sym, arith}
use Rattle.glob_lists.proofs.lemmas.Asks.EndNumbers.{without_all, without_bytes-shift}
use Rattle.glob_lists.proofs.asks.literals.without_bytes.Goals as goal

pub returns-then-count-ge-LONGEST_END : goal.returns-then-count-ge-LONGEST_END
returns-then-count-ge-LONGEST_END c = sym (without_all c.args.key c.args.count (omega arith) c.if-count-ge-LONGEST_END.true)

pub returns : goal.returns
returns c = without_bytes-shift c.args.key c.args.count (8 * c.args.count) (omega arith)
