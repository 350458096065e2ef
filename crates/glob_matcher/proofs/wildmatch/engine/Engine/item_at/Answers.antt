use Rattle.std.proofs.Common.{refl, arith, rules}
use Rattle.glob_matcher.proofs.lemmas.reading.LookLemmas.{paid_same}
use Rattle.glob_matcher.proofs.wildmatch.engine.Engine.item_at.Goals as goal

pub returns-in-92 : goal.returns-in-92
returns-in-92 g c = c.escape_at.ensures c.args.cursor.low

pub returns-in_default : goal.returns-in_default
returns-in_default g c = record { answer = search rules; paid = paid_same 1 refl (omega arith) (omega arith) (omega arith) }
