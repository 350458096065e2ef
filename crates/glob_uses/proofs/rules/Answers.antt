-- What the parser means by the file are its ignore entries.
use Rattle.std.proofs.Common.{[]}
use Rattle.glob_uses.proofs.rules.Goals as goal

pub returns : goal.returns
returns c = (c.ignore_entries_are_these.ensures (record {}) [] c.args.file.now _).1 c.in_ok-list.ensures.means
