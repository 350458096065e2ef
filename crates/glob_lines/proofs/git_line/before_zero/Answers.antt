-- The first byte 0 ends what stands before it.
use Rattle.std.proofs.Common.{sym}
use Rattle.glob_lines.proofs.lemmas.GitLineLemmas.{before_zero-cut, before_zero-none}
use Rattle.byte_streams.proofs.lemmas.CutLemmas.{HasNo-not_found, IsCutAt-found}
use Rattle.glob_lines.proofs.git_line.before_zero.Goals as goal

pub returns-in-Some : goal.returns-in-Some
returns-in-Some c = sym (before_zero-cut _ _ _ (IsCutAt-found 0 c.args.bytes.now c.in-Some.end c.in-Some.ensures))

pub returns-in-None : goal.returns-in-None
returns-in-None c = sym (before_zero-none c.args.bytes.now (HasNo-not_found 0 c.args.bytes.now c.in-None.ensures))
