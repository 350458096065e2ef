use Rattle.std.proofs.Common.{length}
use Rattle.system_files.proofs.real_path.walk.Given as goal

-- what is left gets shorter
abbrev pub decreases-parts : goal.decreases-parts
decreases-parts g l = length l.rest
