-- The mode is that of the bits.
use Rattle.gix_glob_c.proofs.lemmas.Bits.{pattern_mode_of}
use Rattle.gix_glob_c.proofs.parsed.GlobPattern.view.Goals as goal

pub returns-clause-mode : goal.returns-clause-mode
returns-clause-mode c = pattern_mode_of c.from_bits_retain.result c.args.self.now.mode.bits (c.from_bits_retain.ensures tt)
