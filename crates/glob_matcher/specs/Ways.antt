-- What a mode asks for.
use Rattle.std.specs.Prelude.{◌==◌, bit_and, if◌then◌else◌}
use Rattle.glob_matcher.specs.declared.wildmatch.mode.Mode.{Mode}
use Rattle.glob_matcher.specs.declared.wildmatch.way.Folding.TheVariants.{Off, Both}
use Rattle.glob_matcher.specs.declared.wildmatch.way.Way.{Way}
use Rattle.glob_matcher.specs.Bytes.{way_with}

-- the way to match that a mode asks for: by its two named bits alone
abbrev pub way_of : Mode → Way
way_of mode = way_with (bit_and mode.0 1 == 1) (if bit_and mode.0 2 == 2 then Both else Off)
