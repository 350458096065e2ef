-- The reading that a pattern is.
use Rattle.gix_glob.specs.declared.pattern.Pattern.{Pattern}
use Rattle.gix_glob.specs.Equations.Readings.{Reading}
use Rattle.gix_glob.specs.PatternParts.{mode_of, place_of, text_of}

abbrev pub reading_in : Pattern → Reading
reading_in pattern = record { text = text_of pattern; mode = mode_of pattern; place = place_of pattern }
