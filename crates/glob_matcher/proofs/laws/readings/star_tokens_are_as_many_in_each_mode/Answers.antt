use Rattle.std.proofs.Common.{sym, ◌∙◌}
use Rattle.glob_matcher.specs.Ways.{way_of}
use Rattle.glob_matcher.proofs.lemmas.cutting.SplitLemmas.{star_count_alike}
use Rattle.glob_matcher.proofs.lemmas.reading.WayLemmas.{modes_are_inexact}
use Rattle.glob_matcher.proofs.laws.readings.star_tokens_are_as_many_in_each_mode.Goals as goal

pub returns : goal.returns
returns c = λ mode other p ts us x y.
    star_count_alike (way_of mode) (way_of other) (modes_are_inexact mode ∙ sym (modes_are_inexact other)) p 0 ts us x y
