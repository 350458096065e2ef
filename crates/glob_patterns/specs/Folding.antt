-- Texts after folding, where the mode asks for it.
use Rattle.std.specs.Prelude.{ℕ, List, map}
use Rattle.glob_matcher.specs.declared.wildmatch.way.Way.{Way}
use Rattle.glob_matcher.specs.Bytes.{fold}

-- the bytes of a text after folding
abbrev pub folding_of : Way → List ℕ → List ℕ
folding_of way text = map (fold way) text
