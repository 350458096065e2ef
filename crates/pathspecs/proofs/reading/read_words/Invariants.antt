use Rattle.std.proofs.Common.{◌≡◌, Some, map, take}
use Rattle.pathspecs.specs.Reading.{item_of}
use Rattle.pathspecs.proofs.reading.read_words.Given as goal

-- the first words were read
abbrev pub invariant-words : goal.invariant-words
invariant-words l = map (item_of l.standpoint l.settings) (map (λ word. word.now) (take l.word-index l.words)) ≡ map Some l.elements.items
