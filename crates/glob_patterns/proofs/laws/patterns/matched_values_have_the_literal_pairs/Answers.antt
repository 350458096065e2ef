-- Each of the two bytes is a token of its own.
use Rattle.glob_patterns.proofs.lemmas.FrontEnds.{front_pairs}
use Rattle.glob_patterns.proofs.lemmas.LiteralBytes.{literal_pairs}
use Rattle.glob_patterns.proofs.laws.patterns.matched_values_have_the_literal_pairs.Goals as goal

pub returns-clause-whole : goal.returns-clause-whole
returns-clause-whole c = λ text value mode i a b clean here next plain plain' s. literal_pairs text value mode i a b clean here next plain plain' s

pub returns-clause-parted : goal.returns-clause-parted
returns-clause-parted c = front_pairs
