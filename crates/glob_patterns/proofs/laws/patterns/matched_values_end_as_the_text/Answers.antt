-- The pattern's tokens pass the start of the literal end, where an escape takes its first byte or none.
use Rattle.glob_patterns.proofs.lemmas.FrontEnds.{front_ends}
use Rattle.glob_patterns.proofs.lemmas.LiteralEnds.{literal_ends}
use Rattle.glob_patterns.proofs.laws.patterns.matched_values_end_as_the_text.Goals as goal

pub returns-clause-whole : goal.returns-clause-whole
returns-clause-whole c = λ front end value mode none. literal_ends front end value mode none

pub returns-clause-parted : goal.returns-clause-parted
returns-clause-parted c = front_ends
