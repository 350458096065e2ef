-- The token that holds such a byte is that byte alone.
use Rattle.glob_patterns.proofs.lemmas.FrontEnds.{front_bytes}
use Rattle.glob_patterns.proofs.lemmas.LiteralBytes.{literal_bytes}
use Rattle.glob_patterns.proofs.laws.patterns.matched_values_have_the_literal_bytes.Goals as goal

pub returns-clause-whole : goal.returns-clause-whole
returns-clause-whole c = λ text value mode i b clean h plain s. literal_bytes text value mode i b clean h plain s

pub returns-clause-parted : goal.returns-clause-parted
returns-clause-parted c = front_bytes
