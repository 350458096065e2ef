-- The name is a part of the head.
use Rattle.glob_attributes.proofs.lemmas.PartLemmas.{part_of_part}
use Rattle.glob_attributes.proofs.borrowed.line.macro_parts.Goals as goal

pub returns-clause-lies : goal.returns-clause-lies
returns-clause-lies c = λ bytes line head words. (part_of_part _ c.args.head bytes c.macro_name-name.ensures.place head, words)
