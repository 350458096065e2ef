use Rattle.tree_answers.proofs.lemmas.QuotedLemmas.{plain_is_not_read, quoted_is_read}
use Rattle.tree_answers.proofs.laws.quoted_names_read_back.Goals as goal

pub returns-clause-quoted : goal.returns-clause-quoted
returns-clause-quoted c = quoted_is_read

pub returns-clause-plain : goal.returns-clause-plain
returns-clause-plain c = plain_is_not_read
