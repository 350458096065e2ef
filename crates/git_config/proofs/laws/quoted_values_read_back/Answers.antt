use Rattle.git_config.proofs.lemmas.QuoteLemmas.{quoted-reads}
use Rattle.git_config.proofs.laws.quoted_values_read_back.Goals as goal

pub returns : goal.returns
returns c = λ name value text line whole. quoted-reads name line value text whole
