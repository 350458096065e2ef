use Rattle.glob_attributes.proofs.lemmas.LawLemmas.{entries-left_out, macros-left_out}
use Rattle.glob_attributes.proofs.laws.silent_lines_may_be_left_out.Goals as goal

pub returns : goal.returns
returns c = record { entries = entries-left_out; macros = macros-left_out }
