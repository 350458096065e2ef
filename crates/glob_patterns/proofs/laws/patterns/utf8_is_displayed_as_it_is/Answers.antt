-- What is displayed is the lossy text, and no byte of a UTF-8 text is lost.
use Rattle.std.proofs.Common.{◌∙◌}
use Rattle.std.proofs.lemmas.Str.{utf8_lossy-IsUtf8}
use Rattle.bstr.proofs.lemmas.LossyLemmas.{lossy_chars-utf8_lossy}
use Rattle.glob_patterns.proofs.laws.patterns.utf8_is_displayed_as_it_is.Goals as goal

pub returns : goal.returns
returns c = λ text utf8. lossy_chars-utf8_lossy text ∙ utf8_lossy-IsUtf8 text utf8
