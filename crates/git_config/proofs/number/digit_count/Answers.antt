use Rattle.std.proofs.Common.{ℕ, not, sym, ◌∙◌}
use Rattle.std.specs.Char.{is_digit}
use Rattle.git_config.proofs.lemmas.PlaceLemmas.{position-None}
use Rattle.git_config.proofs.number.digit_count.Goals as goal

pub returns-in-None : goal.returns-in-None
returns-in-None c = sym (position-None (λ (b : ℕ). not (is_digit b c.args.base)) c.args.text.now (sym c.first_other.ensures ∙ c.in-None.is))
