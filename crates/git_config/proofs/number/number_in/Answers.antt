use Rattle.std.proofs.Common.{ℕ, not, arith}
use Rattle.std.specs.Char.{is_digit}
use Rattle.git_config.proofs.lemmas.PlaceLemmas.{place-le}
use Rattle.git_config.proofs.number.number_in.Goals as goal

pub split_at-requires : goal.split_at-requires
split_at-requires c = omega (arith, place-le (λ (b : ℕ). not (is_digit b c.args.base)) c.args.text.now, c.digit_count-count.ensures)
