-- How many steps and looks asking a pattern takes at most, p and v being the lengths of its text and of the value. Its shortcuts
-- compare the text with the value, and look for a slash in the value or for two stars in the text, before the matcher is asked: each
-- byte of the value is tested twice at most. Or they look for the text's literal at each place of the value, and the matcher isn't
-- asked.
use Rattle.std.specs.Prelude.{ℕ, ◌+◌, ◌*◌}
use Rattle.glob_matcher.specs.Steps.{step_limit}

abbrev pub pattern_step_limit : ℕ → ℕ → ℕ
pattern_step_limit p v = step_limit p v + 2 * v

abbrev pub pattern_look_limit : ℕ → ℕ → ℕ
pattern_look_limit p v = 10 * (p + 1) * (v + 1)
