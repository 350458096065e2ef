-- Texts that front and rest match as the whole text does.
use Rattle.std.specs.Prelude.{◌≡◌, ◌⊎◌, ℕ, ◌+◌, ◌-◌, List, Some}
use Rattle.glob_matcher.specs.Bytes.{HasByte, slash, star}
use Rattle.glob_patterns.specs.Patterns.{first_special}

-- two stars directly behind the front stand at the text's start, or behind a slash
abbrev pub StarsAreApart : List ℕ → Type 0
StarsAreApart text =
    (n : ℕ) → first_special text ≡ Some n → HasByte text n star → HasByte text (n + 1) star → (n ≡ 0) ⊎ HasByte text (n - 1) slash
