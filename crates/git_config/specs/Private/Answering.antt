-- An answer that is written in parts, and the last entry of a key.
use Rattle.std.specs.Prelude.{◌≡◌, ◌<◌, ℕ, ◌++◌, List, [], ◌∷◌, drop, if◌then◌else◌, length}
use Rattle.std.specs.List.{flat_map}
use Rattle.std.specs.Str.{bytes_eq}
use Rattle.git_config.specs.Answers.{Asked, All, Last, Values}
use Rattle.git_config.specs.Configuration.{Seen, key_of, settings_of}
use Rattle.git_config.specs.Shown.{entry_shown, value_shown}
use Rattle.git_config.specs.declared.origin.Manner.{Manner}

-- an entry as it is shown where it is asked for
abbrev pub shown_if : Manner → Asked → Seen → List ℕ
shown_if manner All s = entry_shown manner s
shown_if manner (Values key) s = if bytes_eq (key_of s) key then value_shown manner s else []
shown_if manner (Last key) s = if bytes_eq (key_of s) key then value_shown manner s else []

abbrev pub shown_from : Manner → Asked → List Seen → List ℕ
shown_from manner asked settings = flat_map (shown_if manner asked) settings

-- the last entry of a key stands at this place
pub record IsLast (key : List ℕ) (settings : List Seen) (place : ℕ) : Type 0 where
  pub front : List Seen
  pub last : Seen
  pub rest : List Seen
  pub within : place < length settings
  pub at : drop place settings ≡ last ∷ rest
  pub only : settings_of key (drop place settings) ≡ last ∷ []
  pub all : settings_of key settings ≡ front ++ last ∷ []
