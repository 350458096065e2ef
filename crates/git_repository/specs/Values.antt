-- What counts of a key.
use Rattle.std.specs.Prelude.{ℕ, Bool, List, map, Option, None, option_and_then, unwrap_or}
use Rattle.std.specs.List.{last_or}
use Rattle.git_config.specs.Configuration.{Seen, settings_of}
use Rattle.git_config.specs.Numbers.{boolean_of}

-- what counts of a key: the value of its last entry
abbrev pub last_value : List ℕ → List Seen → Option (Option (List ℕ))
last_value key settings = last_or None (map (λ s. s.entry.value) (settings_of key settings))

-- a boolean, or what it is by default
abbrev pub boolean_at : Bool → Option (Option (List ℕ)) → Bool
boolean_at default value = unwrap_or (option_and_then boolean_of value) default
