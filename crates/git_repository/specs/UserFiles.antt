-- Where the files of a user's settings lie.
use Rattle.std.specs.Prelude.{ℕ, not, nat_eq, if◌then◌else◌, List, [], ◌∷◌, ◌++◌, drop, codes, Option, Some, None, option_map}
use Rattle.std.specs.List.{position_or_len, starts_with}
use Rattle.git_config.specs.Paths.{is_slash}

-- what follows the home folder
abbrev pub below_home : Option (List ℕ) → List ℕ → Option (List ℕ)
below_home home rest = option_map (λ folder. folder ++ rest) home

-- the folder of the settings: that of XDG_CONFIG_HOME, or `.config` in the home folder where this is empty or missing
abbrev pub settings_folder : Option (List ℕ) → Option (List ℕ) → Option (List ℕ)
settings_folder None home = below_home home (codes "/.config")
settings_folder (Some []) home = below_home home (codes "/.config")
settings_folder (Some (b ∷ folder)) home = Some (b ∷ folder)

-- a path without the current folder in front: `./`, and the slashes behind it
abbrev pub without_dot : List ℕ → List ℕ
without_dot path = if starts_with nat_eq path (codes "./") then drop (position_or_len (λ b. not (is_slash b)) (drop 2 path)) (drop 2 path) else path

-- a file of the settings
abbrev pub settings_file : Option (List ℕ) → Option (List ℕ) → List ℕ → Option (List ℕ)
settings_file config_home home name = option_map (λ folder. without_dot ((folder ++ codes "/git/") ++ name)) (settings_folder config_home home)
