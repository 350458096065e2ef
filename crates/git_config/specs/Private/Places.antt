-- Parts of paths and of patterns.
use Rattle.std.specs.Prelude.{ℕ, ◌-◌, ◌++◌, List, codes, if◌then◌else◌, length, not, option_map}
use Rattle.std.specs.List.{suffix_len}
use Rattle.std.specs.Option.{unwrap_or}
use Rattle.std.specs.Vec.{vec_items}
use Rattle.git_config.specs.declared.surroundings.Surroundings.{Surroundings}
use Rattle.git_config.specs.Includes.{expanded, is_absolute}
use Rattle.git_config.specs.Paths.{is_slash}

-- where the last part of a path begins
abbrev pub folder_end : List ℕ → ℕ
folder_end path = length path - suffix_len (λ b. not (is_slash b)) path

-- a pattern with the folder that it begins with
abbrev pub pattern_of : Surroundings → List ℕ → List ℕ
pattern_of around told = unwrap_or (expanded around (option_map vec_items around.real_home) told) told

-- a pattern that may stand anywhere, unless it is absolute
abbrev pub rooted : List ℕ → List ℕ
rooted pattern = if is_absolute pattern then pattern else codes "**/" ++ pattern
