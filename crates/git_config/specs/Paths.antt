-- The path that a value says.
use Rattle.std.specs.Prelude.{ℕ, Bool, ◌==◌, nat_eq, if◌then◌else◌, List, drop, length, codes}
use Rattle.std.specs.List.{before_first, starts_with}
use Rattle.std.specs.Str.{byte}
use Rattle.git_config.specs.declared.path.ConfigPath.{ConfigPath}
use Rattle.git_config.specs.declared.path.ConfigPath.TheVariants.{Home, Installed, Plain, User}

abbrev pub is_slash : ℕ → Bool
is_slash b = b == byte "/"

-- `%(prefix)/` in front is the folder that Git is installed in; `~` is the home folder, and with a name behind it this user's; what
-- follows them is left. Another path is as it stands.
abbrev pub path_of : List ℕ → ConfigPath (List ℕ)
path_of value =
    let name = before_first is_slash (drop 1 value) in
    if starts_with nat_eq value (codes "%(prefix)/") then Installed (drop 10 value)
    else (if starts_with nat_eq value (codes "~")
    then (if length name == 0 then Home (drop 1 value) else User name (drop (length name) (drop 1 value)))
    else Plain value)

-- the same path with other bytes
abbrev pub path_with : {A B : Type 0} → (A → B) → ConfigPath A → ConfigPath B
path_with see (Plain path) = Plain (see path)
path_with see (Installed rest) = Installed (see rest)
path_with see (Home rest) = Home (see rest)
path_with see (User name rest) = User (see name) (see rest)
