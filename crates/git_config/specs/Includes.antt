-- Which file an entry includes.
use Rattle.std.specs.Prelude.{◌≡◌, ◌⊎◌, ℕ, ◌-◌, Bool, true, false, not, nat_eq, if◌then◌else◌, List, [], ◌++◌, take, drop, length, slice_get, option_map, find, Option, Some, None, Result, Ok, Err, Any, IsSomeAnd, IsTrue, MatchOption, codes}
use Rattle.std.specs.List.{ends_with, starts_with, suffix_len}
use Rattle.std.specs.Option.{unwrap_or}
use Rattle.std.specs.Str.{bytes_eq}
use Rattle.std.specs.Vec.{vec_items}
use Rattle.glob_matcher.specs.declared.wildmatch.way.Way.TheVariants.{ExactPath, Path}
use Rattle.glob_matcher.specs.Matching.{SplitsBy}
use Rattle.git_config.specs.declared.path.ConfigPath.TheVariants.{Home, Installed, Plain, User}
use Rattle.git_config.specs.declared.setting.WrongSetting.{WrongSetting}
use Rattle.git_config.specs.declared.setting.WrongSetting.TheVariants.{NoFolder, NoPath, Relative}
use Rattle.git_config.specs.declared.surroundings.Surroundings.{Surroundings}
use Rattle.git_config.specs.declared.surroundings.UserFolder.{UserFolder}
use Rattle.git_config.specs.Numbers.{same_letters}
use Rattle.git_config.specs.Paths.{is_slash, path_of}

-- ---- paths

abbrev pub is_absolute : List ℕ → Bool
is_absolute path = starts_with nat_eq path (codes "/")

-- a path up to its last slash
abbrev pub folder_of : List ℕ → List ℕ
folder_of path = take (length path - suffix_len (λ b. not (is_slash b)) path) path

abbrev pub user_folder : List UserFolder → List ℕ → Option (List ℕ)
user_folder users name = option_map (λ user. user.folder.items) (find (λ user. bytes_eq user.name.items name) users)

-- the path that a value says, where the folder is known that it begins with
abbrev pub expanded : Surroundings → Option (List ℕ) → List ℕ → Option (List ℕ)
expanded around home value = elim (path_of value) [
  | Plain path ↦ Some path
  | Installed path ↦ if is_absolute path then Some path else option_map (λ folder. (folder.items ++ codes "/") ++ path) around.installed
  | Home rest ↦ option_map (λ folder. folder ++ rest) home
  | User name rest ↦ option_map (λ folder. folder ++ rest) (user_folder around.users.items name)
]

-- The path that an include of this value says in a file: one that isn't absolute is told from the file's folder. Or what is wrong.
abbrev pub told_in : Option (List ℕ) → Option (List ℕ) → Result (List ℕ) WrongSetting
told_in file None = Err NoFolder
told_in file (Some path) = if is_absolute path then Ok path else elim file [ None ↦ Err Relative | Some name ↦ Ok (folder_of name ++ path) ]

abbrev pub included_path : Surroundings → Option (List ℕ) → Option (List ℕ) → Result (List ℕ) WrongSetting
included_path around file None = Err NoPath
included_path around file (Some value) = told_in file (expanded around (option_map vec_items around.home) value)

-- ---- conditions

-- a pattern that ends in a slash matches what is below
abbrev pub below : List ℕ → List ℕ
below pattern = if ends_with nat_eq pattern (codes "/") then pattern ++ codes "**" else pattern

-- What the git folder's path begins with as it stands, and the pattern of the rest: `./` in front is the folder of the file, whose real
-- path this is, and what isn't absolute may stand anywhere.
abbrev pub folder_pattern : Surroundings → Option (List ℕ) → List ℕ → Option (List ℕ × List ℕ)
folder_pattern around real told =
    let pattern = unwrap_or (expanded around (option_map vec_items around.real_home) told) told in
    if starts_with nat_eq pattern (codes "./") then option_map (λ path. (folder_of path, drop 1 (below (drop 1 pattern)))) real
    else Some ([], below (if is_absolute pattern then pattern else codes "**/" ++ pattern))

abbrev pub HasFront : Bool → List ℕ → List ℕ → Type 0
HasFront fold front path = IsTrue (if fold then same_letters (take (length front) path) front else bytes_eq (take (length front) path) front)

abbrev pub MatchesFolder : Bool → List ℕ × List ℕ → List ℕ → Type 0
MatchesFolder fold split path = HasFront fold split.0 path × SplitsBy (drop (length split.0) path) split.1 (if fold then ExactPath else Path)

-- A path of the git folder matches. The first, which has no links, has to begin so in any case.
abbrev pub InFolder : Surroundings → Option (List ℕ) → Bool → List ℕ → Type 0
InFolder around real fold told = IsSomeAnd (folder_pattern around real told) (λ split.
    IsSomeAnd (slice_get around.git_folders.items 0) (λ first. HasFront fold split.0 first.items) × Any (λ path. MatchesFolder fold split path.items) around.git_folders.items)

-- a URL of a remote; each, where they aren't known yet
abbrev pub HasUrl : Surroundings → List ℕ → Type 0
HasUrl around told = MatchOption around.urls (Unit {0}) (λ urls. Any (λ url. SplitsBy url.items told Path) urls.items)

abbrev pub Holds : Surroundings → Option (List ℕ) → List ℕ → Type 0
Holds around real condition =
    (told : List ℕ) × (((condition ≡ codes "gitdir:" ++ told) × InFolder around real false told)
    ⊎ (((condition ≡ codes "gitdir/i:" ++ told) × InFolder around real true told)
    ⊎ (((condition ≡ codes "onbranch:" ++ told) × IsSomeAnd around.branch (λ name. SplitsBy name.items (below told) Path))
    ⊎ ((condition ≡ codes "hasconfig:remote.*.url:" ++ told) × HasUrl around told))))

-- the key of an entry that includes a file
abbrev pub Includes : Surroundings → Option (List ℕ) → List ℕ → Type 0
Includes around real key =
    (key ≡ codes "include.path") ⊎ ((condition : List ℕ) × (key ≡ codes "includeif." ++ (condition ++ codes ".path")) × Holds around real condition)
