-- How an entry of a configuration is shown.
use Rattle.std.specs.Prelude.{ℕ, Bool, if◌then◌else◌, List, [], ◌∷◌, ◌++◌, codes, Option, Some, None}
use Rattle.std.specs.Str.{byte}
use Rattle.git_config.specs.Configuration.{Seen, key_of}
use Rattle.git_paths.specs.declared.quoting.Quoting.TheVariants.{Full}
use Rattle.git_paths.specs.Quoting.{quoted}
use Rattle.git_config.specs.declared.origin.Manner.{Manner}

-- what it was read from: a file, whose name is in quotes where that is usual; or a word of the command line or of the environment
abbrev pub origin_of : Bool → Option (List ℕ) → List ℕ
origin_of nul None = codes "command line:"
origin_of nul (Some file) = codes "file:" ++ (if nul then file else quoted Full file)

-- the same with a NUL or a tab behind it, where it is shown
abbrev pub front_of : Manner → Seen → List ℕ
front_of manner s = if manner.origin then origin_of manner.nul s.file ++ (if manner.nul then 0 else 9) ∷ [] else []

-- what ends all that is shown of it: a NUL or a line feed
abbrev pub end_of : Bool → ℕ
end_of nul = if nul then 0 else 10

-- what follows its key: nothing where it has no value, which is another thing than an empty one
abbrev pub behind_key : Bool → Option (List ℕ) → List ℕ
behind_key nul None = []
behind_key nul (Some value) = (if nul then 10 else byte "=") ∷ value

-- its value: one that is missing is shown as an empty one
abbrev pub value_of : Option (List ℕ) → List ℕ
value_of None = []
value_of (Some value) = value

-- the entry in a list, and its value alone
abbrev pub entry_shown : Manner → Seen → List ℕ
entry_shown manner s = front_of manner s ++ (key_of s ++ (behind_key manner.nul s.entry.value ++ end_of manner.nul ∷ []))

abbrev pub value_shown : Manner → Seen → List ℕ
value_shown manner s = front_of manner s ++ (value_of s.entry.value ++ end_of manner.nul ∷ [])
