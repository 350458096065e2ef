-- What a configuration of several files and words says: its entries, in order.
use Rattle.std.specs.Prelude.{◌≡◌, ◌⊎◌, ℕ, zero, suc, ◌+◌, Bool, List, [], ◌∷◌, ◌++◌, filter, option_map, Option, Some, None, Result, Ok, Err, MatchOption, MatchResult, Vec}
use Rattle.std.specs.Borrow.{Bor}
use Rattle.std.specs.Option.{option_copied}
use Rattle.std.specs.Str.{bytes_eq}
use Rattle.std.specs.Vec.{vec_items}
use Rattle.std.specs.declared.alloc.Global.{Global}
use Rattle.std.specs.declared.rc.Rc.{Rc}
use Rattle.git_config.specs.declared.sources.Source.{Source}
use Rattle.git_config.specs.declared.sources.Source.TheVariants.{File, Word}
use Rattle.git_config.specs.declared.files.FoundFile.{FoundFile}
use Rattle.git_config.specs.declared.fault.Wrong.{Wrong}
use Rattle.git_config.specs.declared.item.Item.{Item}
use Rattle.git_config.specs.declared.item.Item.TheVariants.{Section, Sets}
use Rattle.git_config.specs.declared.setting.Setting.{Setting}
use Rattle.git_config.specs.declared.setting.SettingFault.{SettingFault}
use Rattle.git_config.specs.declared.setting.WrongSetting.{WrongSetting}
use Rattle.git_config.specs.declared.setting.WrongSetting.TheVariants.{Key, Text, TooDeep}
use Rattle.git_config.specs.declared.surroundings.Surroundings.{Surroundings}
use Rattle.git_config.specs.Grammar.{before_zero, items_of}
use Rattle.git_config.specs.Includes.{Includes, included_path}
use Rattle.git_config.specs.Items.{entry_with}
use Rattle.git_config.specs.Numbers.{boolean_of}
use Rattle.git_config.specs.Words.{canonical_of}

-- what is seen of the code's values
abbrev pub Seen : Type 0
Seen = Setting (List ℕ)

abbrev pub seen_setting : Setting (Bor (List ℕ)) → Seen
seen_setting s = record { file = option_copied s.file; section = s.section.now; entry = entry_with (λ bytes. bytes.now) s.entry }

abbrev pub seen_fault : SettingFault (Rc (Vec ℕ Global) Global) (Vec ℕ Global) → SettingFault (List ℕ) (List ℕ)
seen_fault fault = record { file = option_map (λ path. path.value.items) fault.file; line = fault.line; what = fault.what; path = option_map vec_items fault.path }

abbrev pub key_of : Seen → List ℕ
key_of s = before_zero (s.section ++ s.entry.name)

-- What a part of a configuration comes to: its entries, or its first fault.
abbrev pub Outcome : Type 0
Outcome = Result (List Seen) (SettingFault (List ℕ) (List ℕ))

-- one part, and another one behind it
abbrev pub Then : (Outcome → Type 0) → (Outcome → Type 0) → Outcome → Type 0
Then First Next (Ok settings) = (a b : List Seen) × (settings ≡ a ++ b) × First (Ok a) × Next (Ok b)
Then First Next (Err fault) = First (Err fault) ⊎ ((a : List Seen) × First (Ok a) × Next (Err fault))

-- what is wrong with an entry, and the path that is
abbrev pub wrong_at : Seen → WrongSetting → Option (List ℕ) → Outcome
wrong_at s what path = Err (record { file = s.file; line = s.entry.line; what = what; path = path })

-- what a file comes to that an entry includes by a path
abbrev pub Deep : Type 1
Deep = Seen → List ℕ → FoundFile (List ℕ) → Outcome → Type 0

-- of a source that shows these files
module _ (Shows : List ℕ → Option (FoundFile (List ℕ)) → Type 0) (around : Surroundings) where
  -- the file at a path, or nothing where none is there
  abbrev pub FromPath : (FoundFile (List ℕ) → Outcome → Type 0) → List ℕ → Outcome → Type 0
  FromPath Reads path out = (found : Option (FoundFile (List ℕ))) × Shows path found × MatchOption found (out ≡ Ok []) (λ file. Reads file out)

  -- what an entry includes, in a file of this real path
  abbrev pub FromInclude : Deep → Option (List ℕ) → Seen → Outcome → Type 0
  FromInclude Deeper real s out =
      ((¬ Includes around real (key_of s)) × (out ≡ Ok []))
      ⊎ (Includes around real (key_of s) × MatchResult (included_path around s.file s.entry.value) (λ path. FromPath (Deeper s path) path out) (λ what. out ≡ wrong_at s what None))

  abbrev pub FromEntry : Deep → Option (List ℕ) → Seen → Outcome → Type 0
  FromEntry Deeper real s out = Then (λ first. first ≡ Ok (s ∷ [])) (FromInclude Deeper real s) out

  -- items of a file of this path and real path, from this section on, and the fault behind them
  abbrev pub FromItems : Deep → List ℕ → List ℕ → List ℕ → List (Item (List ℕ)) → Option (ℕ × Wrong) → Outcome → Type 0
  FromItems Deeper path real section [] None out = out ≡ Ok []
  FromItems Deeper path real section [] (Some at) out = out ≡ Err (record { file = Some path; line = at.0; what = Text at.1; path = None })
  FromItems Deeper path real section (Section next ∷ items) fault out = FromItems Deeper path real next items fault out
  FromItems Deeper path real section (Sets entry ∷ items) fault out =
      Then (FromEntry Deeper (Some real) (record { file = Some path; section = section; entry = entry })) (FromItems Deeper path real section items fault) out

  abbrev pub FromFile : Deep → List ℕ → FoundFile (List ℕ) → Outcome → Type 0
  FromFile Deeper path found out = FromItems Deeper path found.real_path [] (items_of found.bytes).0 (items_of found.bytes).1 out

  -- where files may be included so many files deep
  unfoldable pub Within : ℕ → Deep
  Within zero s path found out = out ≡ wrong_at s TooDeep (Some path)
  Within (suc n) s path found out = FromFile (Within n) path found out

  -- one source at this place among all, and all of them
  abbrev pub FromSource : ℕ → Source → Outcome → Type 0
  FromSource n (File path) out = FromPath (FromFile (Within 10) path.now) path.now out
  FromSource n (Word key value) out =
      MatchOption (canonical_of key.now) (out ≡ Err (record { file = None; line = n; what = Key; path = None }))
      (λ name. FromEntry (Within 10) None (record { file = None; section = []; entry = record { name = name; value = option_copied value; line = n } }) out)

  abbrev pub FromSources : ℕ → List Source → Outcome → Type 0
  FromSources n [] out = out ≡ Ok []
  FromSources n (source ∷ sources) out = Then (FromSource n source) (FromSources (n + 1) sources) out

-- the entries of a key
abbrev pub settings_of : List ℕ → List Seen → List Seen
settings_of key settings = filter (λ s. bytes_eq (key_of s) key) settings

-- the boolean of the last entry, or the first whose value is none
abbrev pub last_said : Option Bool → List Seen → Result (Option Bool) Seen
last_said last [] = Ok last
last_said last (s ∷ settings) = elim (boolean_of s.entry.value) [ None ↦ Err s | Some b ↦ last_said (Some b) settings ]
