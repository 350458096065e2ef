-- What the reader of a configuration says of its own values.
use Rattle.std.specs.Prelude.{◌≡◌, ℕ, ◌++◌, List, Option, Some, None, Result, Ok, Err, Vec}
use Rattle.std.specs.declared.alloc.Global.{Global}
use Rattle.std.specs.declared.rc.Rc.{Rc}
use Rattle.git_config.specs.declared.fault.ConfigFault.{ConfigFault}
use Rattle.git_config.specs.declared.fault.ConfigFault.TheVariants as config
use Rattle.git_config.specs.declared.includes.Asked.{Asked}
use Rattle.git_config.specs.declared.includes.Asked.TheVariants as asked
use Rattle.git_config.specs.declared.includes.ReadFault.{ReadFault}
use Rattle.git_config.specs.declared.includes.ReadFault.TheVariants as read
use Rattle.git_config.specs.declared.setting.SettingFault.{SettingFault}
use Rattle.git_config.specs.declared.setting.WrongSetting.{WrongSetting}
use Rattle.git_config.specs.declared.setting.WrongSetting.TheVariants.{Text}
use Rattle.git_config.specs.declared.surroundings.Surroundings.{Surroundings}
use Rattle.git_config.specs.Configuration.{Outcome, Seen, key_of, seen_fault}
use Rattle.git_config.specs.Includes.{Includes, included_path}

-- what an entry asks for: nothing, or the file at a path, or what can't be had
abbrev pub Asks : Surroundings → Option (List ℕ) → Seen → Asked → Type 0
Asks around real s asked.Nothing = ¬ Includes around real (key_of s)
Asks around real s (asked.File path) = Includes around real (key_of s) × (included_path around s.file s.entry.value ≡ Ok path.items)
Asks around real s (asked.Wrong what) = Includes around real (key_of s) × (included_path around s.file s.entry.value ≡ Err what)

-- the path that is asked for, or what is wrong
abbrev pub path_asked : Asked → Option (Result (List ℕ) WrongSetting)
path_asked asked.Nothing = None
path_asked (asked.File path) = Some (Ok path.items)
path_asked (asked.Wrong what) = Some (Err what)

abbrev pub fault_in : {F : Type 0} → ConfigFault → Rc (Vec ℕ Global) Global → ReadFault F
fault_in config.Memory path = read.Memory
fault_in (config.Line line what) path = read.Setting (record { file = Some path; line = line; what = Text what; path = None })

-- a fault tells this, unless memory was refused
abbrev pub Tells : {F : Type 0} → SettingFault (List ℕ) (List ℕ) → ReadFault F → Type 0
Tells told read.Memory = Unit {0}
Tells told (read.File _) = ⊥
Tells told (read.Setting fault) = seen_fault fault ≡ told

-- A call that adds entries to a list came to an outcome: it added them, or told the fault, unless memory or a file was refused.
abbrev pub Adds : {F : Type 0} → (Outcome → Type 0) → List Seen → List Seen → Result (Unit {0}) (ReadFault F) → Type 0
Adds R old new (Ok _) = (more : List Seen) × R (Ok more) × (new ≡ old ++ more)
Adds R old new (Err (read.Setting fault)) = R (Err (seen_fault fault))
Adds R old new (Err _) = Unit {0}

-- an outcome behind entries
abbrev pub put : List Seen → Outcome → Outcome
put settings (Ok more) = Ok (settings ++ more)
put settings (Err fault) = Err fault

-- What is left of a reading: entries came to the list, and what is left completes the whole behind them.
pub record Continues (Whole Rest : Outcome → Type 0) (old now : List Seen) : Type 0 where
  pub more : List Seen
  pub is : now ≡ old ++ more
  pub whole : (out : Outcome) → Rest out → Whole (put more out)
