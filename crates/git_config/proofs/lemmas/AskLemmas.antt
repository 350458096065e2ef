-- What an entry asks for.
use Rattle.std.proofs.Common.{◌≡◌, ℕ, Bool, true, List, Option, None, Some, Result, Ok, Err, sym, subst, ◌∙◌}
use Rattle.std.specs.Prelude.{◌↔◌, IfOk, IsTrue}
use Rattle.std.specs.declared.alloc.AllocError.{AllocError}
use Rattle.git_config.specs.declared.includes.Asked.{Asked}
use Rattle.git_config.specs.declared.includes.Asked.TheVariants as asked
use Rattle.git_config.specs.declared.setting.WrongSetting.{WrongSetting}
use Rattle.git_config.specs.declared.surroundings.Surroundings.{Surroundings}
use Rattle.git_config.specs.Configuration.{Seen, key_of}
use Rattle.git_config.specs.Includes.{Includes, included_path}
use Rattle.git_config.specs.Private.Settings.{Asks, path_asked}

pub included : (around : Surroundings) (real : Option (List ℕ)) (s : Seen) (so : Bool) (key : List ℕ) → so ≡ true → key_of s ≡ key → (IsTrue so ↔ Includes around real key) → Includes around real (key_of s)
included around real s so key h e i = subst (λ (l : List ℕ). Includes around real l) (sym e) (i.0 h)

pub asks_path : (around : Surroundings) (real : Option (List ℕ)) (s : Seen) (r : Result Asked AllocError) (told : Result (List ℕ) WrongSetting) → Includes around real (key_of s) → told ≡ included_path around s.file s.entry.value
    → IfOk r (λ asked. path_asked asked ≡ Some told) → IfOk r (λ asked. Asks around real s asked)
asks_path around real s (Ok asked.Nothing) told i e h = absurd (let none : ◌≡◌ {A = Option (Result (List ℕ) WrongSetting)} None (Some told) = h in cc)
asks_path around real s (Ok (asked.File path)) told i e h = let some : ◌≡◌ {A = Option (Result (List ℕ) WrongSetting)} (Some (Ok path.items)) (Some told) = h in (i, sym e ∙ cc)
asks_path around real s (Ok (asked.Wrong what)) told i e h = let some : ◌≡◌ {A = Option (Result (List ℕ) WrongSetting)} (Some (Err what)) (Some told) = h in (i, sym e ∙ cc)
asks_path around real s (Err fault) told i e h = tt
