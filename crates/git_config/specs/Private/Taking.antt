-- What one call of the reader leaves to the next.
use Rattle.std.specs.Prelude.{◌≡◌, ℕ, ◌<◌, List, ◌∷◌, [], ◌==◌, if◌then◌else◌, length, Option, Some, None, Result, Ok, Err}
use Rattle.git_config.specs.declared.fault.ConfigFault.{ConfigFault}
use Rattle.git_config.specs.declared.fault.ConfigFault.TheVariants.{Line, Memory}
use Rattle.git_config.specs.declared.fault.Wrong.TheVariants.{Mark}
use Rattle.git_config.specs.declared.item.Item.{Item}
use Rattle.git_config.specs.Grammar.{Place, Reading, Turn, before, fails, goes, line_behind, nothing, stop, text_of}

-- one byte of the text is taken off, and the line is that of what follows
pub record TakesByte (old new : List ℕ) (old_line new_line b : ℕ) : Type 0 where
  pub joined : text_of old ≡ b ∷ text_of new
  pub line : new_line ≡ line_behind old_line b
  pub fewer : length new < length old

-- nothing is left of the text, and the line is the same
pub record IsAtEnd (old new : List ℕ) (old_line new_line : ℕ) : Type 0 where
  pub was : old ≡ []
  pub is : new ≡ []
  pub line : new_line ≡ old_line

-- a fault is that of the whole reading, unless memory ran out
abbrev pub Fails : ConfigFault → Reading → Type 0
Fails Memory whole = Unit {0}
Fails (Line line what) whole = whole ≡ stop line what

-- Where a call returned a value, the whole reading is what `rest` says of that value, and else it fails with the call's fault.
abbrev pub Reads : {X : Type 0} → (X → Reading) → Result X ConfigFault → Reading → Type 0
Reads rest (Ok x) whole = whole ≡ rest x
Reads rest (Err fault) whole = Fails fault whole

-- a fault behind any items
abbrev pub FailsBehind : ConfigFault → Reading → Type 0
FailsBehind Memory whole = Unit {0}
FailsBehind (Line line what) whole = whole.1 ≡ Some (line, what)

-- the items that are left, behind one that was taken, where one was
abbrev pub before_some : Option (Item (List ℕ)) → Reading → Reading
before_some None rest = nothing
before_some (Some item) rest = before item rest

-- what a byte does where this one of a byte order mark is wanted
abbrev pub turn_mark : ℕ → ℕ → Place → ℕ → Turn
turn_mark line wanted next b = if b == wanted then goes next else fails Mark (line_behind line b)
