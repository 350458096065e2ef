-- How many steps and looks a match takes at most, p and v being the lengths of the pattern and of the value. A step is one
-- token, or the pattern's end, tested at one place of the value, also where the value has ended, and where the token matches
-- nothing; one mark set; or one mark moved by one byte or found unable to move. A look reads at most one byte of the pattern or
-- of the value: it is counted also where the value has none there, and a comparison counts each byte that it may read.
use Rattle.std.specs.Prelude.{◌≡◌, ℕ, ◌+◌, ◌*◌, ◌<◌, ◌≤◌}
use Rattle.std.specs.declared.sync.ledger.Blank.{Blank}

-- what a match has taken so far
pub record Counts : Type 0 where
  pub steps : ℕ
  pub looks : ℕ

-- what was counted stays counted: no count falls
pub record NeverFall (before after : Counts) : Type 0 where
  pub steps : before.steps ≤ after.steps
  pub looks : before.looks ≤ after.looks

-- A blank that becomes the ledger of this name, of so many parts, one for the steps and one for the looks at least: a new count is
-- made of it.
pub record IsBlankOf (name parts : ℕ) (blank : Blank) : Type 0 where
  pub same_name : blank.name ≡ name
  pub same_parts : blank.parts ≡ parts
  pub both : 1 < blank.parts

-- how many steps a match takes at most, in each mode
abbrev pub step_limit : ℕ → ℕ → ℕ
step_limit p v = 2 * (p + 1) * (v + 1)

-- how many looks a match takes at most, in each mode
abbrev pub look_limit : ℕ → ℕ → ℕ
look_limit p v = 8 * (p + 1) * (v + 1)
