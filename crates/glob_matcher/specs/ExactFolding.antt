-- Exact folding, Git's own: what only it needs. No mode asks for it (`NoModeFoldsExactly`), so for modes `fold_inner` is `fold`, and
-- no byte is dead.
use Rattle.std.specs.Prelude.{◌≡◌, ℕ, Bool, false, true, ◌&&◌, if◌then◌else◌}
use Rattle.std.specs.Char.{is_ascii_uppercase}
use Rattle.glob_matcher.specs.declared.wildmatch.mode.Mode.{Mode}
use Rattle.glob_matcher.specs.declared.wildmatch.way.Folding.{Folding}
use Rattle.glob_matcher.specs.declared.wildmatch.way.Folding.TheVariants.{Off, Both, Exact}
use Rattle.glob_matcher.specs.declared.wildmatch.way.Way.{Way}
use Rattle.glob_matcher.specs.Bytes.{fold, folding}
use Rattle.glob_matcher.specs.Ways.{way_of}

-- whether only the value, and what stands for itself in the pattern, is folded
abbrev pub is_exact_one : Folding → Bool
is_exact_one Off = false
is_exact_one Both = false
is_exact_one Exact = true

abbrev pub is_exact : Way → Bool
is_exact way = is_exact_one (folding way)

-- an escaped byte, or one that a set has, after folding
abbrev pub fold_inner : Way → ℕ → ℕ
fold_inner way b = if is_exact way then b else fold way b

-- an escaped byte that matches nothing: a capital, where folding is exact
abbrev pub is_dead : Way → ℕ → Bool
is_dead way b = is_exact way && is_ascii_uppercase b

-- the law `modes_never_fold_exactly`
abbrev pub NoModeFoldsExactly : Type 0
NoModeFoldsExactly = (mode : Mode) → is_exact (way_of mode) ≡ false
