-- Components of a value, as the engine with two marks sees them: where one ends, and where the next begins. In plain mode each
-- byte is a component of its own.
use Rattle.std.specs.Prelude.{ℕ, suc, ◌+◌, Bool, true, false, not, ◌==◌, List, [], ◌∷◌, drop, if◌then◌else◌}
use Rattle.glob_matcher.specs.declared.wildmatch.way.Way.{Way}
use Rattle.glob_matcher.specs.Bytes.{is_path, slash}
use Rattle.glob_matcher.specs.Tokens.{Token, Byte, Any, OneOf}

-- a byte ends a component: in path mode a slash, in plain mode each byte
abbrev pub ends_by : Bool → ℕ → Bool
ends_by true b = b == slash
ends_by false b = true

abbrev pub ends : Way → ℕ → Bool
ends way b = ends_by (is_path way) b

-- a token takes what ends a component: in path mode a slash, in plain mode each token of one byte
abbrev pub separates_by : Bool → Token → Bool
separates_by path (Byte b) = ends_by path b
separates_by path Any = not path
separates_by path (OneOf s) = not path
separates_by path _ = false

abbrev pub separates : Way → Token → Bool
separates way t = separates_by (is_path way) t

-- how many places on the next component begins
unfoldable pub reach : Way → List ℕ → ℕ
reach way [] = 1
reach way (b ∷ bs) = if ends way b then 1 else suc (reach way bs)

-- the place where the next component begins, or the place past the value's end
unfoldable pub next_component : Way → List ℕ → ℕ → ℕ
next_component way v k = k + reach way (drop k v)
