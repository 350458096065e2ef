-- What the readers of the pattern say of a place to one another: which byte stands there, a sign, or a slash beside it.
use Rattle.std.specs.Prelude.{◌≡◌, ◌⊎◌, ℕ, ◌-◌, List, length}
use Rattle.std.specs.Str.{byte}
use Rattle.glob_matcher.specs.Bytes.{HasByte, IsEscaped, slash}

-- bytes with a meaning of their own
abbrev pub question_mark : ℕ
question_mark = byte "?"

abbrev pub close_bracket : ℕ
close_bracket = byte "]"

abbrev pub dash : ℕ
dash = byte "-"

abbrev pub colon : ℕ
colon = byte ":"

abbrev pub exclamation_mark : ℕ
exclamation_mark = byte "!"

abbrev pub caret : ℕ
caret = byte "^"

-- a sign that negates a set stands at place i
abbrev pub IsSign : List ℕ → ℕ → Type 0
IsSign text i = HasByte text i exclamation_mark ⊎ HasByte text i caret

-- place i is the pattern's start, or comes directly after a slash
abbrev pub IsAfterSlash : List ℕ → ℕ → Type 0
IsAfterSlash pattern i = (i ≡ 0) ⊎ HasByte pattern (i - 1) slash

-- place j is the pattern's end, or has a slash, bare or escaped
abbrev pub IsBeforeSlash : List ℕ → ℕ → Type 0
IsBeforeSlash pattern j = (j ≡ length pattern) ⊎ (HasByte pattern j slash ⊎ IsEscaped pattern j slash)
