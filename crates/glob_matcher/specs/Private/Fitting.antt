-- What a star token takes of the value: the stretch that it spans.
use Rattle.std.specs.Prelude.{◌≡◌, ◌⊎◌, ℕ, ◌-◌, ◌<◌, ◌≤◌, ⊤, List, length, slice_index}
use Rattle.glob_matcher.specs.declared.wildmatch.tokens.TokenKind.{TokenKind}
use Rattle.glob_matcher.specs.declared.wildmatch.tokens.TokenKind.TheVariants as kind
use Rattle.glob_matcher.specs.Bytes.{NoSlash, slash}

-- place e lies past k and comes directly after a slash
pub record AfterSlash (value : List ℕ) (k e : ℕ) : Type 0 where
  pub past : k < e
  pub inside : e ≤ length value
  pub slash : slice_index value (e - 1) ≡ slash

-- a star token of this kind takes the value's bytes from place k up to place e
abbrev pub Spans : TokenKind → List ℕ → ℕ → ℕ → Type 0
Spans kind.Free value k e = ⊤
Spans kind.Local value k e = NoSlash value k e
Spans kind.Dirs value k e = (e ≡ k) ⊎ AfterSlash value k e
Spans _ value k e = ⊥
