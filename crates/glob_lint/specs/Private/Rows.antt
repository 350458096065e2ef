-- A line as one row of tokens: which texts the tokens that are left match, and what the next one takes of them.
use Rattle.std.specs.Prelude.{◌≡◌, ℕ, ◌+◌, ◌-◌, ◌<◌, ◌≤◌, Bool, if◌then◌else◌, List, [], ◌∷◌, ◌++◌, length, map}
use Rattle.glob_matcher.specs.declared.wildmatch.tokens.TokenKind.{TokenKind}
use Rattle.glob_matcher.specs.declared.wildmatch.tokens.TokenKind.TheVariants.{Set}
use Rattle.glob_matcher.specs.declared.wildmatch.way.Way.{Way}
use Rattle.glob_matcher.specs.Bytes.{HasByte}
use Rattle.glob_matcher.specs.Matching.{IsCut, Lang}
use Rattle.glob_matcher.specs.Tokens.{Byte, Dirs, From, Token, TokenAt, kind_of}
use Rattle.glob_lint.specs.declared.tokens.LineTokens.{LineTokens}

-- bytes that stand for themselves, then folders of any name or none, then the tokens of a text from a place on
pub record Row : Type 0 where
  pub bytes : List ℕ
  pub any_folder : Bool
  pub text : List ℕ
  pub place : ℕ

abbrev pub row_of : LineTokens → Row
row_of tokens = record { bytes = tokens.base.now ++ tokens.front.now; any_folder = tokens.any_folder; text = tokens.text.now; place = tokens.place }

-- the tokens in front of those of the text
abbrev pub in_front : List ℕ → Bool → List Token → List Token
in_front bytes any_folder tokens = map (λ b. Byte b) bytes ++ ((if any_folder then Dirs ∷ [] else []) ++ tokens)

-- the row matches the value: it is cut by the tokens
pub record IsCutBy (way : Way) (row : Row) (value : List ℕ) : Type 0 where
  pub tokens : List Token
  pub read : From way row.text row.place tokens
  pub cut : IsCut way (in_front row.bytes row.any_folder tokens) value

-- nothing is left of the row
pub record IsEnd (way : Way) (row : Row) : Type 0 where
  pub out : (value : List ℕ) → IsCutBy way row value → value ≡ []
  pub back : IsCutBy way row []
  pub at_end : row.place ≡ length row.text

-- what a value that the row matches is made of: a piece for the token, and what the row behind it matches
pub record IsPartedBy (way : Way) (token : Token) (after : Row) (value : List ℕ) : Type 0 where
  pub piece : List ℕ
  pub rest : List ℕ
  pub joined : value ≡ piece ++ rest
  pub takes : Lang way token piece
  pub later : IsCutBy way after rest

-- how many tokens are left at most
abbrev pub size : Row → ℕ
size row = length row.bytes + (if row.any_folder then 1 else 0) + (length row.text - row.place)

-- the next token of the row is of this kind, and this row is behind it
pub record IsNext (way : Way) (row : Row) (kind : TokenKind) (after : Row) : Type 0 where
  pub token : Token
  pub same_kind : kind ≡ kind_of token
  pub out : (value : List ℕ) → IsCutBy way row value → IsPartedBy way token after value
  pub back : (value : List ℕ) → IsPartedBy way token after value → IsCutBy way row value
  pub set : kind ≡ Set → (row.place < length row.text) × (end : ℕ) × TokenAt way row.text row.place token end
  pub less : size after < size row
  pub same_text : after.text ≡ row.text
  pub inside : row.place ≤ length row.text → after.place ≤ length row.text
  pub low : row.place ≤ after.place
  pub bare : (b : ℕ) → kind ≡ kind_of (Byte b) → after.place ≡ row.place + 1 → HasByte row.text row.place b
