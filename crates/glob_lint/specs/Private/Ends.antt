-- The bytes in which what a row of tokens matches ends.
use Rattle.std.specs.Prelude.{◌≡◌, ℕ, ◌+◌, ◌-◌, ◌<◌, ◌≤◌, List, ◌++◌, length, drop, slice_index, take}
use Rattle.glob_matcher.specs.declared.wildmatch.tokens.TokenKind.{TokenKind}
use Rattle.glob_matcher.specs.declared.wildmatch.tokens.TokenKind.TheVariants.{Byte}
use Rattle.glob_matcher.specs.declared.wildmatch.way.Way.{Way}
use Rattle.glob_matcher.specs.Bytes.{fold}
use Rattle.glob_patterns.specs.Folding.{folding_of}
use Rattle.glob_lint.specs.Private.Rows.{IsCutBy, Row}

-- the value ends in bytes that are alike to the text
pub record HasEnd (way : Way) (text value : List ℕ) : Type 0 where
  pub front : List ℕ
  pub end : List ℕ
  pub joined : value ≡ front ++ end
  pub alike : folding_of way end ≡ folding_of way text

-- each value that the row matches does
pub record EndsIn (way : Way) (row : Row) (text : List ℕ) : Type 0 where
  pub at : (value : List ℕ) → IsCutBy way row value → HasEnd way text value

-- told from their ends, the texts have other bytes at some place
pub record DifferAtEnd (way : Way) (left right : List ℕ) : Type 0 where
  pub place : ℕ
  pub in_left : place < length left
  pub in_right : place < length right
  pub other : ¬ (fold way (slice_index left (length left - 1 - place)) ≡ fold way (slice_index right (length right - 1 - place)))

-- a byte that is one place of the text
pub record IsBareByte (kind : TokenKind) (start end : ℕ) : Type 0 where
  pub byte : ℕ
  pub is : kind ≡ Byte byte
  pub one : end ≡ start + 1

-- the value is some text, bytes that are alike to these, and what the later row matches
pub record IsEndCut (way : Way) (later : Row) (text value : List ℕ) : Type 0 where
  pub front : List ℕ
  pub middle : List ℕ
  pub rest : List ℕ
  pub joined : value ≡ front ++ (middle ++ rest)
  pub alike : folding_of way middle ≡ folding_of way text
  pub behind : IsCutBy way later rest

-- since that place of its text, the row stood for bytes alone
pub record IsBareSince (way : Way) (row later : Row) (from : ℕ) : Type 0 where
  pub same_text : later.text ≡ row.text
  pub low : from ≤ later.place
  pub inside : from ≤ length row.text
  pub at : (value : List ℕ) → IsCutBy way row value → IsEndCut way later (take (later.place - from) (drop from row.text)) value
