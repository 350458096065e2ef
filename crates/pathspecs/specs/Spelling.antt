-- What a word spells: the magic that its head says, and a path. A colon stands before what isn't of the path.
use Rattle.std.specs.Prelude.{ℕ, ◌+◌, ◌==◌, Bool, false, not, ◌&&◌, ◌||◌, nat_eq, if◌then◌else◌, List, [], ◌∷◌, drop, take, Option, None, Some, codes}
use Rattle.std.specs.List.{list_all, list_any, position, prefix_len, slice_split, starts_with}
use Rattle.std.specs.Option.{option_and_then}
use Rattle.std.specs.Str.{byte, bytes_eq}
use Rattle.pathspecs.specs.declared.heads.Head.{Head as HeadOfText}
use Rattle.pathspecs.specs.declared.magic.Magic.{Magic}
use Rattle.pathspecs.specs.declared.spelling.Pathspec.{Pathspec}

-- the magic that a head says, and the path behind it
pub record Head : Type 0 where
  pub magic : Magic
  pub path : List ℕ

abbrev pub head_seen : HeadOfText → Head
head_seen head = record { magic = head.magic; path = head.path.now }

-- ---- signs behind the colon

-- the sign of the top, and those of an exclude; and those that mean nothing yet
abbrev pub is_sign : ℕ → Bool
is_sign b = (b == byte "/" || b == byte "!") || b == byte "^"

abbrev pub is_other_sign : ℕ → Bool
is_other_sign b = list_any (λ sign. b == sign) (codes "\"#%&',-;<=>@_`~")

-- one sign says it, and so do more
abbrev pub said_by_signs : List ℕ → Magic
said_by_signs signs = record { top = list_any (λ b. b == byte "/") signs; literal = false; glob = false; icase = false; exclude = list_any (λ b. b == byte "!") signs || list_any (λ b. b == byte "^") signs }

-- what stands behind the signs: a colon isn't of the path, and where another sign stands, nothing is spelt
abbrev pub behind_signs : Magic → List ℕ → Option Head
behind_signs magic [] = Some (record { magic = magic; path = [] })
behind_signs magic (b ∷ rest) = if b == byte ":" then Some (record { magic = magic; path = rest }) else (if is_other_sign b then None else Some (record { magic = magic; path = b ∷ rest }))

abbrev pub head_of_signs : List ℕ → Option Head
head_of_signs text = behind_signs (said_by_signs (take (prefix_len is_sign text) text)) (drop (prefix_len is_sign text) text)

-- ---- words in parentheses behind the colon

-- words with a comma between each two
abbrev pub words_in : List ℕ → List (List ℕ)
words_in text = slice_split (λ b. b == byte ",") text

-- whether a name is among words
abbrev pub says : List ℕ → List (List ℕ) → Bool
says name words = list_any (λ word. bytes_eq word name) words

abbrev pub said_by_words : List (List ℕ) → Magic
said_by_words words = record { top = says (codes "top") words; literal = says (codes "literal") words; glob = says (codes "glob") words; icase = says (codes "icase") words; exclude = says (codes "exclude") words }

-- such a word, or one without bytes, which says nothing
abbrev pub is_known : List ℕ → Bool
is_known word = list_any (λ name. bytes_eq word name) ([] ∷ codes "top" ∷ codes "literal" ∷ codes "glob" ∷ codes "icase" ∷ codes "exclude" ∷ [])

-- The words stand before the first parenthesis that closes, and the path behind it; without one nothing is spelt. So it is with another word,
-- and where `literal` and `glob` stand together.
abbrev pub head_of_words : List ℕ → Option Head
head_of_words text = option_and_then (λ end. let words = words_in (take end text) in if list_all is_known words && not (says (codes "literal") words && says (codes "glob") words) then Some (record { magic = said_by_words words; path = drop (end + 1) text }) else None) (position (λ b. b == byte ")") text)

-- ---- the word

-- What a word spells: without a colon in front, or where words are literal, it is the path. One without bytes spells nothing.
abbrev pub head_of : Bool → List ℕ → Option Head
head_of literal [] = None
head_of literal (b ∷ word) = if b == byte ":" && not literal then (if starts_with nat_eq word (codes "(") then head_of_words (drop 1 word) else head_of_signs word) else Some (record { magic = record { top = false; literal = false; glob = false; icase = false; exclude = false }; path = b ∷ word })

-- ---- a path

-- the path that is spelt, and whether it is told from the top
pub record Spelt : Type 0 where
  pub is_from_top : Bool
  pub path : List ℕ

abbrev pub seen : Pathspec → Spelt
seen spelt = record { is_from_top = spelt.is_from_top; path = spelt.path.now }

abbrev pub path_of : Head → Spelt
path_of head = record { is_from_top = head.magic.top; path = head.path }

-- where a path alone is asked for, no magic is taken but that of the top
abbrev pub spelt_in : Head → Option Spelt
spelt_in head = if ((head.magic.literal || head.magic.glob) || head.magic.icase) || head.magic.exclude then None else Some (path_of head)

abbrev pub spelt_by : List ℕ → Option Spelt
spelt_by word = option_and_then spelt_in (head_of false word)
