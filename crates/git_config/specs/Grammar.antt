-- How a configuration file is read: each byte of its text in turn, by the place where it stands.
use Rattle.std.specs.Prelude.{ℕ, ◌+◌, Bool, true, false, not, ◌&&◌, ◌||◌, ◌==◌, nat_eq, if◌then◌else◌, List, [], ◌∷◌, ◌++◌, length, replicate, Option, Some, None}
use Rattle.std.specs.Char.{is_ascii_alphabetic, is_ascii_alphanumeric, to_ascii_lowercase}
use Rattle.std.specs.List.{before_first, starts_with}
use Rattle.std.specs.Str.{byte}
use Rattle.git_config.specs.declared.fault.Wrong.{Wrong}
use Rattle.git_config.specs.declared.fault.Wrong.TheVariants.{Mark, Outside, Head, Subsection, Name, Quote, Escape}
use Rattle.git_config.specs.declared.item.Item.{Item}
use Rattle.git_config.specs.declared.item.Item.TheVariants.{Section, Sets}

-- the text of a file: its bytes without each carriage return that stands directly before a line feed
abbrev pub text_of : List ℕ → List ℕ
text_of [] = []
text_of (b ∷ bytes) = if b == 13 && starts_with nat_eq bytes (10 ∷ []) then text_of bytes else b ∷ text_of bytes

-- a space or a tab; one of these or a carriage return; one of these or a line feed
abbrev pub is_gap : ℕ → Bool
is_gap b = b == 32 || b == 9

abbrev pub is_space : ℕ → Bool
is_space b = is_gap b || b == 13

abbrev pub is_blank : ℕ → Bool
is_blank b = is_space b || b == 10

-- what begins a comment; a letter, a digit or a hyphen; one of these or a full stop
abbrev pub is_mark : ℕ → Bool
is_mark b = b == byte "#" || b == byte ";"

abbrev pub is_name_byte : ℕ → Bool
is_name_byte b = is_ascii_alphanumeric b || b == byte "-"

abbrev pub is_head_byte : ℕ → Bool
is_head_byte b = is_name_byte b || b == byte "."

-- what stands before the first byte 0
abbrev pub before_zero : List ℕ → List ℕ
before_zero bytes = before_first (λ b. b == 0) bytes

-- what a backslash and this byte stand for in a value
abbrev pub escaped : ℕ → Option ℕ
escaped b =
    if b == byte "t" then Some 9
    else (if b == byte "b" then Some 8
    else (if b == byte "n" then Some 10
    else (if b == byte "\\" || b == byte "\"" then Some b else None)))

-- A value up to a byte: whether a quote is open, how many blanks stand behind the bytes, and the bytes.
pub record Part : Type 0 where
  pub quoted : Bool
  pub blanks : ℕ
  pub bytes : List ℕ

abbrev pub no_part : Part
no_part = record { quoted = false; blanks = 0; bytes = [] }

-- the value when its blanks become bytes, a space for each; with a blank more, which counts only behind a byte; with a quote; with a byte
abbrev pub filled : Part → Part
filled part = record { quoted = part.quoted; blanks = 0; bytes = part.bytes ++ replicate part.blanks 32 }

abbrev pub with_blank : Part → Part
with_blank part = record { quoted = part.quoted; blanks = if length part.bytes == 0 then part.blanks else part.blanks + 1; bytes = part.bytes }

abbrev pub with_quote : Part → Part
with_quote part = record { quoted = not part.quoted; blanks = part.blanks; bytes = part.bytes }

abbrev pub with_byte : Part → ℕ → Part
with_byte part b = record { quoted = part.quoted; blanks = part.blanks; bytes = part.bytes ++ b ∷ [] }

-- Where a byte stands: at the front of the file; in a byte order mark, and whether behind its second byte; between items; in a comment;
-- in the head of a section, behind this much of its name; behind a blank there; in the quotes of its subsection, behind this much of
-- the key, and whether directly behind a backslash; behind these quotes; in an entry, behind this much of its name, and whether a blank
-- came since; in the entry's value; directly behind a backslash there; in a comment behind the value.
pub data Place : Type 0 where
  front : Place
  behind_mark : Bool → Place
  between : Place
  in_comment : Place
  in_head : List ℕ → Place
  in_gap : List ℕ → Place
  in_quotes : Bool → List ℕ → Place
  behind_quotes : List ℕ → Place
  in_name : Bool → List ℕ → Place
  in_value : List ℕ → Part → Place
  in_escape : List ℕ → Part → Place
  in_tail : List ℕ → List ℕ → Place

-- What a byte does: the next one stands at this place; or an item ends, and the next byte stands between items; or it is wrong.
pub data Turn : Type 0 where
  goes : Place → Turn
  gives : Item (List ℕ) → Turn
  fails : Wrong → ℕ → Turn

-- the line of what stands behind a byte
abbrev pub line_behind : ℕ → ℕ → ℕ
line_behind line b = if b == 10 then line + 1 else line

abbrev pub entry_of : List ℕ → Option (List ℕ) → ℕ → Item (List ℕ)
entry_of name value line = Sets (record { name = name; value = value; line = line })

-- ---- what each byte does, on this line

abbrev pub turn_between : ℕ → ℕ → Turn
turn_between line b =
    if is_blank b then goes between
    else (if is_mark b then goes in_comment
    else (if b == byte "[" then goes (in_head [])
    else (if is_ascii_alphabetic b then goes (in_name false (to_ascii_lowercase b ∷ [])) else fails Outside line)))

-- in a value, behind a byte that is no blank and begins no comment
abbrev pub place_behind : List ℕ → Part → ℕ → Place
place_behind name part b =
    if b == byte "\\" then in_escape name part
    else (if b == byte "\"" then in_value name (with_quote part) else in_value name (with_byte part b))

-- in a value, behind what a backslash stands before
abbrev pub turn_escaped : ℕ → List ℕ → Part → Option ℕ → Turn
turn_escaped line name part None = fails Escape line
turn_escaped line name part (Some b) = goes (in_value name (with_byte part b))

abbrev pub turn : ℕ → Place → ℕ → Turn
turn line front b = if b == 239 then goes (behind_mark false) else turn_between line b
turn line (behind_mark false) b = if b == 187 then goes (behind_mark true) else fails Mark (line_behind line b)
turn line (behind_mark true) b = if b == 191 then goes between else fails Mark (line_behind line b)
turn line between b = turn_between line b
turn line in_comment b = if b == 10 then goes between else goes in_comment
turn line (in_head name) b =
    if is_head_byte b then goes (in_head (name ++ to_ascii_lowercase b ∷ []))
    else (if is_space b then goes (in_gap name)
    else (if b == byte "]" && not (length name == 0) then gives (Section (name ++ byte "." ∷ [])) else fails Head line))
turn line (in_gap name) b =
    if b == byte "\"" then goes (in_quotes false (name ++ byte "." ∷ []))
    else (if is_space b then goes (in_gap name) else fails Head line)
turn line (in_quotes behind_backslash key) b =
    if b == 10 then fails Subsection line
    else (if behind_backslash then goes (in_quotes false (key ++ b ∷ []))
    else (if b == byte "\"" then goes (behind_quotes key)
    else (if b == byte "\\" then goes (in_quotes true key) else goes (in_quotes false (key ++ b ∷ [])))))
turn line (behind_quotes key) b = if b == byte "]" then gives (Section (key ++ byte "." ∷ [])) else fails Head (line_behind line b)
turn line (in_name ended name) b =
    if b == 10 then gives (entry_of name None line)
    else (if b == byte "=" then goes (in_value name no_part)
    else (if is_gap b then goes (in_name true name)
    else (if is_name_byte b && not ended then goes (in_name false (name ++ to_ascii_lowercase b ∷ [])) else fails Name line)))
turn line (in_value name part) b =
    if b == 10 then (if part.quoted then fails Quote line else gives (entry_of name (Some (before_zero part.bytes)) line))
    else (if is_blank b && not part.quoted then goes (in_value name (with_blank part))
    else (if is_mark b && not part.quoted then goes (in_tail name part.bytes) else goes (place_behind name (filled part) b)))
turn line (in_escape name part) b = if b == 10 then goes (in_value name part) else turn_escaped line name part (escaped b)
turn line (in_tail name bytes) b = if b == 10 then gives (entry_of name (Some (before_zero bytes)) line) else goes (in_tail name bytes)

-- ---- the end of the file, and the whole

-- what is read: the items up to the end of the file or the first fault, and where one comes its line and what is wrong
abbrev pub Reading : Type 0
Reading = List (Item (List ℕ)) × Option (ℕ × Wrong)

abbrev pub stop : ℕ → Wrong → Reading
stop line what = ([], Some (line, what))

abbrev pub before : Item (List ℕ) → Reading → Reading
before item rest = (item ∷ rest.0, rest.1)

abbrev pub nothing : Reading
nothing = ([], None)

-- what the end of the file on this line leaves to say: as at a line feed, but that a fault in the name of a section is the next line's
abbrev pub value_ended : ℕ → List ℕ → Part → Reading
value_ended line name part = if part.quoted then stop line Quote else before (entry_of name (Some (before_zero part.bytes)) line) nothing

abbrev pub ended : ℕ → Place → Reading
ended line (behind_mark _) = stop (line + 1) Mark
ended line (in_head name) = stop (line + 1) Head
ended line (in_gap name) = stop line Head
ended line (in_quotes _ key) = stop line Subsection
ended line (behind_quotes key) = stop (line + 1) Head
ended line (in_name _ name) = before (entry_of name None line) nothing
ended line (in_value name part) = value_ended line name part
ended line (in_escape name part) = value_ended (line + 1) name part
ended line (in_tail name bytes) = before (entry_of name (Some (before_zero bytes)) line) nothing
ended line _ = nothing

-- what is read of a text that begins on this line at this place
unfoldable pub read : List ℕ → ℕ → Place → Reading
read [] line place = ended line place
read (b ∷ text) line place = elim (turn line place b) [
  | goes next ↦ read text (line_behind line b) next
  | gives item ↦ before item (read text (line_behind line b) between)
  | fails what at ↦ stop at what
]

-- what is read of a file
abbrev pub items_of : List ℕ → Reading
items_of bytes = read (text_of bytes) 1 front
