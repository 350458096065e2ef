-- What the reader of a pattern answers: the items of a set and the tokens, each with the place after it.
use Rattle.std.specs.Prelude.{◌≡◌, ◌↔◌, ℕ, ◌+◌, ◌*◌, ◌<◌, ◌≤◌, Bool, true, false, not, ◌&&◌, ◌||◌, ◌==◌, IsTrue, List, [], length, Option, None, MatchOption, if◌then◌else◌}
use Rattle.glob_matcher.specs.declared.wildmatch.items.Item.{Item}
use Rattle.glob_matcher.specs.declared.wildmatch.sets.Cursor.{Cursor}
use Rattle.glob_matcher.specs.declared.wildmatch.sets.SetPart.{SetPart}
use Rattle.glob_matcher.specs.declared.wildmatch.sets.SetRead.{SetRead}
use Rattle.glob_matcher.specs.declared.wildmatch.sets.Spelled.{Spelled}
use Rattle.glob_matcher.specs.declared.wildmatch.sets.NextItem.{NextItem}
use Rattle.glob_matcher.specs.declared.wildmatch.sets.NextItem.TheVariants as next_item
use Rattle.glob_matcher.specs.declared.wildmatch.way.Way.{Way}
use Rattle.glob_matcher.specs.declared.wildmatch.tokens.TokenKind.{TokenKind}
use Rattle.glob_matcher.specs.declared.wildmatch.tokens.TokenKind.TheVariants as kind
use Rattle.std.specs.List.{list_any}
use Rattle.glob_matcher.specs.Bytes.{HasByte, is_path, open_bracket, slash}
use Rattle.glob_matcher.specs.Private.Spelling.{close_bracket, IsSign}
use Rattle.glob_matcher.specs.Sets.{ItemsAt, Set, SetAt, item_holds, member_of, set_holds}
use Rattle.glob_matcher.specs.Steps.{Counts}
use Rattle.glob_matcher.specs.Private.Looks.{IsKnown, IsSpelled}

-- what stands at place i, after the member `low` or none
abbrev pub IsNextItem : List ℕ → Bool → Option ℕ → ℕ → NextItem → Type 0
IsNextItem text first low i (next_item.Item s) =
    (IsTrue (not first) → ¬ HasByte text i close_bracket) × IsSpelled text low i s
IsNextItem text first low i next_item.Close = ItemsAt text first low i [] i × (i < length text)
IsNextItem text first low i next_item.Broken = (xs : List Item) (j : ℕ) → ¬ ItemsAt text first low i xs j

-- A set is spelled from place i up to place j, past i and inside the text, and this tells whether it holds byte b.
pub record IsSetThatHolds (way : Way) (text : List ℕ) (i b j : ℕ) (holds : Bool) : Type 0 where
  pub set : Set
  pub here : SetAt text i set j
  pub past : i < j
  pub inside : j ≤ length text
  pub answer : holds ≡ set_holds way set b

-- What is read at place i: where the set ends that begins there, and whether it holds byte b; or that none begins.
abbrev pub IsSetRead : Way → List ℕ → ℕ → ℕ → Option SetRead → Type 0
IsSetRead way text i b found =
    MatchOption found ((set : Set) (j : ℕ) → ¬ SetAt text i set j) (λ set. IsSetThatHolds way text i b set.end set.holds)

-- where the items of the set begin whose bracket stands at place i
abbrev pub first_item : Bool → ℕ → ℕ
first_item negated i = if negated then i + 2 else i + 1

-- where the reader of a set stands before its first item, and after an item
abbrev pub at_first : ℕ → Cursor
at_first i = record { place = i; is_first = true; low = None; close = None }

abbrev pub after_item : Spelled → Cursor
after_item s = record { place = s.next; is_first = false; low = member_of s.item; close = s.close }

-- The items from the start on are some items so far, one of which holds the byte if `held` says so, and those from this place on.
pub record IsUnderway (text : List ℕ) (start : ℕ) (test : Item → Bool) (held first : Bool) (low : Option ℕ) (i : ℕ) : Type 0 where
  pub forth : (xs : List Item) (close : ℕ) → ItemsAt text first low i xs close
      → (ys : List Item) × ItemsAt text true None start ys close × (held || list_any test xs ≡ list_any test ys)
  pub back : (ys : List Item) (close : ℕ) → ItemsAt text true None start ys close
      → (xs : List Item) × ItemsAt text first low i xs close

-- what is read of a set before its first item, and once one more item is; and whether it holds the byte where it closes
abbrev pub part_opened : ℕ → Bool → SetPart
part_opened place negated = record {
  place = place;
  is_negated = negated;
  is_held = false;
  cursor = at_first (first_item negated place);
}

abbrev pub part_past : Way → ℕ → SetPart → Spelled → SetPart
part_past way b part s = record {
  place = part.place;
  is_negated = part.is_negated;
  is_held = part.is_held || item_holds way b s.item;
  cursor = after_item s;
}

abbrev pub part_holds : Way → ℕ → SetPart → Bool
part_holds way b part = not (is_path way && b == slash) && (if part.is_negated then not part.is_held else part.is_held)

-- A set is read for byte b up to where its reader stands.
pub record IsPartRead (way : Way) (text : List ℕ) (b : ℕ) (part : SetPart) : Type 0 where
  pub bracket : HasByte text part.place open_bracket
  pub sign : IsTrue part.is_negated ↔ IsSign text (part.place + 1)
  pub underway : IsUnderway text (first_item part.is_negated part.place) (item_holds way b) part.is_held part.cursor.is_first part.cursor.low part.cursor.place
  pub past : part.place < part.cursor.place
  pub inside : part.cursor.place ≤ length text
  pub known : IsKnown text part.cursor.place part.cursor.close

-- whether a kind is that of a star token
abbrev pub is_star : TokenKind → Bool
is_star kind.Free = true
is_star kind.Local = true
is_star kind.Dirs = true
is_star _ = false

-- Reading a run of stars from place i up to place j takes at most five looks a byte, less four.
pub record IsRunRead (before after : Counts) (i : ℕ) (kind : TokenKind) (j : ℕ) : Type 0 where
  pub run : is_star kind ≡ true
  pub steps : after.steps ≡ before.steps
  pub looks : after.looks + 5 * i + 4 ≤ before.looks + 5 * j
  pub low : before.looks ≤ after.looks

-- Reading a token from place i up to place j takes at most five looks a byte, less three, if it is a star token, else six.
pub record IsTokenRead (before after : Counts) (i : ℕ) (kind : TokenKind) (j : ℕ) : Type 0 where
  pub steps : after.steps ≡ before.steps
  pub run : is_star kind ≡ true → after.looks + 5 * i + 3 ≤ before.looks + 5 * j
  pub other : is_star kind ≡ false → after.looks + 6 * i ≤ before.looks + 6 * j
  pub low : before.looks ≤ after.looks
