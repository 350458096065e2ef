-- What the readers of the pattern say of their looks to one another: a set is read in one pass, with at most four looks for
-- each byte of its spelling.
use Rattle.std.specs.Prelude.{◌≡◌, ℕ, ◌+◌, ◌*◌, ◌<◌, ◌≤◌, List, Option, None, Some, MatchOption, max, length}
use Rattle.glob_matcher.specs.declared.wildmatch.items.Item.{Item}
use Rattle.glob_matcher.specs.declared.wildmatch.sets.SetPart.{SetPart}
use Rattle.glob_matcher.specs.declared.wildmatch.sets.SetRead.{SetRead}
use Rattle.glob_matcher.specs.declared.wildmatch.sets.Spelled.{Spelled}
use Rattle.glob_matcher.specs.declared.wildmatch.sets.NextItem.{NextItem}
use Rattle.glob_matcher.specs.declared.wildmatch.sets.NextItem.TheVariants as next_item
use Rattle.glob_matcher.specs.Private.Spelling.{close_bracket}
use Rattle.glob_matcher.specs.Sets.{IsFirstFrom, ItemAt}
use Rattle.glob_matcher.specs.Steps.{Counts}
use Rattle.glob_matcher.specs.Private.Takes.{TakesExactly}

-- no step, and one look at each byte from place i up to place j
pub record LookedAtEach (before after : Counts) (i j : ℕ) : Type 0 where
  pub steps : after.steps ≡ before.steps
  pub looks : after.looks + i ≡ before.looks + j

-- no step, and at most n looks for each byte from place i up to place j; no count falls
pub record LookedOver (n : ℕ) (before after : Counts) (i j : ℕ) : Type 0 where
  pub steps : after.steps ≡ before.steps
  pub looks : after.looks + n * i ≤ before.looks + n * j
  pub low : before.looks ≤ after.looks

-- what is known of a closing bracket: where it isn't passed yet, it is the first from place i on
abbrev pub IsKnown : List ℕ → ℕ → Option ℕ → Type 0
IsKnown text i None = Unit {0}
IsKnown text i (Some m) = i ≤ m → IsFirstFrom text i close_bracket m

-- how far the closing bracket was looked for, from place i on
abbrev pub search_front : Option ℕ → ℕ → ℕ
search_front None i = i
search_front (Some m) i = max m i

-- An item is spelled from place i on, after the member `low` or none, and what is known of the closing bracket behind it.
pub record IsSpelled (text : List ℕ) (low : Option ℕ) (i : ℕ) (s : Spelled) : Type 0 where
  pub item : ItemAt text low i s.item s.next
  pub past : i < s.next
  pub inside : s.next ≤ length text
  pub known : IsKnown text s.next s.close

-- The looks are paid by the way over an item, three a byte, and by how far ahead the closing bracket is known; as many as
-- `spare` are left over.
pub record IsPaid (spare : ℕ) (before after : Counts) (i : ℕ) (known : Option ℕ) (s : Spelled) : Type 0 where
  pub steps : after.steps ≡ before.steps
  pub looks : after.looks + spare + 3 * i + search_front known i ≤ before.looks + 3 * s.next + search_front s.close s.next
  pub low : before.looks ≤ after.looks

-- A set's part is read from its bracket on: the looks are paid by the way, and by how far ahead the closing bracket is known; as
-- many as `spare` are left over.
pub record IsPartPaid (spare : ℕ) (before after : Counts) (part : SetPart) : Type 0 where
  pub steps : after.steps ≡ before.steps
  pub looks : after.looks + spare + 4 * part.place ≤ before.looks + 3 * part.cursor.place + search_front part.cursor.close part.cursor.place
  pub low : before.looks ≤ after.looks

-- Where no item is spelled, they are paid by the way to the text's end, two a byte.
pub record IsPaidToEnd (spare : ℕ) (before after : Counts) (text : List ℕ) (i : ℕ) : Type 0 where
  pub steps : after.steps ≡ before.steps
  pub looks : after.looks + spare + 2 * i ≤ before.looks + 2 * length text
  pub low : before.looks ≤ after.looks

-- What is read at place i, after the member `low` or none, where so much is known of the closing bracket: the item that is spelled
-- there, or that none is. As many looks as `spare` are left over.
pub record IsItemRead (spare : ℕ) (before after : Counts) (text : List ℕ) (low : Option ℕ) (i : ℕ) (known : Option ℕ) (item : Option Spelled) : Type 0 where
  pub answer : MatchOption item ((x : Item) (j : ℕ) → ¬ ItemAt text low i x j) (IsSpelled text low i)
  pub paid : MatchOption item (IsPaidToEnd spare before after text i) (IsPaid spare before after i known)

-- how far a set is read: up to its end, or where none begins, up to the text's
abbrev pub read_end : List ℕ → Option SetRead → ℕ
read_end text None = length text
read_end text (Some set) = set.end

-- the looks at what stands at place i
abbrev pub IsPaidFor : Counts → Counts → List ℕ → ℕ → Option ℕ → NextItem → Type 0
IsPaidFor before after text i known (next_item.Item s) = IsPaid 0 before after i known s
IsPaidFor before after text i known next_item.Close = TakesExactly before after 0 1
IsPaidFor before after text i known next_item.Broken = IsPaidToEnd 0 before after text i
