-- What a word becomes when it is read, and which paths it meets. A path is told from the top, and a folder's has a slash at its end.
use Rattle.std.specs.Prelude.{◌≡◌, ◌≢◌, ◌⊎◌, ℕ, ◌==◌, Bool, true, IsTrue, ◌||◌, nat_eq, if◌then◌else◌, List, [], ◌++◌, drop, length, map, max, take, codes}
use Rattle.std.specs.Char.{to_ascii_lowercase}
use Rattle.std.specs.List.{ends_with, position, starts_with}
use Rattle.std.specs.Option.{option_map_or}
use Rattle.glob_matcher.specs.declared.wildmatch.way.Folding.TheVariants.{Off, Exact}
use Rattle.glob_matcher.specs.declared.wildmatch.way.Way.{Way}
use Rattle.glob_matcher.specs.Bytes.{is_special, way_with}
use Rattle.glob_matcher.specs.Matching.{SplitsBy}
use Rattle.pathspecs.specs.declared.magic.Magic.{Magic}
use Rattle.pathspecs.specs.declared.manner.Manner.{Manner}
use Rattle.pathspecs.specs.declared.manner.Manner.TheVariants as manner

-- An element: its marks, and a text. So many bytes of the text are those of the current folder, in which case is never folded; and so many
-- stand in front of its pattern, each for itself: those before its first special byte, wherever that stands, and at least those of the folder.
pub record PathspecItem : Type 0 where
  pub magic : Magic
  pub text : List ℕ
  pub literal_front : ℕ
  pub front : ℕ

abbrev pub item_of_text : Magic → List ℕ → ℕ → PathspecItem
item_of_text magic text kept = record { magic = magic; text = text; literal_front = kept; front = if magic.literal then length text else option_map_or (λ place. max place kept) (position is_special text) (length text) }

abbrev pub kept_of : PathspecItem → List ℕ
kept_of item = take item.literal_front item.text

abbrev pub pattern_of : PathspecItem → List ℕ
pattern_of item = drop item.front item.text

-- how its pattern is matched: where it is marked so, no wildcard matches a slash, and case folds as in Git's ignore rules
abbrev pub way_of_item : Magic → Way
way_of_item magic = way_with magic.glob (if magic.icase then Exact else Off)

-- bytes as they are compared
abbrev pub compared : Bool → List ℕ → List ℕ
compared icase bytes = if icase then map to_ascii_lowercase bytes else bytes

-- the path is the front, as far as it is compared, and the rest
pub record IsCut (icase : Bool) (path front rest : List ℕ) : Type 0 where
  pub head : List ℕ
  pub joined : path ≡ head ++ rest
  pub alike : compared icase head ≡ compared icase front

-- what stands behind the text lies below it: the text is the top, or ends in a slash, or one follows
abbrev pub is_below : List ℕ → List ℕ → Bool
is_below text rest = (length text == 0 || ends_with nat_eq text (codes "/")) || starts_with nat_eq rest (codes "/")

-- in which way a path is met: it is the text; it lies below it; it is the front and what the tokens of the pattern stand for
abbrev pub IsMetSo : Manner → PathspecItem → List ℕ → Type 0
IsMetSo manner.Exact item path = IsCut item.magic.icase path item.text []
IsMetSo manner.Below item path = (rest : List ℕ) × IsCut item.magic.icase path item.text rest × IsTrue (is_below item.text rest)
IsMetSo manner.Wild item path = (pattern_of item ≢ []) × (rest : List ℕ) × IsCut item.magic.icase path (take item.front item.text) rest × SplitsBy rest (pattern_of item) (way_of_item item.magic)

-- an element meets a path: the bytes of its literal front are equal, and the path is met in one of the ways
abbrev pub Meets : PathspecItem → List ℕ → Type 0
Meets item path = IsTrue (starts_with nat_eq path (kept_of item)) × ((way : Manner) × IsMetSo way item path)

-- it meets the path in this way, which is the one that counts: the text does before what lies below it, and that before the pattern
abbrev pub MeetsBy : Manner → PathspecItem → List ℕ → Type 0
MeetsBy way item path = Meets item path × IsMetSo way item path × (way ≢ manner.Exact → ¬ IsMetSo manner.Exact item path) × (way ≡ manner.Wild → ¬ IsMetSo manner.Below item path)

-- a path below the folder may be met: the text goes on below it, or it is the front of a pattern and more
abbrev pub LeadsInto : PathspecItem → List ℕ → Type 0
LeadsInto item folder = (item.magic.icase ≡ true → IsTrue (starts_with nat_eq folder (kept_of item)))
    × (((rest : List ℕ) × IsCut item.magic.icase item.text folder rest) ⊎ ((pattern_of item ≢ []) × ((rest : List ℕ) × IsCut item.magic.icase folder (take item.front item.text) rest)))
