-- Which elements words are.
use Rattle.std.specs.Prelude.{◌≡◌, ℕ, ◌==◌, Bool, false, not, ◌&&◌, ◌||◌, if◌then◌else◌, List, [], ◌∷◌, ◌++◌, length, map, take, slice_get, ⊤, Option, None, Some, codes}
use Rattle.std.specs.List.{list_all}
use Rattle.std.specs.Option.{option_and_then, option_map}
use Rattle.git_paths.specs.declared.standpoint.Standpoint.{Standpoint}
use Rattle.git_paths.specs.Paths.{names_folder, parts_of}
use Rattle.git_paths.specs.Standpoints.{led}
use Rattle.pathspecs.specs.declared.faults.ReadFault.{ReadFault}
use Rattle.pathspecs.specs.declared.faults.ReadFault.TheVariants.{Memory, Word}
use Rattle.pathspecs.specs.declared.magic.Magic.{Magic}
use Rattle.pathspecs.specs.declared.settings.Settings.{Settings}
use Rattle.pathspecs.specs.Elements.{PathspecItem, item_of_text}
use Rattle.pathspecs.specs.Leading.{front_of}
use Rattle.pathspecs.specs.Spelling.{Head, Spelt, head_of, path_of}

-- settings for all words: `literal` goes with `noglob` alone, and `glob` and `noglob` don't go together
abbrev pub agree : Settings → Bool
agree settings = not ((settings.glob && settings.noglob) || (settings.literal && (settings.glob || settings.icase)))

-- without words no setting counts
abbrev pub counted : Settings → ℕ → Settings
counted settings words = if words == 0 then record { literal = false; glob = false; noglob = false; icase = false } else settings

-- the marks of a word under settings
abbrev pub marked : Settings → Magic → Magic
marked settings magic = record { top = magic.top; literal = (magic.literal || settings.literal) || (settings.noglob && not magic.glob); glob = magic.glob || (settings.glob && not magic.literal); icase = magic.icase || settings.icase; exclude = magic.exclude }

-- a path, with a slash at its end where it is told as a folder's; the top has none
abbrev pub with_slash : Bool → List ℕ → List ℕ
with_slash is_folder path = path ++ (if is_folder && not (length path == 0) then codes "/" else [])

-- the text of an element: what is told from the top stands for itself
abbrev pub text_of : Standpoint → Spelt → Option (List ℕ)
text_of standpoint spelt = if spelt.is_from_top then Some spelt.path else option_map (with_slash (names_folder false (parts_of spelt.path))) (led standpoint spelt.path)

abbrev pub item_by : Standpoint → Settings → Head → Option PathspecItem
item_by standpoint settings head = if agree settings then option_map (λ text. item_of_text (marked settings head.magic) text (front_of standpoint (path_of head))) (text_of standpoint (path_of head)) else None

-- the element that a word is, where it is one
abbrev pub item_of : Standpoint → Settings → List ℕ → Option PathspecItem
item_of standpoint settings word = option_and_then (item_by standpoint settings) (head_of settings.literal word)

-- the words are these elements; where all are excludes, or there are none, that of the current folder follows
abbrev pub AreRead : Standpoint → Settings → List (List ℕ) → List PathspecItem → Type 0
AreRead standpoint settings words items = map Some items ≡ map (item_of standpoint settings) (words ++ (if list_all (λ item. item.magic.exclude) (take (length words) items) then codes "." ∷ [] else []))

-- the word at a place is the first that is no element; behind the last one, that of the current folder is asked for
abbrev pub IsFault : Standpoint → Settings → List (List ℕ) → ReadFault → Type 0
IsFault standpoint settings words Memory = ⊤
IsFault standpoint settings words (Word place fault) =
    ((before : List PathspecItem) × (map (item_of standpoint settings) (take place words) ≡ map Some before)) × (slice_get (map (item_of standpoint settings) (words ++ codes "." ∷ [])) place ≡ Some None)
