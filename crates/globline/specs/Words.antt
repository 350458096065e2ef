-- What the words of the command line ask for, and what is done or told then.
use Rattle.std.specs.Prelude.{◌≡◌, ◌≢◌, ◌⊎◌, ℕ, Bool, true, false, List, [], ◌∷◌, map, Option, None, Some, codes, string_bytes}
use Rattle.std.specs.List.{list_all}
use Rattle.std.specs.Option.{option_copied}
use Rattle.gix_glob.specs.declared.pattern.Case.{Case}
use Rattle.gix_glob.specs.declared.pattern.Case.TheVariants.{Sensitive, Fold}
use Rattle.gix_glob.specs.declared.wildmatch.Mode.{Mode}
use Rattle.gix_glob.specs.EntryLists.{EntryList}
use Rattle.gix_glob.specs.Paths.{Base, has_file_part}
use Rattle.glob_lines.specs.Decisions.{DecisionsText}
use Rattle.glob_lines.specs.Ignore.{Ignore}
use Rattle.glob_lines.specs.Mappings.{MappingsText}
use Rattle.byte_streams.specs.Transfers.{ReadsWhole, Run}
use Rattle.glob_lines.specs.Values.{ValuesText}
use Rattle.globline.specs.declared.command.Command.{Command}
use Rattle.globline.specs.declared.command.Command.TheVariants as command

-- the word names the mode
abbrev pub NamesMode : List ℕ → Mode → Type 0
NamesMode word mode =
    ((word ≡ codes "plain") × (mode.0 ≡ 0))
    ⊎ (((word ≡ codes "fold") × (mode.0 ≡ 2))
    ⊎ (((word ≡ codes "path") × (mode.0 ≡ 1))
    ⊎ ((word ≡ codes "path-fold") × (mode.0 ≡ 3))))

-- the word says whether case counts
abbrev pub NamesCase : List ℕ → Case → Type 0
NamesCase word case = ((word ≡ codes "sensitive") × (case ≡ Sensitive)) ⊎ ((word ≡ codes "fold") × (case ≡ Fold))

-- the word names the root, or says that there is none
abbrev pub NamesRoot : List ℕ → Option (List ℕ) → Type 0
NamesRoot word root = ((word ≡ codes "-") × (root ≡ None)) ⊎ ((word ≢ codes "-") × (root ≡ Some word))

-- the words are `wild MODE PATTERN`
pub record AskWild (words : List (List ℕ)) (mode : Mode) (pattern : List ℕ) : Type 0 where
  pub mode_word : List ℕ
  pub are : words ≡ codes "wild" ∷ mode_word ∷ pattern ∷ []
  pub moded : NamesMode mode_word mode

-- the words are `list CASE FILE ROOT`, where FILE can name a file
pub record AskList (words : List (List ℕ)) (case : Case) (file : List ℕ) (root : Option (List ℕ)) : Type 0 where
  pub case_word : List ℕ
  pub root_word : List ℕ
  pub are : words ≡ codes "list" ∷ case_word ∷ file ∷ root_word ∷ []
  pub cased : NamesCase case_word case
  pub filed : has_file_part file ≡ true
  pub rooted : NamesRoot root_word root

-- there are files, and each of them can name one
abbrev pub are_files : List (List ℕ) → Bool
are_files [] = false
are_files (file ∷ files) = list_all has_file_part (file ∷ files)

-- the words are `ignore CASE ROOT FILE..`, where each FILE can name a file
pub record AskIgnore (words : List (List ℕ)) (case : Case) (root : Option (List ℕ)) (files : List (List ℕ)) : Type 0 where
  pub case_word : List ℕ
  pub root_word : List ℕ
  pub are : words ≡ codes "ignore" ∷ case_word ∷ root_word ∷ files
  pub cased : NamesCase case_word case
  pub rooted : NamesRoot root_word root
  pub filed : are_files files ≡ true

-- the words ask for the command
abbrev pub Ask : List (List ℕ) → Command → Type 0
Ask words (command.Wild mode pattern) = AskWild words mode pattern.now
Ask words (command.List case file root) = AskList words case file.now (option_copied root)
Ask words (command.Ignore case root files) = AskIgnore words case (option_copied root) (map string_bytes files.now)

-- the words ask for no command
pub record AreWrong (words : List (List ℕ)) : Type 0 where
  pub wild : (mode : Mode) (pattern : List ℕ) → ¬ AskWild words mode pattern
  pub list : (case : Case) (file : List ℕ) (root : Option (List ℕ)) → ¬ AskList words case file root
  pub ignore : (case : Case) (root : Option (List ℕ)) (files : List (List ℕ)) → ¬ AskIgnore words case root files

-- how the program is used, as it is told after wrong words
abbrev pub usage : List ℕ
usage = codes "usage: globline wild plain|fold|path|path-fold PATTERN\n       globline list sensitive|fold FILE ROOT\n       globline ignore sensitive|fold ROOT FILE..\n"

-- the list is what the bytes of an ignore file mean, with the base of the file under the root
pub record IsIgnoreList (bytes file : List ℕ) (root : Option (List ℕ)) (list : EntryList (Unit {0})) : Type 0 where
  pub means : Ignore bytes list.entries
  pub named : list.source ≡ Some file
  pub based : Base file root list.base

-- The lists of ignore files, in order: a file gave bytes, and its list is what they mean, or it gave none and is passed over.
abbrev pub AreIgnoreLists : Option (List ℕ) → List (List ℕ) → List (EntryList (Unit {0})) → Type 0
AreIgnoreLists root [] lists = lists ≡ []
AreIgnoreLists root (file ∷ files) lists =
    AreIgnoreLists root files lists
    ⊎ ((bytes : List ℕ) × (list : EntryList (Unit {0})) × (more : List (EntryList (Unit {0}))) × (lists ≡ list ∷ more) × IsIgnoreList bytes file root list × AreIgnoreLists root files more)

-- The text answers an input by the command: of `list` with the bytes that its file gave, of `ignore` with the lists that its files
-- gave.
abbrev pub AnswersCommand : Command → List ℕ → List ℕ → Type 0
AnswersCommand (command.Wild mode pattern) input text = ValuesText pattern.now mode input text
AnswersCommand (command.List case file root) input text =
    (patterns : List ℕ) × MappingsText file.now (option_copied root) case (record { patterns = patterns; paths = input }) text
AnswersCommand (command.Ignore case root files) input text =
    (lists : List (EntryList (Unit {0}))) × AreIgnoreLists (option_copied root) (map string_bytes files.now) lists × DecisionsText lists case input text

-- The words were answered: they ask for a command, the input was read whole, and of its answer was written what Written says.
pub record AnswersWords (words : List (List ℕ)) (input_old input_new : Option (List ℕ)) (Written : List ℕ → Type 0) : Type 0 where
  pub command : Command
  pub asked : Ask words command
  pub run : Run (ReadsWhole input_old input_new) (AnswersCommand command) Written
