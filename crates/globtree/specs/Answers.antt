-- What a command answered. Of real files nothing is known: those of a folder may have any bytes, anything may stand at a path, and any
-- folder that is told from the root may be the top.
use Rattle.std.specs.Prelude.{◌≡◌, ◌||◌, ℕ, Bool, true, false, if◌then◌else◌, List, [], ◌∷◌, Option, map}
use Rattle.std.specs.Borrow.{Bor}
use Rattle.std.specs.Io.KnownBytes.{Appends}
use Rattle.gix_glob.specs.EntryLists.{EntryList}
use Rattle.gix_glob.specs.declared.pattern.Case.{Case}
use Rattle.gix_glob.specs.declared.pattern.Case.TheVariants.{Fold, Sensitive}
use Rattle.byte_streams.specs.Transfers.{ReadsWhole, Run}
use Rattle.byte_streams.specs.Records.{AnswersAll, TextOf}
use Rattle.glob_lists.specs.Rules.{by_git}
use Rattle.glob_trees.specs.Ways.{Folder}
use Rattle.pathspecs.specs.Leading.{word_front, word_leads}
use Rattle.pathspecs.specs.declared.settings.Settings.{Settings}
use Rattle.pathspecs.specs.Reading.{AreRead}
use Rattle.git_paths.specs.declared.quoting.Quoting.{Quoting}
use Rattle.git_paths.specs.declared.quoting.Quoting.TheVariants.{Full}
use Rattle.git_paths.specs.declared.standpoint.Standpoint.{Standpoint}
use Rattle.tree_answers.specs.Lines.{behind}
use Rattle.tree_answers.specs.Records.{IsTextOf}
use Rattle.tree_commands.specs.Answering.{TextOfNamed, Writes}
use Rattle.tree_commands.specs.CheckAttr.{IsStatesText, Query, all, named}
use Rattle.tree_commands.specs.CheckIgnore.{IsIgnoreText, Question}
use Rattle.tree_files.specs.FileLists.{IsOfFolder, IsSpelled}
use Rattle.globtree.specs.declared.words.Command.{Command}
use Rattle.globtree.specs.declared.words.Command.TheVariants as command
use Rattle.globtree.specs.declared.words.check_attr.CheckAttr.{CheckAttr}
use Rattle.globtree.specs.declared.words.check_ignore.CheckIgnore.{CheckIgnore}
use Rattle.globtree.specs.declared.matching.PathMatcher.{PathMatcher}
use Rattle.globtree.specs.declared.words.match_pathspec.MatchPathspec.{MatchPathspec}
use Rattle.globtree.specs.declared.words.options.Options.{Options}
use Rattle.globtree.specs.Matching.{IsWholeText}
use Rattle.globtree.specs.Running.{flags_of, form_by}
use Rattle.globtree.specs.Tracked.{IsOfIndex}

-- whether the case of letters counts, by the options and by what the configuration says
abbrev pub case_by : Options → Bool → Case
case_by options folds = if options.ignore_case || folds then Fold else Sensitive

-- the list is what some bytes of some file spell, as Git reads them
abbrev pub IsOfSomeFile : EntryList (Unit {0}) → Type 0
IsOfSomeFile list = (name : List ℕ) × IsSpelled name list

-- the lists before those of all folders, and how many they are: of the file of excludes, and of the repository's own
pub record AreFronts (count : ℕ) (lists : List (EntryList (Unit {0}))) : Type 0 where
  pub outer : EntryList (Unit {0})
  pub own : EntryList (Unit {0})
  pub both : (count ≡ 2) × (lists ≡ outer ∷ own ∷ [])
  pub spelled : IsOfSomeFile outer × IsOfSomeFile own

-- the text about each path that the input names was written, and all of it was read
abbrev pub ReadsIgnore : Question → Bool → Option (List ℕ) → Option (List ℕ) → Option (List ℕ) → Option (List ℕ) → Type 0
ReadsIgnore question is_any left rest old new =
    Run (ReadsWhole left rest)
    (AnswersAll (TextOfNamed (IsIgnoreText question IsOfFolder is_any) question.flags.form) (behind question.flags.form 10)) (Appends old new)

-- the text about each of these paths was written
abbrev pub TellsIgnore : Question → List (List ℕ) → Bool → Option (List ℕ) → Option (List ℕ) → Type 0
TellsIgnore question paths is_any old new = Writes (IsIgnoreText question IsOfFolder is_any paths) (Appends old new)

-- the bytes of words
abbrev pub bytes_of : List (Bor (List ℕ)) → List (List ℕ)
bytes_of words = map (λ word. word.now) words

-- What `check-ignore` is asked was answered, whatever the configuration and the index say. Paths are told from some standpoint, or from the
-- top; with `--no-index` nothing is tracked. With `--stdin` the paths are those that are read, else those among the words. The status says
-- whether a line decides about one.
pub record AnswersIgnore (options : Options) (asked : CheckIgnore) (status : ℕ) (left rest old new : Option (List ℕ)) : Type 0 where
  pub standpoint : Standpoint
  pub folds : Bool
  pub quoting : Quoting
  pub question : Question
  pub from : (question.leads ≡ word_leads standpoint) × (question.literal ≡ word_front standpoint)
  pub of_index : IsOfIndex question.tracked
  pub without : asked.no_index ≡ true → question.tracked ≡ []
  pub before : AreFronts question.front_count question.fronts
  pub by_rules : question.rules ≡ by_git (case_by options folds)
  pub asks : question.flags ≡ flags_of asked quoting
  pub is_any : Bool
  pub ends : status ≡ (if is_any then 0 else 1)
  pub read : asked.stdin ≡ true → ReadsIgnore question is_any left rest old new
  pub told : asked.stdin ≡ false → TellsIgnore question (bytes_of asked.paths.items) is_any old new

abbrev pub any_file : Folder → Option (List ℕ) → Type 0
any_file folder file = Unit {0}

-- the states for each path that the input names were written, and all of it was read
abbrev pub ReadsStates : Query → Option (List ℕ) → Option (List ℕ) → Option (List ℕ) → Option (List ℕ) → Type 0
ReadsStates query left rest old new =
    Run (ReadsWhole left rest) (AnswersAll (TextOf (IsTextOf (IsStatesText query any_file) query.form)) (behind query.form 10)) (Appends old new)

-- the states for each of these paths were written
abbrev pub TellsStates : Query → List (List ℕ) → Option (List ℕ) → Option (List ℕ) → Type 0
TellsStates query paths old new = Writes (TextOf (IsStatesText query any_file) paths) (Appends old new)

-- What `check-attr` is asked was answered in the same way, by the states of all attributes, or of those that are named.
pub record AnswersAttr (options : Options) (asked : CheckAttr) (left rest old new : Option (List ℕ)) : Type 0 where
  pub query : Query
  pub folds : Bool
  pub quoting : Quoting
  pub cased : query.case ≡ case_by options folds
  pub form : query.form ≡ form_by asked.nul quoting
  pub asks : query.asked ≡ (if asked.all then all else named (bytes_of asked.names.items))
  pub read : asked.stdin ≡ true → ReadsStates query left rest old new
  pub told : asked.stdin ≡ false → TellsStates query (bytes_of asked.paths.items) old new

-- What `match-pathspec` is asked was answered, by the list that its words are, whatever the settings say. Paths are told from the top, and none
-- of them from the root. The status says whether one is matched.
pub record AnswersMatch (asked : MatchPathspec) (status : ℕ) (left rest old new : Option (List ℕ)) : Type 0 where
  pub matcher : PathMatcher
  pub settings : Settings
  pub from : (matcher.standpoint.now.is_inside ≡ true) × (matcher.standpoint.now.here.items ≡ []) × (matcher.standpoint.now.top.items ≡ 0 ∷ [])
  pub list : AreRead matcher.standpoint.now settings (bytes_of asked.pathspecs.items) matcher.list
  pub words : bytes_of matcher.words.now ≡ bytes_of asked.pathspecs.items
  pub asks : (matcher.verbose ≡ asked.verbose) × (matcher.form ≡ form_by asked.nul Full)
  pub is_any : Bool
  pub ends : status ≡ (if is_any then 0 else 1)
  pub read : Run (ReadsWhole left rest) (AnswersAll (IsWholeText matcher is_any) (behind matcher.form 10)) (Appends old new)

-- A command was answered. What the others write is told by no definition.
abbrev pub AnswersCommand : Options → Command → ℕ → Option (List ℕ) → Option (List ℕ) → Option (List ℕ) → Option (List ℕ) → Type 0
AnswersCommand options (command.CheckIgnore asked) status left rest old new = AnswersIgnore options asked status left rest old new
AnswersCommand options (command.CheckAttr asked) status left rest old new = AnswersAttr options asked left rest old new
AnswersCommand options (command.Write text) status left rest old new = Appends old new text.now
AnswersCommand options (command.Config asked) status left rest old new = Unit {0}
AnswersCommand options (command.Explain asked) status left rest old new = Unit {0}
AnswersCommand options (command.Files asked) status left rest old new = Unit {0}
AnswersCommand options (command.Lint asked) status left rest old new = Unit {0}
AnswersCommand options (command.MatchPathspec asked) status left rest old new = AnswersMatch asked status left rest old new
AnswersCommand options (command.Status asked) status left rest old new = Unit {0}
