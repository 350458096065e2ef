-- A literal between two stars: a pattern answers for a path exactly if the last part of the path has the literal.
use Rattle.std.proofs.Common.{◌≡◌, ◌↔◌, ℕ, ◌+◌, ◌*◌, ◌≤◌, Bool, IsTrue, true, false, not, List, length, Option, None, Some, refl, sym, ◌∙◌, ap, subst, arith, length-drop}
use Rattle.std.proofs.lemmas.Bool.{false≢true}
use Rattle.std.proofs.lemmas.Nat.{mul-le}
use Rattle.gix_glob.specs.declared.pattern.Case.TheVariants.{Sensitive}
use Rattle.gix_glob.specs.declared.pattern.Mode as pattern
use Rattle.gix_glob.specs.Bytes.{has_slash}
use Rattle.gix_glob.specs.Patterns.{is_for_directories, looks_at_name}
use Rattle.gix_glob.specs.RepositoryPaths.{IsBasenameStart, subject}
use Rattle.glob_patterns.specs.Private.Insides.{HasInside}
use Rattle.glob_patterns.proofs.lemmas.Insides.{inside_exact}
use Rattle.gix_glob.specs.Ways.{way_of}
use Rattle.glob_lists.specs.Deciding.{AnswersFor}
use Rattle.glob_lists.specs.declared.rules.Reading.{Reading}
use Rattle.glob_lists.specs.declared.rules.Reading.TheVariants.{Crate, Git}
use Rattle.glob_lists.specs.declared.rules.Rules.{Rules}
use Rattle.glob_lists.specs.Rules.{AnswersAs, path_mode}
use Rattle.gix_glob.specs.Matching.{SplitsBy}
use Rattle.glob_lists.specs.Private.Asks.Parts.{IsFoundInside}
use Rattle.glob_lists.specs.Private.Asks.Showing.{last_part}
use Rattle.glob_lists.proofs.lemmas.Deciding.Answering.{AnswersFor-tested}
use Rattle.glob_lists.proofs.lemmas.Asks.PrefilterLemmas.{name_has_no_slash}
use Rattle.glob_lists.proofs.lemmas.Asks.ToldLemmas.{has_no_slash}

subject_is_name : (mode : pattern.Mode) (path : List ℕ) (start : Option ℕ) → looks_at_name mode ≡ true → last_part start path ≡ subject mode path start
subject_is_name mode path None name = refl
subject_is_name mode path (Some k) name = rw name refl

-- what is said of the name, where case counts, each reading says of a pattern of names
inside_as : (answer : Bool) (text path : List ℕ) (mode : pattern.Mode) (is_dir : Bool) (start : Option ℕ) → looks_at_name mode ≡ true → is_for_directories mode ≡ false
    → (IsTrue answer ↔ SplitsBy (subject mode path start) text (way_of path_mode)) → (reading : Reading) → (IsTrue answer ↔ AnswersAs reading text mode path start is_dir Sensitive)
inside_as answer text path mode is_dir start name any splits Crate = (
  λ yes. record { directory = λ only. absurd (false≢true (sym any ∙ only)); splits = splits.0 yes },
  λ answers. splits.1 answers.splits,
)
inside_as answer text path mode is_dir start name any splits Git = (
  λ yes. record {
    directory = λ only. absurd (false≢true (sym any ∙ only));
    by_name = λ _. splits.0 yes;
    by_path = λ other. absurd (false≢true (sym (ap not name) ∙ other));
  },
  λ answers. splits.1 (answers.by_name name),
)

pub inside_answers : (answer : Bool) (text path : List ℕ) (mode : pattern.Mode) (is_dir : Bool) (rules : Rules) (start : Option ℕ) → rules.case ≡ Sensitive → IsFoundInside text mode → IsBasenameStart path start
    → (IsTrue answer ↔ HasInside (way_of path_mode) (last_part start path) text) → (IsTrue answer ↔ AnswersFor text mode path is_dir rules)
inside_answers answer text path mode is_dir rules start sensitive found basename exact =
    let value : List ℕ = subject mode path start in
    let bare : has_slash value ≡ false = has_no_slash value (name_has_no_slash mode path start found.name basename) in
    let splits = inside_exact answer text value (way_of path_mode) found.shape (ap not bare)
    (subst (λ (v : List ℕ). IsTrue answer ↔ HasInside (way_of path_mode) v text) (subject_is_name mode path start found.name) exact) in
    AnswersFor-tested text mode path is_dir rules start basename answer
    (subst (λ case. IsTrue answer ↔ AnswersAs rules.reading text mode path start is_dir case) (sym sensitive)
    (inside_as answer text path mode is_dir start found.name found.all splits rules.reading))

-- the looks of a search in a part of a path are within the limit of a test
pub inside_looks : (p n v : ℕ) → n ≤ v → 2 * p * (n + 1) ≤ 10 * (p + 1) * (v + 1)
inside_looks p n v short = mul-le (2 * p) (n + 1) (10 * (p + 1)) (v + 1) (omega arith) (omega arith)

pub last_part_is_short : (path : List ℕ) (start : Option ℕ) → length (last_part start path) ≤ length path
last_part_is_short path None = omega arith
last_part_is_short path (Some k) = (let cut = length-drop k path in omega arith)
