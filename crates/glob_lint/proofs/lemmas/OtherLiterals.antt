-- A line that is a literal, and another of the same folder that doesn't match it.
use Rattle.std.proofs.Common.{◌≡◌, ⊎_elim, ℕ, ◌-◌, ◌<◌, ◌≤◌, Bool, true, false, not, List, ◌++◌, length, drop, Option, None, Some, refl, sym, ap, subst, ◌∙◌, arith}
use Rattle.std.proofs.Math.Seq.{drop-append_seam}
use Rattle.std.specs.Option.{is_some}
use Rattle.std.specs.Str.{bytes_eq}
use Rattle.std.proofs.lemmas.Slice.Eq.{bytes_eq-Decides}
use Rattle.std.proofs.lemmas.Bool.{cases_Bool, cases_lt, false≢true}
use Rattle.glob_matcher.specs.Matching.{SplitsBy}
use Rattle.glob_patterns.specs.declared.mode.Mode.{Mode}
use Rattle.glob_patterns.specs.declared.pattern.case.Case.{Case}
use Rattle.glob_patterns.specs.declared.pattern.case.Case.TheVariants.{Sensitive}
use Rattle.glob_patterns.specs.GitPaths.{git_way}
use Rattle.glob_patterns.specs.Patterns.{first_special, looks_at_name}
use Rattle.glob_patterns.specs.RepositoryPaths.{IsAfterLastSlash, IsBasenameStart, subject}
use Rattle.glob_patterns.proofs.lemmas.BareNames.{after_last_slash}
use Rattle.glob_patterns.proofs.lemmas.FrontLemmas.{front_all}
use Rattle.glob_patterns.proofs.lemmas.LiteralLemmas.{AreAlike-length, literal_from_place, literal_splits}
use Rattle.glob_lists.specs.declared.rules.Reading.{Reading}
use Rattle.glob_lists.specs.declared.rules.Reading.TheVariants.{Git}
use Rattle.glob_lists.specs.declared.rules.Rules.{Rules}
use Rattle.glob_lists.specs.Rules.{by_git}
use Rattle.glob_lists.specs.Deciding.{AnswersFor}
use Rattle.glob_lint.specs.Lines.{AreApart, LineParts}
use Rattle.glob_lint.specs.Private.LineRows.{IsBytesOf}
use Rattle.glob_lint.proofs.lemmas.LineRows.{BaseCut, base_cut, no_slash_at}
use Rattle.glob_lint.proofs.lemmas.Literals.{unfolded}

-- what a folder of the same name leaves is the same
same_rest : (case : Case) (bytes path one other : List ℕ) → BaseCut case bytes path one → BaseCut case bytes path other → one ≡ other
same_rest case bytes path one other x y =
    let long : length x.front ≡ length y.front = AreAlike-length (git_way case) x.front y.front (x.alike ∙ sym y.alike) in
    sym (drop-append_seam x.front one) ∙ ap (drop (length x.front)) (sym x.joined ∙ y.joined) ∙ ap (λ (n : ℕ). drop n (y.front ++ other)) long ∙ drop-append_seam y.front other

-- a literal matches itself alone
literal_alone : (text value : List ℕ) → first_special text ≡ None → SplitsBy value text (git_way Sensitive) → value ≡ text
literal_alone text value none s = sym (unfolded value) ∙ (literal_splits text value (git_way Sensitive) (literal_from_place text none)).0 s ∙ unfolded text

-- there is one place where the last part begins
same_start : (path : List ℕ) (j k : ℕ) → IsAfterLastSlash path j → IsAfterLastSlash path k → j ≤ k
same_start path j k x y = ⊎_elim (λ (past : k < j). absurd (y.last (j - 1) (omega (arith, x.some)) x.after)) (λ (low : j ≤ k). low) (cases_lt k j)

module _ (text : List ℕ) (mode : Mode) (path : List ℕ) (is_dir : Bool) where
  -- what matches a file matches a folder of that name
  as_folder : AnswersFor text mode path is_dir (by_git Sensitive) → AnswersFor text mode path true (by_git Sensitive)
  as_folder x = record {
    basename_start = x.basename_start;
    basename = x.basename;
    answers = record { directory = λ t. refl; by_name = x.answers.by_name; by_path = x.answers.by_path };
  }

  -- a pattern for names that matches a path matches its last part alone
  as_name : looks_at_name mode ≡ true → (j : ℕ) → IsAfterLastSlash path j → AnswersFor text mode path is_dir (by_git Sensitive)
      → AnswersFor text mode (drop j path) true (by_git Sensitive)
  as_name looks j last x = named x.basename_start x.basename (x.answers.by_name looks) where
    named : (start : Option ℕ) → IsBasenameStart path start → SplitsBy (subject mode path start) text (git_way Sensitive)
        → AnswersFor text mode (drop j path) true (by_git Sensitive)
    named None none s = absurd (none (j - 1) last.after)
    named (Some k) other s =
        let same : k ≡ j = omega (arith, same_start path j k last other, same_start path k j other last) in
        let there : SplitsBy (drop k path) text (git_way Sensitive) = rw looks at s in
        record {
          basename_start = None;
          basename = λ i h. no_slash_at (drop j path) (after_last_slash path j last) i h;
          answers = record {
            directory = λ t. refl;
            by_name = λ t. subst (λ (n : ℕ). SplitsBy (drop n path) text (git_way Sensitive)) same there;
            by_path = λ t. absurd (false≢true (subst (λ (b : Bool). not b ≡ true) looks t));
          };
        }

module _ (literal line : LineParts) (bytes : List ℕ) (base : IsBytesOf literal.base bytes) (base_too : IsBytesOf line.base bytes) (none : first_special literal.text ≡ None)
    (names : looks_at_name literal.mode ≡ true → looks_at_name line.mode ≡ true) where
  pub other_literal : (AnswersFor line.text line.mode literal.text true (by_git Sensitive) → ⊥) → AreApart (by_git Sensitive) literal line
  other_literal misses path is_dir real m k = ⊎_elim by_name by_path (cases_Bool (looks_at_name literal.mode)) where
    same : k.rest ≡ m.rest
    same = same_rest Sensitive bytes path k.rest m.rest (base_cut Sensitive line.base bytes path k.rest base_too k.left) (base_cut Sensitive literal.base bytes path m.rest base m.left)

    here : AnswersFor line.text line.mode m.rest is_dir (by_git Sensitive)
    here = subst (λ (rest : List ℕ). AnswersFor line.text line.mode rest is_dir (by_git Sensitive)) same k.answers

    whole : m.rest ≡ literal.text → ⊥
    whole is = misses (subst (λ (rest : List ℕ). AnswersFor line.text line.mode rest true (by_git Sensitive)) is (as_folder line.text line.mode m.rest is_dir here))

    by_path : looks_at_name literal.mode ≡ false → ⊥
    by_path looks =
        whole (literal_alone literal.text m.rest none ((front_all m.rest literal.text (git_way Sensitive) none).0 (m.answers.answers.by_path (ap not looks))))

    name_of : looks_at_name literal.mode ≡ true → (start : Option ℕ) → IsBasenameStart m.rest start → subject literal.mode m.rest start ≡ literal.text → ⊥
    name_of looks None basename is = whole is
    name_of looks (Some j) basename is =
        let last : drop j m.rest ≡ literal.text = rw looks at is in
        misses (subst (λ (name : List ℕ). AnswersFor line.text line.mode name true (by_git Sensitive)) last (as_name line.text line.mode m.rest is_dir (names looks) j basename here))

    by_name : looks_at_name literal.mode ≡ true → ⊥
    by_name looks = name_of looks m.answers.basename_start m.answers.basename
        (literal_alone literal.text (subject literal.mode m.rest m.answers.basename_start) none (m.answers.answers.by_name looks))

  -- the same by rules that are Git's, where case counts
  pub other_literal_by : (rules : Rules) → rules.case ≡ Sensitive → rules.reading ≡ Git → (AnswersFor line.text line.mode literal.text true rules → ⊥)
      → AreApart rules literal line
  other_literal_by rules exact git =
      let P : Rules → Type 0 = λ asked. (AnswersFor line.text line.mode literal.text true asked → ⊥) → AreApart asked literal line in
      subst (λ (reading : Reading). P (record { case = rules.case; reading = reading })) (sym git)
      (subst (λ (case : Case). P (record { case = case; reading = Git })) (sym exact) other_literal)

pub none_there : {X : Type 0} (o : Option X) → is_some o ≡ false → o ≡ None
none_there None none = refl
none_there (Some x) none = absurd (false≢true (sym none))

pub texts_equal : (xs ys : List ℕ) (differ : Bool) → differ ≡ not (bytes_eq xs ys) → differ ≡ false → xs ≡ ys
texts_equal xs ys differ is same = ⊎_elim
    (λ (yes : bytes_eq xs ys ≡ true). (bytes_eq-Decides xs ys).0 yes)
    (λ (no : bytes_eq xs ys ≡ false). absurd (false≢true (sym same ∙ is ∙ ap not no)))
    (cases_Bool (bytes_eq xs ys))
