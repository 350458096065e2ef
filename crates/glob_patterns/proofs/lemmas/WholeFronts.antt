-- What front and rest match, the whole text matches, unless stars directly behind the front are bounded in the rest alone.
use Rattle.std.proofs.Common.{◌≡◌, ◌↔◌, ◌⊎◌, inl, inr, ⊎_elim, ℕ, suc, ◌+◌, ◌-◌, ◌<◌, ◌≤◌, Bool, true, false, not, List, [], ◌∷◌, ◌++◌, length, get_or, take, drop, Option, None, Some, refl, sym, ap, subst, ◌∙◌, take-append-drop, arith}
use Rattle.std.proofs.Math.Seq.{take-suc}
use Rattle.std.proofs.lemmas.Bool.{cases_Bool, cases_lt, false≢true}
use Rattle.std.proofs.lemmas.List.{get_or-drop, get_or-take, length-drop, length-take-le}
use Rattle.glob_matcher.specs.declared.wildmatch.way.Way.{Way}
use Rattle.glob_matcher.specs.Bytes.{EndsInSlash, HasByte, fold, slash, star}
use Rattle.glob_matcher.specs.Matching.{SplitsBy, SplitsFrom}
use Rattle.glob_matcher.specs.Rests.{StandsAlone}
use Rattle.glob_matcher.proofs.lemmas.cutting.RestLemmas.{rest_splits}
use Rattle.glob_patterns.specs.declared.mode.Mode as pattern
use Rattle.glob_patterns.specs.declared.pattern.case.Case.TheVariants.{Sensitive}
use Rattle.glob_patterns.specs.Folding.{folding_of}
use Rattle.glob_patterns.specs.GitPaths.{AnswersAsGit, FrontAndRest, git_way}
use Rattle.glob_patterns.specs.Laws.Fronts.{StarsAreApart}
use Rattle.glob_patterns.specs.Patterns.{first_special, looks_at_name}
use Rattle.glob_patterns.specs.Private.Fronts.{BeginsAlike}
use Rattle.glob_patterns.specs.RepositoryPaths.{Answers, subject}
use Rattle.glob_patterns.proofs.lemmas.FrontLemmas.{front_all, front_cut, front_inside, front_joined}
use Rattle.glob_patterns.proofs.lemmas.LiteralLemmas.{AreAlike-at, IsLiteral, literal_front, literal_in, literal_out, literal_up_to_place}

module _ (text : List ℕ) (apart : StarsAreApart text) (n : ℕ) (first : first_special text ≡ Some n) where
  inside : n ≤ length text
  inside = front_inside text n first

  plain : IsLiteral text 0 n
  plain = (literal_up_to_place text n first).1

  long : length (take n text) ≡ n
  long = length-take-le n text inside

  byte_behind : (m b : ℕ) → HasByte (drop n text) m b → HasByte text (n + m) b
  byte_behind m b h =
      let below : m < length (drop n text) = h.inside in
      record { inside = omega (arith, length-drop n text); is = sym (get_or-drop n text m 0) ∙ h.is }

  front_slash : (k : ℕ) → n ≡ suc k → HasByte text k slash → EndsInSlash (take n text)
  front_slash k is h = record {
    front = take k text;
    joined = ap (λ m. take m text) is ∙ take-suc text k 0 h.inside ∙ ap (λ b. take k text ++ b ∷ []) h.is;
  }

  front_ends : (n ≡ 0) ⊎ HasByte text (n - 1) slash → (n < 1) ⊎ (1 ≤ n) → (take n text ≡ []) ⊎ EndsInSlash (take n text)
  front_ends before (inl none) = inl (let start : n ≡ 0 = omega arith in ap (λ m. take m text) start)
  front_ends (inl start) (inr some) = absurd (omega arith)
  front_ends (inr h) (inr some) = inr (front_slash (n - 1) (omega arith) h)

  alone : StandsAlone (take n text) (drop n text)
  alone one two =
      let at : HasByte text n star = subst (λ m. HasByte text m star) (let same : n + 0 ≡ n = omega arith in same) (byte_behind 0 star one) in
      front_ends (apart n first at (byte_behind 1 star two)) (cases_lt n 1)

  -- what the whole splits from the front's end on, the rest splits
  module _ (way : Way) (value : List ℕ) where
    there : SplitsFrom value n text n way → SplitsBy (drop n value) (drop n text) way
    there s =
        let cut : SplitsFrom value n (take n text ++ drop n text) (length (take n text)) way =
        subst (λ t. SplitsFrom value n t (length (take n text)) way) (sym (take-append-drop n text)) (subst (λ m. SplitsFrom value n text m way) (sym long) s) in
        let own = (rest_splits (take n text) (drop n text) alone way value n).0 cut in
        record { tokens = own.tokens; read = own.read; cut = own.cut }

    back : SplitsBy (drop n value) (drop n text) way → SplitsFrom value n text n way
    back s =
        let own : SplitsFrom value n (drop n text) 0 way = record { tokens = s.tokens; read = s.read; cut = s.cut } in
        let cut = (rest_splits (take n text) (drop n text) alone way value n).1 own in
        subst (λ m. SplitsFrom value n text m way) long (subst (λ t. SplitsFrom value n t (length (take n text)) way) (take-append-drop n text) cut)

    whole_there : SplitsBy value text way → FrontAndRest value text way
    whole_there s =
        let out = literal_out way text value n 0 n 0 n (omega arith) (omega arith) inside (omega arith) plain s in
        let begins = literal_front text value way n inside plain s in
        front_joined value text way n first
        (record { fits = omega (arith, long, begins.0); alike = begins.1 ∙ ap (λ (m : ℕ). folding_of way (take m value)) (sym long) })
        (there out.2)

    whole_back : FrontAndRest value text way → SplitsBy value text way
    whole_back h =
        let cut = front_cut value text way n first h in
        let begins : BeginsAlike way value (take n text) = cut.0 in
        let fits : length (take n text) ≤ length value = begins.fits in
        literal_in way text value n 0 n 0 n (omega arith) (omega arith) inside (omega (arith, long)) plain
        (record {
          at = λ x y low high sum.
              let same : x ≡ y = omega arith in
              let small : y < length (take n text) = omega (arith, long) in
              ap (λ m. fold way (get_or value m 0)) same
              ∙ ap (fold way) (sym (get_or-take (length (take n text)) value y 0 small))
              ∙ sym (AreAlike-at way (take n text) (take (length (take n text)) value) begins.alike y small)
              ∙ ap (fold way) (get_or-take n text y 0 high);
        })
        (back cut.1)

cases_Option : (o : Option ℕ) → (o ≡ None) ⊎ ((n : ℕ) × (o ≡ Some n))
cases_Option None = inl refl
cases_Option (Some n) = inr (n, refl)

pub front_is_whole : (text value : List ℕ) (way : Way) → StarsAreApart text → FrontAndRest value text way ↔ SplitsBy value text way
front_is_whole text value way apart =
    ⊎_elim
    (λ none. front_all value text way none)
    (λ some. (whole_back text apart some.0 some.1 way value, whole_there text apart some.0 some.1 way value))
    (cases_Option (first_special text))

-- ---- answers

pub subject_whole : (mode : pattern.Mode) (path : List ℕ) (start : Option ℕ) → looks_at_name mode ≡ false → subject mode path start ≡ path
subject_whole mode path None whole = refl
subject_whole mode path (Some k) whole = rw whole refl

pub answers_agree : (text : List ℕ) (mode : pattern.Mode) (path : List ℕ) (start : Option ℕ) (is_dir : Option Bool) → StarsAreApart text
    → AnswersAsGit text mode path start is_dir Sensitive ↔ Answers text mode path start is_dir Sensitive (record { 0 = 1 })
answers_agree text mode path start is_dir apart =
    let whole = front_is_whole text path (git_way Sensitive) apart in
    ⊎_elim
    (λ (named : looks_at_name mode ≡ true). (
      λ (h : AnswersAsGit text mode path start is_dir Sensitive). record { directory = h.directory; splits = h.by_name named },
      λ (h : Answers text mode path start is_dir Sensitive (record { 0 = 1 })). record {
        directory = h.directory;
        by_name = λ _. h.splits;
        by_path = λ other. absurd (let no : not true ≡ true = sym (ap not named) ∙ other in false≢true no);
      },
    ))
    (λ (other : looks_at_name mode ≡ false). (
      λ (h : AnswersAsGit text mode path start is_dir Sensitive). record {
        directory = h.directory;
        splits = subst (λ v. SplitsBy v text (git_way Sensitive)) (sym (subject_whole mode path start other)) (whole.0 (h.by_path (ap not other)));
      },
      λ (h : Answers text mode path start is_dir Sensitive (record { 0 = 1 })). record {
        directory = h.directory;
        by_name = λ named. absurd (false≢true (sym other ∙ named));
        by_path = λ _. whole.1 (subst (λ v. SplitsBy v text (git_way Sensitive)) (subject_whole mode path start other) h.splits);
      },
    ))
    (cases_Bool (looks_at_name mode))
