-- An ordinary text is matched alike by exact folding and by the usual one.
use Rattle.std.proofs.Common.{◌≡◌, ◌↔◌, inl, inr, ⊎_elim, ℕ, Bool, true, false, not, List, [], ◌∷◌, Option, refl, sym, ap, subst, ◌∙◌, if◌then◌else◌}
use Rattle.std.specs.Char.{to_ascii_lowercase}
use Rattle.std.proofs.lemmas.Bool.{cases_Bool, false≢true}
use Rattle.glob_matcher.specs.declared.wildmatch.way.Folding.TheVariants.{Both, Exact}
use Rattle.glob_matcher.specs.declared.wildmatch.way.Way.{Way}
use Rattle.glob_matcher.specs.Bytes.{IsEscaped, fold, folds, is_path, way_with}
use Rattle.glob_matcher.specs.ExactFolding.{is_dead}
use Rattle.glob_matcher.specs.Matching.{IsCut, Lang, SplitsBy}
use Rattle.glob_matcher.specs.Sets.{Set, SetAt, set_holds}
use Rattle.glob_matcher.specs.Tokens.{Token, Byte, Any, OneOf, Free, Local, Dirs, Nothing, Spells, TokenAt}
use Rattle.glob_patterns.specs.declared.mode.Mode as pattern
use Rattle.glob_patterns.specs.declared.pattern.case.Case.TheVariants.{Fold}
use Rattle.glob_patterns.specs.GitPaths.{AnswersAsGit, git_way}
use Rattle.glob_patterns.specs.Laws.Foldings.{FoldsAlike}
use Rattle.glob_patterns.specs.Laws.Fronts.{StarsAreApart}
use Rattle.glob_patterns.specs.Patterns.{looks_at_name}
use Rattle.glob_patterns.specs.RepositoryPaths.{Answers, subject}
use Rattle.glob_patterns.proofs.lemmas.OrdinaryItems.{exact, set_alike, usual}
use Rattle.glob_patterns.proofs.lemmas.WholeFronts.{front_is_whole, subject_whole}

-- ---- one way, and another that reads the text alike

-- Both ways agree on slashes and on whether case counts; each escaped byte lives in the second, and each set holds the same bytes.
record ReadAlike (m n : Way) (text : List ℕ) : Type 0 where
  path : is_path m ≡ is_path n
  case : folds m ≡ folds n
  live : (i b : ℕ) → IsEscaped text i b → is_dead n b ≡ false
  sets : (i j : ℕ) (set : Set) (b : ℕ) → SetAt text i set j → set_holds m set b ≡ set_holds n set b

module _ (m n : Way) (text : List ℕ) (alike : ReadAlike m n text) where
  same_fold : (c b : ℕ) → fold m c ≡ fold m b → fold n c ≡ fold n b
  same_fold c b same = subst (λ (f : Bool). (if f then to_ascii_lowercase c else c) ≡ (if f then to_ascii_lowercase b else b)) alike.case same

  -- a token is one in the other way, too, and stands for the same
  token_over : (i j : ℕ) (t : Token) (piece : List ℕ) → TokenAt m text i t j → Lang m t piece → TokenAt n text i t j × Lang n t piece
  token_over i j (Byte b) piece (inl escaped) lang =
      (inl (escaped.0, escaped.1, ap not (alike.live i b escaped.0)), (lang.0, lang.1, same_fold lang.0 b lang.2))
  token_over i j (Byte b) piece (inr bare) lang = (inr bare, (lang.0, lang.1, same_fold lang.0 b lang.2))
  token_over i j Any piece here lang = (here, (lang.0, lang.1, λ is. lang.2 (alike.path ∙ is)))
  token_over i j (OneOf set) piece here lang = (here, (lang.0, lang.1, sym (alike.sets i j set lang.0 here) ∙ lang.2))
  token_over i j Free piece here lang = ((here.0, λ is. here.1 (alike.path ∙ is)), lang)
  token_over i j Local piece here lang = ((here.0, sym alike.path ∙ here.1, here.2), lang)
  token_over i j Dirs piece here lang =
      (record { path = sym alike.path ∙ here.path; run_end = here.run_end; run = here.run; bounded = here.bounded; slash = here.slash; after = here.after }, lang)
  token_over i j Nothing piece here lang = absurd lang

  tokens_over : (i j : ℕ) (ts : List Token) (value : List ℕ) → Spells m text i ts j → IsCut m ts value → Spells n text i ts j × IsCut n ts value
  tokens_over i j [] value spelled cut = (spelled, cut)
  tokens_over i j (t ∷ ts) value spelled cut =
      let here = token_over i spelled.0 t cut.0 spelled.1 cut.3 in
      let more = tokens_over spelled.0 j ts cut.1 spelled.2 cut.4 in
      ((spelled.0, here.0, more.0), (cut.0, cut.1, cut.2, here.1, more.1))

  splits_over : (value : List ℕ) → SplitsBy value text m → SplitsBy value text n
  splits_over value h =
      let over = tokens_over 0 _ h.tokens value h.read h.cut in
      record { tokens = h.tokens; read = over.0; cut = over.1 }

-- ---- exact folding, and the usual one

exact_reads_alike : (path : Bool) (text : List ℕ) → FoldsAlike text → ReadAlike (usual path) (exact path) text
exact_reads_alike false text ordinary = record {
  path = refl;
  case = refl;
  live = ordinary.escapes;
  sets = λ i j set b here. set_alike false set b (ordinary.sets i j set here);
}
exact_reads_alike true text ordinary = record {
  path = refl;
  case = refl;
  live = ordinary.escapes;
  sets = λ i j set b here. set_alike true set b (ordinary.sets i j set here);
}

usual_reads_alike : (path : Bool) (text : List ℕ) → FoldsAlike text → ReadAlike (exact path) (usual path) text
usual_reads_alike false text ordinary = record {
  path = refl;
  case = refl;
  live = λ i b escaped. refl;
  sets = λ i j set b here. sym (set_alike false set b (ordinary.sets i j set here));
}
usual_reads_alike true text ordinary = record {
  path = refl;
  case = refl;
  live = λ i b escaped. refl;
  sets = λ i j set b here. sym (set_alike true set b (ordinary.sets i j set here));
}

pub foldings_agree : (path : Bool) (text value : List ℕ) → FoldsAlike text
    → SplitsBy value text (way_with path Both) ↔ SplitsBy value text (way_with path Exact)
foldings_agree path text value ordinary = (
  splits_over (usual path) (exact path) text (exact_reads_alike path text ordinary) value,
  splits_over (exact path) (usual path) text (usual_reads_alike path text ordinary) value,
)

-- ---- answers

pub folded_answers_agree : (text : List ℕ) (mode : pattern.Mode) (path : List ℕ) (start : Option ℕ) (is_dir : Option Bool) → StarsAreApart text → FoldsAlike text
    → AnswersAsGit text mode path start is_dir Fold ↔ Answers text mode path start is_dir Fold (record { 0 = 1 })
folded_answers_agree text mode path start is_dir apart ordinary =
    let whole = front_is_whole text path (git_way Fold) apart in
    let alike : (value : List ℕ) → SplitsBy value text (usual true) ↔ SplitsBy value text (git_way Fold) = λ value. foldings_agree true text value ordinary in
    ⊎_elim
    (λ (named : looks_at_name mode ≡ true). (
      λ (h : AnswersAsGit text mode path start is_dir Fold). record { directory = h.directory; splits = (alike (subject mode path start)).1 (h.by_name named) },
      λ (h : Answers text mode path start is_dir Fold (record { 0 = 1 })). record {
        directory = h.directory;
        by_name = λ _. (alike (subject mode path start)).0 h.splits;
        by_path = λ other. absurd (let no : not true ≡ true = sym (ap not named) ∙ other in false≢true no);
      },
    ))
    (λ (other : looks_at_name mode ≡ false). (
      λ (h : AnswersAsGit text mode path start is_dir Fold). record {
        directory = h.directory;
        splits = (alike (subject mode path start)).1 (subst (λ v. SplitsBy v text (git_way Fold)) (sym (subject_whole mode path start other)) (whole.0 (h.by_path (ap not other))));
      },
      λ (h : Answers text mode path start is_dir Fold (record { 0 = 1 })). record {
        directory = h.directory;
        by_name = λ named. absurd (false≢true (sym other ∙ named));
        by_path = λ _. whole.1 (subst (λ v. SplitsBy v text (git_way Fold)) (subject_whole mode path start other) ((alike (subject mode path start)).0 h.splits));
      },
    ))
    (cases_Bool (looks_at_name mode))
