-- Paths that are the same after folding, where case doesn't count: each list says the same of them.
use Rattle.std.proofs.Common.{◌≡◌, ℕ, ◌-◌, Bool, true, false, List, drop, Option, None, Some, refl, sym, ap, ◌∙◌}
use Rattle.std.specs.Prelude.{if◌then◌else◌}
use Rattle.std.proofs.lemmas.List.{drop-map}
use Rattle.gix_glob.specs.declared.pattern.Case.{Case}
use Rattle.glob_lists.specs.declared.rules.Rules.{Rules}
use Rattle.gix_glob.specs.declared.pattern.Case.TheVariants.{Sensitive, Fold}
use Rattle.gix_glob.specs.declared.pattern.Mode as pattern
use Rattle.gix_glob.specs.declared.wildmatch.Way.{Way}
use Rattle.gix_glob.specs.Ways.{way_of}
use Rattle.gix_glob.specs.Bytes.{fold}
use Rattle.gix_glob.specs.Entries.{Entry}
use Rattle.gix_glob.specs.EntryLists.{EntryList}
use Rattle.gix_glob.specs.Folding.{folding_of}
use Rattle.gix_glob.specs.Patterns.{looks_at_name}
use Rattle.gix_glob.specs.RepositoryPaths.{IsBasenameStart, subject, with_case}
use Rattle.gix_glob.specs.Stripping.{folding_by}
use Rattle.glob_lists.specs.Deciding.{AnswersFor, AnswersUnder, PairAnswers}
use Rattle.glob_lists.specs.declared.rules.Reading.{Reading}
use Rattle.glob_lists.specs.declared.rules.Reading.TheVariants.{Crate, Git}
use Rattle.glob_lists.specs.Rules.{AnswersAs, path_mode}
use Rattle.gix_glob.specs.GitPaths.{FrontAndRest, git_way}
use Rattle.glob_trees.specs.Trees.{Ignores}
use Rattle.glob_trees.proofs.lemmas.FoldedMatches.{splits_as}
use Rattle.glob_trees.proofs.lemmas.FoldedTexts.{has_slash_as, made_as, made_by}

-- what compares equal as a base is folded alike for a match
folded_for_match : (case : Case) (path other : List ℕ) → folding_by case path ≡ folding_by case other → folding_of (way_of (with_case path_mode case)) path ≡ folding_of (way_of (with_case path_mode case)) other
folded_for_match Sensitive path other same = ap (folding_of (way_of path_mode)) same
folded_for_match Fold path other same = same

-- ---- what a pattern looks at

module _ (way : Way) where
  starts_as : (path other : List ℕ) → folding_of way path ≡ folding_of way other → (start : Option ℕ) → IsBasenameStart path start → IsBasenameStart other start
  starts_as path other same None none = λ j here. none j (has_slash_as way other path (sym same) j here)
  starts_as path other same (Some k) at = record {
    some = at.some;
    after = has_slash_as way path other same (k - 1) at.after;
    last = λ j low here. at.last j low (has_slash_as way other path (sym same) j here);
  }

  part_as : (by_name : Bool) (k : ℕ) (path other : List ℕ) → folding_of way path ≡ folding_of way other → folding_of way (if by_name then drop k path else path) ≡ folding_of way (if by_name then drop k other else other)
  part_as true k path other same = sym (drop-map (fold way) k path) ∙ ap (drop k) same ∙ drop-map (fold way) k other
  part_as false k path other same = same

  subject_as : (pattern_mode : pattern.Mode) (path other : List ℕ) → folding_of way path ≡ folding_of way other → (start : Option ℕ) → folding_of way (subject pattern_mode path start) ≡ folding_of way (subject pattern_mode other start)
  subject_as pattern_mode path other same None = same
  subject_as pattern_mode path other same (Some k) = part_as (looks_at_name pattern_mode) k path other same

-- ---- what answers

folded_for_git : (case : Case) (path other : List ℕ) → folding_by case path ≡ folding_by case other → folding_of (git_way case) path ≡ folding_of (git_way case) other
folded_for_git Sensitive path other same = ap (folding_of (git_way Sensitive)) same
folded_for_git Fold path other same = same

-- a front and a rest match what is alike
parted_as : (way : Way) (text path other : List ℕ) → folding_of way path ≡ folding_of way other → FrontAndRest path text way → FrontAndRest other text way
parted_as way text path other same h =
    let made = made_as (fold way) h.begins h.below other (ap (folding_of way) (sym h.value_cut) ∙ same) in
    record {
      rest = h.rest;
      text_cut = h.text_cut;
      begins = made.first;
      below = made.second;
      value_cut = made.joined;
      alike = sym made.fronts ∙ h.alike;
      splits = splits_as way h.rest h.below made.second made.rests h.splits;
    }

answers_as : (text : List ℕ) (mode : pattern.Mode) (path other : List ℕ) (start : Option ℕ) (is_dir : Bool) (case : Case) → folding_by case path ≡ folding_by case other
    → (reading : Reading) → AnswersAs reading text mode path start is_dir case → AnswersAs reading text mode other start is_dir case
answers_as text mode path other start is_dir case same Crate h =
    let matched = way_of (with_case path_mode case) in
    record {
      directory = h.directory;
      splits = splits_as matched text (subject mode path start) (subject mode other start) (subject_as matched mode path other (folded_for_match case path other same) start) h.splits;
    }
answers_as text mode path other start is_dir case same Git h =
    let matched = git_way case in
    let folded = folded_for_git case path other same in
    record {
      directory = h.directory;
      by_name = λ named. splits_as matched text (subject mode path start) (subject mode other start) (subject_as matched mode path other folded start) (h.by_name named);
      by_path = λ parted. parted_as matched text path other folded (h.by_path parted);
    }

module _ (is_dir : Bool) (rules : Rules) where
  answers_for_as : (text : List ℕ) (mode : pattern.Mode) (path other : List ℕ) → folding_by rules.case path ≡ folding_by rules.case other → AnswersFor text mode path is_dir rules → AnswersFor text mode other is_dir rules
  answers_for_as text mode path other same h = record {
    basename_start = h.basename_start;
    basename = starts_as (way_of (with_case path_mode rules.case)) path other (folded_for_match rules.case path other same) h.basename_start h.basename;
    answers = answers_as text mode path other h.basename_start is_dir rules.case same rules.reading h.answers;
  }

  answers_under_as : {V : Type 0} (base : Option (List ℕ)) (entry : Entry V) (path other : List ℕ) → folding_by rules.case path ≡ folding_by rules.case other → AnswersUnder base entry path is_dir rules → AnswersUnder base entry other is_dir rules
  answers_under_as None entry path other same h = record {
    rest = other;
    left = refl;
    answers = answers_for_as entry.text entry.mode h.rest other (ap (folding_by rules.case) h.left ∙ same) h.answers;
  }
  answers_under_as (Some base) entry path other same h =
      let made = made_by rules.case h.left.front h.rest other (ap (folding_by rules.case) (sym h.left.joined) ∙ same) in
      record {
        rest = made.second;
        left = record { front = made.first; joined = made.joined; same = sym made.fronts ∙ h.left.same };
        answers = answers_for_as entry.text entry.mode h.rest made.second made.rests h.answers;
      }

-- ---- what ignores

module _ {V : Type 0} (lists : List (EntryList V)) (rules : Rules) where
  pair_as : (is_dir : Bool) (path other : List ℕ) → folding_by rules.case path ≡ folding_by rules.case other → (i m : ℕ) → PairAnswers lists path is_dir rules i m → PairAnswers lists other is_dir rules i m
  pair_as is_dir path other same i m h = record {
    list = h.list;
    there = h.there;
    answers = record {
      entry = h.answers.entry;
      there = h.answers.there;
      answers = answers_under_as is_dir rules h.list.base h.answers.entry path other same h.answers.answers;
    };
  }

  pub ignores_as : (folder other : List ℕ) → folding_by rules.case folder ≡ folding_by rules.case other → (pair : ℕ × ℕ) → Ignores lists rules folder pair → Ignores lists rules other pair
  ignores_as folder other same pair ignored = (
    record {
      answers = pair_as true folder other same pair.0 pair.1 ignored.0.answers;
      last = λ i m answers. ignored.0.last i m (pair_as true other folder (sym same) i m answers);
    },
    ignored.1,
  )
