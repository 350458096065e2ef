-- Patterns that C keeps, as one list without a base; and what decides in a stack of one list.
use Rattle.std.proofs.Common.{◌≡◌, inr, ℕ, ◌<◌, ◌≤◌, Bool, List, [], ◌∷◌, length, map, option_map, None, Some, refl, sym, ap, subst, ◌∙◌, slice_index_or, arith}
use Rattle.std.specs.Prelude.{slice_get}
use Rattle.std.proofs.lemmas.Option.{slice_get-get_or, slice_get-map, slice_get_within}
use Rattle.glob_lists.specs.declared.rules.Rules.{Rules}
use Rattle.glob_lists.specs.Deciding.{AnswersAt, Decides, PairAnswers}
use Rattle.gix_glob.specs.EntryLists.{EntryList}
use Rattle.glob_lists.proofs.lemmas.Deciding.Answering.{PairAnswers-only, PairAnswers-yes}
use Rattle.gix_glob_c.specs.declared.parsed.GlobPattern.{GlobPattern}
use Rattle.gix_glob_c.specs.Parsed.{entry_of_parts}

-- what the reading of an element takes where there is none
abbrev pub blank : GlobPattern
blank = record { text = record { ref_ptr = (0, 0); now = [] }; first_wildcard_pos = 0; mode = record { bits = 0 }; reading = 0 }

-- the entry at a place is that of the pattern there
pub entry_at : (patterns : List GlobPattern) (m : ℕ) → m < length patterns → slice_get (map entry_of_parts patterns) m ≡ Some (entry_of_parts (slice_index_or patterns m blank))
entry_at patterns m within = slice_get-map entry_of_parts patterns m ∙ ap (option_map entry_of_parts) (slice_get-get_or patterns m blank within)

module _ {V : Type 0} (list : EntryList V) (path : List ℕ) (is_dir : Bool) (rules : Rules) where
  -- the only list is the first
  only_list : (i m : ℕ) → PairAnswers (list ∷ []) path is_dir rules i m → (i ≡ 0) × AnswersAt list path is_dir rules m
  only_list i m h =
      let inside : i < 1 = slice_get_within (list ∷ []) i h.list h.there in
      let first : i ≡ 0 = omega arith in
      (first, PairAnswers-only (list ∷ []) path is_dir rules i m list (subst (λ k. slice_get (list ∷ []) k ≡ Some list) (sym first) refl) h)

  pub Decides-one_list : (m : ℕ) → AnswersAt list path is_dir rules m → ((k : ℕ) → AnswersAt list path is_dir rules k → k ≤ m) → Decides (list ∷ []) path is_dir rules (Some (0, m))
  Decides-one_list m answers last = record {
    answers = PairAnswers-yes (list ∷ []) path is_dir rules 0 m list refl answers;
    last = λ i k h. (let only = only_list i k h in inr (only.0, last k only.1));
  }

  pub Decides-no_list : ((k : ℕ) → ¬ AnswersAt list path is_dir rules k) → Decides (list ∷ []) path is_dir rules None
  Decides-no_list none = λ i k h. none k (only_list i k h).1
