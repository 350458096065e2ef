-- What decides about a path in a work tree: one pair, and not by a list that is off the way.
use Rattle.std.proofs.Common.{◌≡◌, inl, inr, ⊎_elim, ℕ, ◌<◌, ◌≤◌, true, Bool, List, ◌∷◌, ◌++◌, length, Option, Some, sym, ap, subst, ◌∙◌, append_assoc, arith}
use Rattle.std.proofs.lemmas.Bool.{cases_lt}
use Rattle.std.proofs.lemmas.Option.{same_Some}
use Rattle.glob_lists.specs.declared.rules.Rules.{Rules}
use Rattle.gix_glob.specs.Bytes.{slash}
use Rattle.gix_glob.specs.EntryLists.{EntryList}
use Rattle.gix_glob.specs.Stripping.{NothingLeft}
use Rattle.glob_lists.specs.Deciding.{Decides}
use Rattle.glob_trees.specs.Laws.Emptying.{EmptiesList}
use Rattle.glob_trees.specs.Trees.{DecidesInTree, HasNoneIgnored, Ignores, IsAbove, IsBelowIgnored}
use Rattle.glob_trees.proofs.lemmas.Emptied.{decides_before, ignores_after, ignores_before, nothing_left_above}
use Rattle.glob_trees.proofs.lemmas.FoldedPaths.{ignores_as}
use Rattle.glob_trees.proofs.lemmas.FoldedTexts.{made_by, slash_by}
use Rattle.glob_trees.proofs.lemmas.Folders.{as_long_is_same, shorter_is_above}

-- ---- one answer

-- the law `decides_one_pair`, restated: a lemma can't cite a clause
abbrev pub DecidesOnePair : Type 0 → Type 0
DecidesOnePair V =
    (lists : List (EntryList V)) (path : List ℕ) (is_dir : Bool) (rules : Rules) (pair other : Option (ℕ × ℕ)) → Decides lists path is_dir rules pair → Decides lists path is_dir rules other → pair ≡ other

module _ {V : Type 0} (lists : List (EntryList V)) (path : List ℕ) (rules : Rules) where
  -- the topmost ignored folder isn't below another ignored one
  not_below : (folder : List ℕ) (pair by : ℕ × ℕ) → IsAbove folder path → Ignores lists rules folder pair → (h : IsBelowIgnored lists rules path by) → length h.folder ≤ length folder
  not_below folder pair by above ignored h = ⊎_elim
      (λ (less : length folder < length h.folder). absurd (h.topmost folder pair (shorter_is_above folder h.folder path above h.above less) ignored))
      (λ (up_to : length h.folder ≤ length folder). up_to)
      (cases_lt (length folder) (length h.folder))

  ignored_once : DecidesOnePair V → (pair other : ℕ × ℕ) → IsBelowIgnored lists rules path pair → IsBelowIgnored lists rules path other → pair ≡ other
  ignored_once law pair other h k =
      let low : length h.folder ≤ length k.folder = not_below k.folder other pair k.above k.ignored h in
      let high : length k.folder ≤ length h.folder = not_below h.folder pair other h.above h.ignored k in
      let same : h.folder ≡ k.folder = as_long_is_same h.folder k.folder path h.above k.above (omega (arith, low, high)) in
      same_Some pair other (law lists k.folder true rules (Some pair) (Some other) (subst (λ f. Decides lists f true rules (Some pair)) same h.ignored.0) k.ignored.0)

  pub decides_in_tree_once : DecidesOnePair V → (is_dir : Bool) (pair other : Option (ℕ × ℕ)) → DecidesInTree lists path is_dir rules pair → DecidesInTree lists path is_dir rules other → pair ≡ other
  decides_in_tree_once law is_dir pair other (inl x) (inl y) = x.2 ∙ ap Some (ignored_once law x.0 y.0 x.1 y.1) ∙ sym y.2
  decides_in_tree_once law is_dir pair other (inl x) (inr y) = absurd (y.0 x.1.folder x.0 x.1.above x.1.ignored)
  decides_in_tree_once law is_dir pair other (inr x) (inl y) = absurd (x.0 y.1.folder y.0 y.1.above y.1.ignored)
  decides_in_tree_once law is_dir pair other (inr x) (inr y) = law lists path is_dir rules pair other x.1 y.1

-- ---- lists that say nothing

module _ {V : Type 0} (lists : List (EntryList V)) (base : List ℕ) (emptied : List (EntryList V)) (e : EmptiesList lists base emptied) (rules : Rules) where
  none_ignored_before : (path : List ℕ) → NothingLeft rules.case (Some base) path → HasNoneIgnored emptied rules path → HasNoneIgnored lists rules path
  none_ignored_before path none kept folder pair above ignored =
      kept folder pair above (ignores_after lists base emptied e rules folder (nothing_left_above rules.case base folder path above none) pair ignored)

  -- where nothing is left of the folder, the lists ignore it as well
  below_ignored_before : (path : List ℕ) (by : ℕ × ℕ) (h : IsBelowIgnored emptied rules path by) → NothingLeft rules.case (Some base) h.folder → IsBelowIgnored lists rules path by
  below_ignored_before path by h none = record {
    folder = h.folder;
    above = h.above;
    ignored = ignores_before lists base emptied e rules h.folder none by h.ignored;
    topmost = none_ignored_before h.folder none h.topmost;
  }

  pub off_the_way : (path : List ℕ) (is_dir : Bool) (pair : Option (ℕ × ℕ)) → NothingLeft rules.case (Some base) path → DecidesInTree emptied path is_dir rules pair → DecidesInTree lists path is_dir rules pair
  off_the_way path is_dir pair none (inl x) = inl (x.0, below_ignored_before path x.0 x.1 (nothing_left_above rules.case base x.1.folder path x.1.above none), x.2)
  off_the_way path is_dir pair none (inr x) = inr (none_ignored_before path none x.0, decides_before lists base emptied e path is_dir rules none pair x.1)

-- ---- a list below an ignored folder

module _ {V : Type 0} (lists : List (EntryList V)) (folder below : List ℕ) (emptied : List (EntryList V)) (e : EmptiesList lists (folder ++ slash ∷ below) emptied) (rules : Rules) (by : ℕ × ℕ) (ignored : Ignores emptied rules folder by) where
  -- what begins with the base lies below a folder that is the same after folding, and so is ignored
  nothing_left_unless_below : (path : List ℕ) → HasNoneIgnored emptied rules path → NothingLeft rules.case (Some (folder ++ slash ∷ below)) path
  nothing_left_unless_below path none rest left =
      let made = made_by rules.case folder (slash ∷ below) left.front (sym left.same) in
      let parted = slash_by rules.case below made.second made.rests in
      let joined : path ≡ made.first ++ slash ∷ (parted.0 ++ rest) =
      left.joined ∙ ap (λ l. l ++ rest) (made.joined ∙ ap (λ l. made.first ++ l) parted.1) ∙ append_assoc made.first (slash ∷ parted.0) rest in
      none made.first by (parted.0 ++ rest, joined) (ignores_as emptied rules folder made.first made.fronts by ignored)

  pub below_ignored : (path : List ℕ) (is_dir : Bool) (pair : Option (ℕ × ℕ)) → DecidesInTree emptied path is_dir rules pair → DecidesInTree lists path is_dir rules pair
  below_ignored path is_dir pair (inl x) = inl (x.0, below_ignored_before lists (folder ++ slash ∷ below) emptied e rules path x.0 x.1 (nothing_left_unless_below x.1.folder x.1.topmost), x.2)
  below_ignored path is_dir pair (inr x) = off_the_way lists (folder ++ slash ∷ below) emptied e rules path is_dir pair (nothing_left_unless_below path x.0) (inr x)
