-- How the paths begin that a line matches, and what lies below a folder there.
use Rattle.std.proofs.Common.{◌≡◌, ⊎_elim, ℕ, ◌<◌, ◌≤◌, Bool, true, false, not, List, [], ◌∷◌, ◌++◌, get_or, length, map, take, Option, None, Some, refl, sym, ap, subst, ◌∙◌, append_assoc, take_all, arith}
use Rattle.std.specs.Prelude.{if◌then◌else◌, IsTrue, nat_lt, unwrap_or}
use Rattle.std.specs.List.{position_or_len}
use Rattle.std.proofs.Math.ListN.{get_or-append}
use Rattle.std.proofs.lemmas.Bool.{cases_Bool, ltb-false, ltb-true}
use Rattle.std.proofs.lemmas.List.{map-append}
use Rattle.gix_glob.specs.Bytes.{is_special, slash}
use Rattle.gix_glob.specs.EntryLists.{EntryList}
use Rattle.gix_glob.specs.Folding.{folding_of}
use Rattle.gix_glob.specs.GitPaths.{AnswersAsGit, FrontAndRest, front_of, git_way}
use Rattle.gix_glob.specs.Patterns.{first_special, looks_at_name}
use Rattle.gix_glob.specs.Stripping.{RestOf, folding_by}
use Rattle.gix_glob.specs.declared.pattern.Case.{Case}
use Rattle.gix_glob.specs.declared.pattern.Case.TheVariants.{Sensitive, Fold}
use Rattle.glob_lists.specs.declared.rules.Rules.{Rules}
use Rattle.glob_lists.specs.declared.rules.Reading.TheVariants.{Git}
use Rattle.glob_lists.specs.Rules.{AnswersAs}
use Rattle.glob_trees.specs.Trees.{Ignores, IsAbove}
use Rattle.glob_trees.proofs.lemmas.FoldedPaths.{ignores_as}
use Rattle.glob_trees.proofs.lemmas.FoldedTexts.{made_by, slash_by}
use Rattle.glob_matcher.specs.declared.wildmatch.way.Way.{Way}
use Rattle.glob_matcher.specs.Bytes.{fold}
use Rattle.glob_patterns.proofs.lemmas.LiteralLemmas.{AreAlike-at, AreAlike-length}
use Rattle.glob_lint.specs.Lines.{AreApart, LineParts, Meets}
use Rattle.glob_lint.specs.Private.Beginnings.{BeginsAs, DifferAtFront, beginning_of, front_of_line}

-- ---- the literal front, by the place of the first special byte

pub front_up_to : (text : List ℕ) (n : ℕ) → first_special text ≡ Some n → front_of text ≡ take n text
front_up_to text n first =
    ⊎_elim
    (λ (below : nat_lt (position_or_len is_special text) (length text) ≡ true).
    let h = rw below at first in
    let same : position_or_len is_special text ≡ n = cc in
    ap (λ m. take m text) same)
    (λ (past : nat_lt (position_or_len is_special text) (length text) ≡ false). let h = rw past at first in absurd (cc))
    (cases_Bool (nat_lt (position_or_len is_special text) (length text)))

pub front_inside : (text : List ℕ) (n : ℕ) → first_special text ≡ Some n → n ≤ length text
front_inside text n first =
    ⊎_elim
    (λ (below : nat_lt (position_or_len is_special text) (length text) ≡ true).
    let h = rw below at first in
    let same : position_or_len is_special text ≡ n = cc in
    let less = ltb-true _ _ below in
    omega (arith, less, same))
    (λ (past : nat_lt (position_or_len is_special text) (length text) ≡ false). let h = rw past at first in absurd (cc))
    (cases_Bool (nat_lt (position_or_len is_special text) (length text)))

pub front_whole : (text : List ℕ) → first_special text ≡ None → front_of text ≡ text
front_whole text none =
    ⊎_elim
    (λ (below : nat_lt (position_or_len is_special text) (length text) ≡ true). let h = rw below at none in absurd (cc))
    (λ (past : nat_lt (position_or_len is_special text) (length text) ≡ false). take_all (position_or_len is_special text) text (ltb-false _ _ past))
    (cases_Bool (nat_lt (position_or_len is_special text) (length text)))

-- ---- texts after folding

unfolded : (text : List ℕ) → map (λ b. b) text ≡ text
unfolded [] = refl
unfolded (b ∷ text) = ap (λ l. b ∷ l) (unfolded text)

alike_by_case : (case : Case) (a b : List ℕ) → folding_of (git_way case) a ≡ folding_of (git_way case) b → folding_by case a ≡ folding_by case b
alike_by_case Sensitive a b same = sym (unfolded a) ∙ (same ∙ unfolded b)
alike_by_case Fold a b same = same

folding_joined : (case : Case) (a b x y : List ℕ) → folding_by case a ≡ folding_by case x → folding_by case b ≡ folding_by case y → folding_by case (a ++ b) ≡ folding_by case (x ++ y)
folding_joined Sensitive a b x y same rest = cc
folding_joined Fold a b x y same rest = map-append _ a b ∙ (cc (same, rest) ∙ sym (map-append _ x y))

-- ---- how a path begins

begins_none : (rules : Rules) (path : List ℕ) → BeginsAs rules [] path
begins_none rules path = record { begins = []; below = path; joined = refl; same = refl }

begins_front : (rules : Rules) (line : LineParts) (path : List ℕ) (start : Option ℕ) (is_dir : Option Bool) → AnswersAsGit line.text line.mode path start is_dir rules.case → BeginsAs rules (front_of_line line) path
begins_front rules line path start is_dir a =
    let by = elim (looks_at_name line.mode) as (λ b. (IsTrue (not b) → FrontAndRest path line.text (git_way rules.case)) → BeginsAs rules (if b then [] else front_of line.text) path) [
      | true ↦ λ h. begins_none rules path
      | false ↦ λ h. front_begins (h refl)
    ] in by a.by_path
  where
    front_begins : FrontAndRest path line.text (git_way rules.case) → BeginsAs rules (front_of line.text) path
    front_begins f = record { begins = f.begins; below = f.below; joined = f.value_cut; same = alike_by_case rules.case f.begins (front_of line.text) f.alike }

begins_based : (rules : Rules) (base : Option (List ℕ)) (path rest front : List ℕ) → RestOf rules.case base path rest → BeginsAs rules front rest → BeginsAs rules (unwrap_or base [] ++ front) path
begins_based rules None path rest front left b = record { begins = b.begins; below = b.below; joined = sym left ∙ b.joined; same = b.same }
begins_based rules (Some base) path rest front left b = record {
  begins = left.front ++ b.begins;
  below = b.below;
  joined = left.joined ∙ (ap (λ l. left.front ++ l) b.joined ∙ sym (append_assoc left.front b.begins b.below));
  same = folding_joined rules.case left.front b.begins base front left.same b.same;
}

pub begins_so : (rules : Rules) (line : LineParts) (path : List ℕ) (is_dir : Bool) → rules.reading ≡ Git → Meets rules line path is_dir → BeginsAs rules (beginning_of line) path
begins_so rules line path is_dir git m =
    let a = m.answers in
    let by_git = subst (λ reading. AnswersAs reading line.text line.mode m.rest a.basename_start is_dir rules.case) git a.answers in
    begins_based rules line.base path m.rest (front_of_line line) m.left (begins_front rules line m.rest a.basename_start (Some is_dir) by_git)

-- ---- a place of the beginning

alike_by_way : (case : Case) (a b : List ℕ) → folding_by case a ≡ folding_by case b → folding_of (git_way case) a ≡ folding_of (git_way case) b
alike_by_way Sensitive a b same = ap (folding_of (git_way Sensitive)) same
alike_by_way Fold a b same = same

front_byte : (rules : Rules) (text path : List ℕ) (n : ℕ) → BeginsAs rules text path → n < length text → fold (git_way rules.case) (get_or path n 0) ≡ fold (git_way rules.case) (get_or text n 0)
front_byte rules text path n b inside =
    let way = git_way rules.case in
    let alike = alike_by_way rules.case b.begins text b.same in
    let long : length b.begins ≡ length text = AreAlike-length way b.begins text alike in
    ap (fold way) (ap (λ (xs : List ℕ). get_or xs n 0) b.joined ∙ get_or-append b.begins b.below 0 n (omega arith)) ∙ AreAlike-at way b.begins text alike n (omega arith)

-- no path begins as both lines have it
pub begun_apart : (rules : Rules) (left right : LineParts) → rules.reading ≡ Git → (way : Way) → way ≡ git_way rules.case → DifferAtFront way (beginning_of left) (beginning_of right) → AreApart rules left right
begun_apart rules left right git way is differ = λ path is_dir real m k.
    let d = subst (λ (w : Way). DifferAtFront w (beginning_of left) (beginning_of right)) is differ in
    d.other (sym (front_byte rules (beginning_of left) path d.place (begins_so rules left path is_dir git m) d.in_left)
    ∙ front_byte rules (beginning_of right) path d.place (begins_so rules right path is_dir git k) d.in_right)

-- ---- a folder above the beginning

-- what begins so lies below a folder that is ignored, too
pub below_folder : {V : Type 0} (lists : List (EntryList V)) (rules : Rules) (text path folder : List ℕ) (by : ℕ × ℕ) → BeginsAs rules text path → IsAbove folder text → Ignores lists rules folder by
    → (other : List ℕ) × IsAbove other path × Ignores lists rules other by
below_folder lists rules text path folder by b above ignored =
    let made = made_by rules.case folder (slash ∷ above.0) b.begins (ap (folding_by rules.case) (sym above.1) ∙ sym b.same) in
    let more = slash_by rules.case above.0 made.second made.rests in
    let joined = b.joined ∙ (ap (λ l. l ++ b.below) (made.joined ∙ ap (λ l. made.first ++ l) more.1) ∙ append_assoc made.first (slash ∷ more.0) b.below) in
    (made.first, (more.0 ++ b.below, joined), ignores_as lists rules folder made.first made.fronts by ignored)
