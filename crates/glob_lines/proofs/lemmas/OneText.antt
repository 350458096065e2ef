-- Each input has one text: what is written is determined by what was read.
use Rattle.std.proofs.Common.{◌≡◌, inl, inr, ℕ, ◌+◌, Bool, List, [], ◌∷◌, ◌++◌, length, take, map, Option, None, Some, refl, sym, ap, subst, ◌∙◌, arith, length-append, take_at}
use Rattle.std.specs.List.{AllZip, flat_map}
use Rattle.std.specs.Prelude.{MatchOption, codes, if◌then◌else◌, slice_get}
use Rattle.std.proofs.lemmas.List.{append_cancel_left, append_cancel_right}
use Rattle.std.proofs.lemmas.Option.{same_Some}
use Rattle.glob_lists.specs.declared.rules.Rules.{Rules}
use Rattle.glob_lists.specs.Deciding.{AnswersUnder, Decides}
use Rattle.gix_glob.specs.EntryLists.{EntryList}
use Rattle.gix_glob.specs.Paths.{Base, folder, parts}
use Rattle.glob_lines.specs.Decisions.{WritesDecision, WritesVerdict, verdict}
use Rattle.glob_lines.specs.Equations.Lines.{lines_of}
use Rattle.glob_lines.specs.Lines.{EndsInFeed, WritesLines, text_of_lines}
use Rattle.glob_lines.specs.Mappings.{WritesNumbers}
use Rattle.glob_lines.specs.Numbers.{Picks, text_of_numbers}
use Rattle.glob_lines.specs.PathLines.{WritesForPath}
use Rattle.glob_lines.specs.Plain.{PlainEntry}
use Rattle.glob_lines.proofs.lemmas.LinesLemmas.{Lines-only, TellsLines-lines_of}

-- ---- lines

-- where a line determines what is written for it, lines do
lines_once : (P : List ℕ → List ℕ → Type 0) → ((line a b : List ℕ) → P line a → P line b → a ≡ b) → (lines us vs : List (List ℕ))
    → AllZip P lines us → AllZip P lines vs → us ≡ vs
lines_once P once [] [] [] x y = refl
lines_once P once [] [] (b ∷ vs) x y = absurd y
lines_once P once [] (a ∷ us) vs x y = absurd x
lines_once P once (line ∷ lines) [] vs x y = absurd x
lines_once P once (line ∷ lines) (a ∷ us) [] x y = absurd y
lines_once P once (line ∷ lines) (a ∷ us) (b ∷ vs) x y = cc (once line a b x.0 y.0, lines_once P once lines us vs x.1 y.1)

pub text_once : (P : List ℕ → List ℕ → Type 0) → ((line a b : List ℕ) → P line a → P line b → a ≡ b)
    → (input a b : List ℕ) → WritesLines P input a → WritesLines P input b → a ≡ b
text_once P once input a b x y =
    let same : y.lines ≡ x.lines =
    Lines-only EndsInFeed lines_of TellsLines-lines_of input y.lines y.cut ∙ sym (Lines-only EndsInFeed lines_of TellsLines-lines_of input x.lines x.cut) in
    x.joined ∙ ap text_of_lines (lines_once P once x.lines x.written y.written x.each (subst (λ lines. AllZip P lines y.written) same y.each)) ∙ sym y.joined

-- ---- the line of a path

pub for_path_once : (P : List ℕ → Bool → List ℕ → Type 0) → ((path : List ℕ) (is_dir : Bool) (a b : List ℕ) → P path is_dir a → P path is_dir b → a ≡ b)
    → (line a b : List ℕ) → WritesForPath P line a → WritesForPath P line b → a ≡ b
for_path_once P once line a b (inl x) (inl y) = x.1 ∙ sym y.1
for_path_once P once line a b (inl x) (inr y) = absurd (x.0 y.0)
for_path_once P once line a b (inr x) (inl y) = absurd (y.0 x.0)
for_path_once P once line a b (inr x) (inr y) =
    let mark : y.2 ≡ x.2 = y.3.marked ∙ sym x.3.marked in
    let joined : line ≡ y.1 ++ (if x.2 then codes "/" else []) = subst (λ d. line ≡ y.1 ++ (if d then codes "/" else [])) mark y.3.joined in
    let path : y.1 ≡ x.1 = append_cancel_right y.1 x.1 (if x.2 then codes "/" else []) (sym joined ∙ x.3.joined) in
    once x.1 x.2 a b x.4 (subst (λ p. P p x.2 b) path (subst (λ d. P y.1 d b) mark y.4))

-- ---- the numbers of the entries that answer

picks_once : {X : Type 0} (P : X → Type 0) (xs us vs : List X) → Picks P xs us → Picks P xs vs → us ≡ vs
picks_once P [] us vs x y = x ∙ sym y
picks_once P (z ∷ zs) us vs (inl x) (inl y) = x.2 ∙ ap (λ l. z ∷ l) (picks_once P zs x.1 y.1 x.3 y.3) ∙ sym y.2
picks_once P (z ∷ zs) us vs (inl x) (inr y) = absurd (y.0 x.0)
picks_once P (z ∷ zs) us vs (inr x) (inl y) = absurd (x.0 y.0)
picks_once P (z ∷ zs) us vs (inr x) (inr y) = picks_once P zs us vs x.1 y.1

pub numbers_once : (entries : List PlainEntry) (base : Option (List ℕ)) (rules : Rules) (path : List ℕ) (is_dir : Bool) (a b : List ℕ)
    → WritesNumbers entries base rules path is_dir a → WritesNumbers entries base rules path is_dir b → a ≡ b
numbers_once entries base rules path is_dir a b x y =
    let chosen : x.chosen ≡ y.chosen = picks_once (λ entry. AnswersUnder base entry path is_dir rules) entries x.chosen y.chosen x.picks y.picks in
    x.shown ∙ ap (λ entries. text_of_numbers (map (λ entry. entry.number) entries)) chosen ∙ sym y.shown

-- ---- what decides

module _ {V : Type 0} (lists : List (EntryList V)) where
  verdict_once : (pair : ℕ × ℕ) (a b : List ℕ) → WritesVerdict lists pair a → WritesVerdict lists pair b → a ≡ b
  verdict_once pair a b x y =
      let list : y.list ≡ x.list = same_Some y.list x.list (sym y.of_lists ∙ x.of_lists) in
      let there : slice_get x.list.entries pair.1 ≡ Some y.entry = subst (λ (l : EntryList V). slice_get l.entries pair.1 ≡ Some y.entry) list y.of_list in
      let entry : y.entry ≡ x.entry = same_Some y.entry x.entry (sym there ∙ x.of_list) in
      x.shown ∙ sym (y.shown ∙ ap (verdict (pair.0 + 1)) entry)

  shown_once : (pair : Option (ℕ × ℕ)) (a b : List ℕ) → MatchOption pair (a ≡ codes "none") (λ p. WritesVerdict lists p a) → MatchOption pair (b ≡ codes "none") (λ p. WritesVerdict lists p b) → a ≡ b
  shown_once None a b x y = x ∙ sym y
  shown_once (Some pair) a b x y = verdict_once pair a b x y

  pub decision_once : (rules : Rules) → ((path : List ℕ) (is_dir : Bool) (pair other : Option (ℕ × ℕ)) → Decides lists path is_dir rules pair → Decides lists path is_dir rules other → pair ≡ other)
      → (path : List ℕ) (is_dir : Bool) (a b : List ℕ) → WritesDecision lists rules path is_dir a → WritesDecision lists rules path is_dir b → a ≡ b
  decision_once rules one_pair path is_dir a b x y =
      let same : y.pair ≡ x.pair = one_pair path is_dir y.pair x.pair y.decides x.decides in
      shown_once x.pair a b x.shown (subst (λ (pair : Option (ℕ × ℕ)). MatchOption pair (b ≡ codes "none") (λ p. WritesVerdict lists p b)) same y.shown)

-- ---- the base

without_last_once : (xs ys : List (List ℕ)) (x y : List ℕ) → xs ++ x ∷ [] ≡ ys ++ y ∷ [] → xs ≡ ys
without_last_once xs ys x y same =
    let lengths : length ys ≡ length xs = omega (arith, ap length same, length-append xs (x ∷ []), length-append ys (y ∷ [])) in
    sym (take_at xs (x ∷ []) (length xs) refl) ∙ (ap (take (length xs)) same ∙ take_at ys (y ∷ []) (length xs) lengths)

pub base_once : (source : List ℕ) (root a b : Option (List ℕ)) → Base source root a → Base source root b → a ≡ b
base_once source None a b x y = x ∙ sym y
base_once source (Some root) None None x y = refl
base_once source (Some root) None (Some b) x y = absurd (x b y)
base_once source (Some root) (Some a) None x y = absurd (y a x)
base_once source (Some root) (Some a) (Some b) x y =
    let below = append_cancel_left (parts root) (x.between ++ x.file ∷ []) (y.between ++ y.file ∷ []) (sym x.joined ∙ y.joined) in
    ap Some (x.shown ∙ ap (flat_map folder) (without_last_once x.between y.between x.file y.file below) ∙ sym y.shown)
