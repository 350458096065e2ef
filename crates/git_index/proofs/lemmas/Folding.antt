-- Comparing paths without case.
use Rattle.std.proofs.Common.{◌≡◌, ℕ, zero, suc, ◌<◌, ◌≤◌, List, [], ◌∷◌, ◌++◌, length, get_or, drop, take, min, true, refl, sym, ap, ◌∙◌, arith}
use Rattle.std.specs.Char.{to_ascii_lowercase}
use Rattle.std.specs.Cmp.{nat_cmp_is}
use Rattle.std.specs.Ordering.{MatchOrdering, is_eq, nat_cmp, ordering_then}
use Rattle.std.specs.declared.cmp.Ordering.{Ordering}
use Rattle.std.specs.declared.cmp.Ordering.TheVariants.{Less, Equal, Greater}
use Rattle.std.specs.Cmp.Lexicographic.{slice_cmp}
use Rattle.std.proofs.lemmas.Cmp.{ranked}
use Rattle.std.proofs.lemmas.List.{drop-map, get_or-map, length-map, map-append, take-append-drop, take-map, take_at}
use Rattle.std.proofs.lemmas.Map.Text.{is_eq-slice_cmp}
use Rattle.std.proofs.lemmas.Slice.Eq.{bytes_eq-Decides}
use Rattle.std.proofs.Math.Seq.{drop-cons, get_or-append_seam}
use Rattle.glob_matcher.specs.Bytes.{slash}
use Rattle.glob_matcher.proofs.lemmas.cutting.SlashLemmas.{slash_of_lowercase}
use Rattle.git_index.proofs.lemmas.Search.{cmp-split}
use Rattle.git_index.specs.Folding.{folded}
use Rattle.git_index.specs.Private.Folds.{LiesBelowFolded}

abbrev pub cmp : List ℕ → List ℕ → Ordering
cmp = slice_cmp nat_cmp

-- numbers compare as those do that are one more
stepped_by : (a b : ℕ) (r : Ordering) → MatchOrdering r (a < b) (a ≡ b) (b < a) → MatchOrdering r (suc a < suc b) (suc a ≡ suc b) (suc b < suc a)
stepped_by a b Less is = omega arith
stepped_by a b Equal is = ap suc is
stepped_by a b Greater is = omega arith

stepped : (a b : ℕ) → nat_cmp a b ≡ nat_cmp (suc a) (suc b)
stepped a b = nat_cmp_is (suc a) (suc b) (nat_cmp a b) (stepped_by a b (nat_cmp a b) (ranked a b (nat_cmp a b) refl))

-- where one of them ends, the lengths decide
pub lengths_decide : (path other : List ℕ) (n : ℕ) → n ≡ min (length path) (length other) → cmp (folded (drop n path)) (folded (drop n other)) ≡ nat_cmp (length path) (length other)
lengths_decide [] [] zero is = refl
lengths_decide [] [] (suc n) is = absurd (omega arith)
lengths_decide [] (o ∷ other) zero is = nat_cmp_is 0 (suc (length other)) Less (omega arith)
lengths_decide [] (o ∷ other) (suc n) is = absurd (omega arith)
lengths_decide (p ∷ path) [] zero is = nat_cmp_is (suc (length path)) 0 Greater (omega arith)
lengths_decide (p ∷ path) [] (suc n) is = absurd (omega arith)
lengths_decide (p ∷ path) (o ∷ other) zero is = absurd (omega arith)
lengths_decide (p ∷ path) (o ∷ other) (suc n) is = lengths_decide path other n (omega arith) ∙ stepped (length path) (length other)

-- ---- a path that is told in two parts

pub joined_parts : (path front end : List ℕ) → cmp (folded path) (folded (front ++ end)) ≡ cmp (folded path) (folded front ++ folded end)
joined_parts path front end = ap (cmp (folded path)) (map-append to_ascii_lowercase front end)

pub cut_parts : (path front end : List ℕ) → length front ≤ length path
    → ordering_then (cmp (folded (take (length front) path)) (folded front)) (cmp (folded (drop (length front) path)) (folded end)) ≡ cmp (folded path) (folded (front ++ end))
cut_parts path front end le =
    rw (length-map front to_ascii_lowercase, take-map to_ascii_lowercase (length front) path, drop-map to_ascii_lowercase (length front) path)
    at (cmp-split (folded path) (folded front) (folded end) (omega (arith, length-map path to_ascii_lowercase, length-map front to_ascii_lowercase)))
    ∙ sym (joined_parts path front end)

pub folded_zero : (path : List ℕ) → folded (path ++ 0 ∷ []) ≡ folded path ++ 0 ∷ []
folded_zero path = map-append to_ascii_lowercase path (0 ∷ [])

pub folded_slash : (folder : List ℕ) → folded (folder ++ slash ∷ []) ≡ folded folder ++ slash ∷ []
folded_slash folder = map-append to_ascii_lowercase folder (slash ∷ [])

-- ---- a path below a folder

-- a path goes on below what stands before its slash
pub goes_on_below : (path folder : List ℕ) (d : ℕ) → length folder < length path → get_or path (length folder) d ≡ slash → folded (take (length folder) path) ≡ folded folder → LiesBelowFolded path folder
goes_on_below path folder d lt is same =
    let n = length folder in
    let rest : folded (drop n path) ≡ slash ∷ folded (drop (suc n) path) = ap folded (drop-cons path n d lt) ∙ ap (λ (b : ℕ). to_ascii_lowercase b ∷ folded (drop (suc n) path)) is in
    (folded (drop (suc n) path), ap folded (sym (take-append-drop n path)) ∙ map-append to_ascii_lowercase (take n path) (drop n path) ∙ rw (same, rest) refl)

pub front_below : (path folder : List ℕ) → LiesBelowFolded path folder → folded (take (length folder) path) ≡ folded folder
front_below path folder below =
    sym (take-map to_ascii_lowercase (length folder) path) ∙ ap (take (length folder)) below.1 ∙ take_at (folded folder) (slash ∷ below.0) (length folder) (length-map folder to_ascii_lowercase)

pub slash_below : (path folder : List ℕ) (d : ℕ) → length folder < length path → LiesBelowFolded path folder → get_or path (length folder) d ≡ slash
slash_below path folder d lt below =
    let at : get_or (folded path) (length folder) 0 ≡ slash = ap (λ (w : List ℕ). get_or w (length folder) 0) below.1 ∙ ap (λ (n : ℕ). get_or (folded folder ++ slash ∷ below.0) n 0) (sym (length-map folder to_ascii_lowercase)) ∙ get_or-append_seam (folded folder) slash below.0 0 in
    slash_of_lowercase (get_or path (length folder) d) (sym (get_or-map to_ascii_lowercase path (length folder) d 0 lt) ∙ at)

-- ---- equal ones

pub alike_by_cmp : (path other : List ℕ) → is_eq (cmp path other) ≡ true → path ≡ other
alike_by_cmp path other is = (bytes_eq-Decides path other).0 (sym (is_eq-slice_cmp path other) ∙ is)

pub cmp_of_alike : (path other : List ℕ) → path ≡ other → is_eq (cmp path other) ≡ true
cmp_of_alike path other same = is_eq-slice_cmp path other ∙ (bytes_eq-Decides path other).1 same
