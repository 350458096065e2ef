-- The order of paths by their bytes.
use Rattle.std.proofs.Common.{◌≡◌, ℕ, ◌<◌, leb, List, subst, inl, inr}
use Rattle.std.specs.Prelude.{IsTrue}
use Rattle.std.specs.Ordering.{nat_cmp}
use Rattle.std.specs.declared.cmp.Ordering.TheVariants.{Equal, Greater}
use Rattle.std.specs.Cmp.Lexicographic.{slice_cmp}
use Rattle.std.proofs.lemmas.Bool.{leb-true, le-leb}
use Rattle.std.proofs.lemmas.Cmp.{nat_list_cmp_total, tied_itself}
use Rattle.std.proofs.lemmas.Map.Lookups.{exact_bytes}
use Rattle.git_index.specs.Entries.{ComesBefore, Tracked}

-- one path compares alike
pub path_equal : (a b : List ℕ) → a ≡ b → slice_cmp nat_cmp a b ≡ Equal
path_equal a b e = subst (λ (x : List ℕ). slice_cmp nat_cmp a x ≡ Equal) e (tied_itself nat_list_cmp_total a)

-- at one path the stages decide
pub before_at_one_path : (a b : Tracked) → slice_cmp nat_cmp a.path b.path ≡ Equal → 0 < a.stage → (IsTrue (leb a.stage b.stage) → ComesBefore a b) × (ComesBefore a b → IsTrue (leb a.stage b.stage))
before_at_one_path a b e high = (λ le. inr (exact_bytes a.path b.path e, high, leb-true _ _ le), λ h. elim h [ inl less ↦ absurd cc | inr same ↦ le-leb _ _ same.2 ])

pub not_before_a_lesser : (a b : Tracked) → slice_cmp nat_cmp a.path b.path ≡ Greater → ComesBefore a b → ⊥
not_before_a_lesser a b e (inl less) = cc
not_before_a_lesser a b e (inr same) = let alike : slice_cmp nat_cmp a.path b.path ≡ Equal = path_equal a.path b.path same.0 in cc
