-- Which pattern of a stack of lists decides about a path: of two last answers neither is before the other.
use Rattle.std.proofs.Common.{◌≡◌, ⊎_elim, ℕ, ◌<◌, ◌≤◌, Bool, List, Option, None, Some, refl, ap, ◌∙◌, arith}
use Rattle.glob_lists.specs.declared.rules.Rules.{Rules}
use Rattle.glob_lists.specs.Deciding.{Decides}
use Rattle.gix_glob.specs.EntryLists.{EntryList}

pub decides_once : {V : Type 0} (lists : List (EntryList V)) (path : List ℕ) (is_dir : Bool) (rules : Rules) (pair other : Option (ℕ × ℕ))
    → Decides lists path is_dir rules pair → Decides lists path is_dir rules other → pair ≡ other
decides_once lists path is_dir rules None None x y = refl
decides_once lists path is_dir rules None (Some q) x y = absurd (x q.0 q.1 y.answers)
decides_once lists path is_dir rules (Some p) None x y = absurd (y p.0 p.1 x.answers)
decides_once lists path is_dir rules (Some p) (Some q) x y =
    let same : (p.0 ≡ q.0) × (p.1 ≡ q.1) =
    ⊎_elim
    (λ (below : q.0 < p.0). ⊎_elim (λ (above : p.0 < q.0). absurd (omega arith)) (λ (level : (p.0 ≡ q.0) × (p.1 ≤ q.1)). absurd (omega (arith, level.0))) (y.last p.0 p.1 x.answers))
    (λ (here : (q.0 ≡ p.0) × (q.1 ≤ p.1)). ⊎_elim
    (λ (above : p.0 < q.0). absurd (omega (arith, here.0)))
    (λ (level : (p.0 ≡ q.0) × (p.1 ≤ q.1)). (level.0, omega (arith, here.1, level.1)))
    (y.last p.0 p.1 x.answers))
    (x.last q.0 q.1 y.answers) in
    ap (λ (i : ℕ). Some (i, p.1)) same.0 ∙ ap (λ (m : ℕ). Some (q.0, m)) same.1
