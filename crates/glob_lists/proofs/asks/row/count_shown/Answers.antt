-- A row more is counted where it passes.
use Rattle.std.proofs.Common.{◌≡◌, ℕ, ⊎_elim, Some, sym, subst, arith}
use Rattle.std.specs.Prelude.{slice_get}
use Rattle.std.proofs.lemmas.Bool.{cases_eq, iff_false}
use Rattle.std.proofs.lemmas.Option.{get_or_from_slice_get, slice_get_within}
use Rattle.glob_lists.specs.declared.asks.row.Row.{Row}
use Rattle.glob_lists.specs.Private.Asks.Showing.{Passes}
use Rattle.glob_lists.proofs.asks.row.count_shown.Goals as goal
use Rattle.glob_lists.proofs.asks.row.count_shown.Goals.{then-is_shown_by, else-is_shown_by}

pub rows-preserved : goal.rows-preserved
rows-preserved c =
    let old = c.rows.invariant in elim c.if-is_shown_by.branch [
      | then-is_shown_by w ↦ record {
        few = omega (arith, w.count-is, old.few, c.rows.auto.m);
        most = omega (arith, w.count-is, old.few, c.rows.auto.m, c.rows-test.true);
        some = λ row below got passes. omega (arith, w.count-is);
      }
      | else-is_shown_by w ↦ record {
        few = omega (arith, w.count-is, old.few);
        most = omega (arith, w.count-is, old.most);
        some = λ row below got passes. ⊎_elim
            (λ (here : c.args.from ≡ c.rows.m).
            let is = get_or_from_slice_get c.args.rows.now c.rows.m row _ (subst (λ (n : ℕ). slice_get c.args.rows.now n ≡ Some row) here got) in
            absurd (iff_false c.is_shown_by.ensures w.if-is_shown_by.false (subst (λ (r : Row). Passes r c.args.probe.now) (sym is) passes)))
            (λ (apart : c.args.from ≡ c.rows.m → ⊥). let one = old.some row (omega arith) got passes in omega (arith, w.count-is, one))
            (cases_eq c.args.from c.rows.m);
      }
    ]

pub returns-clause-few : goal.returns-clause-few
returns-clause-few c = c.rows.invariant.most

pub returns-clause-some : goal.returns-clause-some
returns-clause-some c row got passes = (let inside = slice_get_within c.args.rows.now c.args.from row got in c.rows.invariant.some row (omega (arith, c.rows-test.false)) got passes)
