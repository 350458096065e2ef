-- Each mapping has its row, which is chained to those before it.
use Rattle.std.proofs.Common.{◌≡◌, ◌%◌, ◌<◌, [], ◌∷◌, List, Some, ap, length, length-append, map, sym, subst, arith}
use Rattle.std.specs.Prelude.{slice_get}
use Rattle.std.proofs.lemmas.List.{length-map}
use Rattle.gix_glob.specs.Entries.{entry_of}
use Rattle.gix_glob.specs.PatternParts.{mode_of, text_of}
use Rattle.gix_glob.proofs.lemmas.Elements.{slice_get-map_at}
use Rattle.glob_lists.specs.declared.asks.row.Row.{Row}
use Rattle.glob_lists.specs.Private.Asks.Rows.{Asks}
use Rattle.glob_lists.specs.Private.Lists.Chains.{AreChained}
use Rattle.glob_lists.proofs.lemmas.Lists.RowLemmas.{AskInOrder, AskInOrder-more, Asks-linked}
use Rattle.glob_lists.proofs.list.rows.rows_of.Goals as goal

pub mappings-preserved : goal.mappings-preserved
mappings-preserved g c =
    let entries = map (entry_of g.T.Pattern.seen) c.args.list.now.patterns.items in
    let within : c.mappings.m < length c.args.list.now.patterns.items = omega (arith, c.mappings-test.true, ap length c.as_slice-mappings.ensures.value) in
    let is = rw c.as_slice-mappings.ensures.value at c.index-mappings-m.is in
    let here : slice_get entries c.mappings.m ≡ Some (entry_of g.T.Pattern.seen c.index-mappings-m.result) = slice_get-map_at (entry_of g.T.Pattern.seen) c.args.list.now.patterns.items c.mappings.m c.index-mappings-m.result within is in
    let asks = subst (λ mapping. Asks (text_of mapping.pattern) (mode_of mapping.pattern) c.new.result) (sym c.index-mappings-m.is) c.new.ensures in
    let linked = subst (Asks (text_of c.index-mappings-m.result.pattern) (mode_of c.index-mappings-m.result.pattern)) (sym c.chain.ensures.row)
    (Asks-linked (text_of c.index-mappings-m.result.pattern) (mode_of c.index-mappings-m.result.pattern) c.new.result c.chain.result.before asks) in
    let spare = asks.spare in
    let whole : c.new.result.spare % 8 ≡ 0 = omega arith in
    let many = c.mappings.invariant.many in record {
      many = omega (arith, ap length c.in_ok-push.ensures.items, length-append c.mappings.rows.items (c.chain.result ∷ []), c.mappings.invariant.many);
      each = subst (AskInOrder entries) (sym c.in_ok-push.ensures.items)
          (AskInOrder-more entries c.mappings.rows.items c.mappings.m (entry_of g.T.Pattern.seen c.index-mappings-m.result) c.chain.result c.mappings.invariant.many here linked c.mappings.invariant.each);
      wide = omega (arith, c.mappings.invariant.wide);
      chained = λ some. subst (λ (rows : List Row). AreChained rows c.chain.new.heads) (sym c.in_ok-push.ensures.items)
          (c.chain.ensures.chained c.mappings.rows.items (omega (arith, some, c.mappings.invariant.wide)) many whole (c.mappings.invariant.chained some));
    }

pub returns : goal.returns
returns g c =
    let many = length-map c.args.list.now.patterns.items (entry_of g.T.Pattern.seen) in record {
      asked = record {
        many = omega (arith, c.mappings.invariant.many, c.mappings-test.false, c.mappings.auto.m-end, ap length c.as_slice-mappings.ensures.value);
        each = c.mappings.invariant.each;
      };
      chained = c.mappings.invariant.chained;
      many = c.mappings.invariant.wide;
    }
