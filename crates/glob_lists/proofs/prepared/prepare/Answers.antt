-- The row of a pattern is chained to those before it.
use Rattle.std.proofs.Common.{◌≡◌, List, ◌%◌, ◌<◌, ℕ, Some, length, map, take, refl, sym, subst, ◌∙◌, arith}
use Rattle.std.specs.Prelude.{slice_get}
use Rattle.std.proofs.lemmas.List.{length-map, length-set, length-take, take_more_set}
use Rattle.std.proofs.lemmas.Option.{none-some}
use Rattle.gix_glob.specs.Entries.{Entry}
use Rattle.gix_glob.proofs.lemmas.Elements.{slice_get-map_at}
use Rattle.glob_lists.specs.declared.asks.row.Row.{Row}
use Rattle.glob_lists.specs.Private.Asks.Rows.{Asks}
use Rattle.glob_lists.specs.Private.Lists.Chains.{AreChained}
use Rattle.glob_lists.proofs.lemmas.Lists.ChainLemmas.{AreChained-none}
use Rattle.glob_lists.proofs.lemmas.Lists.RowLemmas.{AskInOrder, AskInOrder-more, Asks-linked}
use Rattle.glob_lists.proofs.prepared.prepare.Goals as goal

pub patterns-init : goal.patterns-init
patterns-init g c = record {
  long = refl;
  asked = λ m entry row there got. absurd (none-some row got);
  chained = AreChained-none 512 _ refl;
}

pub patterns-preserved : goal.patterns-preserved
patterns-preserved g c =
    let i = c.patterns.i in
    let patterns = c.args.patterns.now in
    let p = c.index-patterns-i.result in
    let seen = g.P.Viewed.seen in
    let entry : Entry (Unit {0}) = g.P.Viewed.seen p in
    let within : i < length patterns = omega arith in
    let room : i < length c.patterns.rows = omega (arith, c.patterns.invariant.long, c.has_room.ensures.0 c.if-not-has_room.false) in
    let long : length (take i c.patterns.rows) ≡ i = omega (arith, length-take i c.patterns.rows) in
    let asks : Asks entry.text entry.mode c.of_view.result = rw c.view.ensures.text at (rw c.view.ensures.mode at c.of_view.ensures) in
    let linked : Asks entry.text entry.mode c.chain.result = subst (Asks entry.text entry.mode) (sym c.chain.ensures.row) (Asks-linked entry.text entry.mode c.of_view.result c.chain.result.before asks) in
    let here : slice_get (map seen patterns) i ≡ Some entry = slice_get-map_at seen patterns i p within c.index-patterns-i.is in
    let spare = asks.spare in
    let whole : c.of_view.result.spare % 8 ≡ 0 = omega arith in record {
      long = length-set c.patterns.rows i c.chain.result ∙ c.patterns.invariant.long;
      asked = subst (AskInOrder (map seen patterns)) (sym (take_more_set c.patterns.rows i c.chain.result room))
          (AskInOrder-more (map seen patterns) (take i c.patterns.rows) i entry c.chain.result long here linked c.patterns.invariant.asked);
      chained = subst (λ (rows : List Row). AreChained rows c.chain.new.heads) (sym (take_more_set c.patterns.rows i c.chain.result room))
          (c.chain.ensures.chained (take i c.patterns.rows) (omega arith) long whole c.patterns.invariant.chained);
    }

pub returns-clause-prepared : goal.returns-clause-prepared
returns-clause-prepared g c is_prepared =
    let entries = map g.P.Viewed.seen c.args.patterns.now in
    let end : c.patterns.i ≡ length c.args.patterns.now = omega (arith, c.patterns-test.false, c.patterns.auto.i-end) in
    let all = length-map c.args.patterns.now g.P.Viewed.seen in
    let room = (c.has_room.ensures.0 c.if-not-has_room.false).0 in record {
      asked = record {
        many = omega (arith, length-take (length c.args.patterns.now) c.patterns.rows, c.patterns.invariant.long);
        each = subst (λ (n : ℕ). AskInOrder entries (take n c.patterns.rows)) end c.patterns.invariant.asked;
      };
      chained = subst (λ (n : ℕ). AreChained (take n c.patterns.rows) c.patterns.heads.links) end c.patterns.invariant.chained;
    }
