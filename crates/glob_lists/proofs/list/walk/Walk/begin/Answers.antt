-- The chains of all ends of the path are added, each once.
use Rattle.std.proofs.Common.{◌≡◌, ◌∙◌, ℕ, ◌+◌, ◌-◌, inl, inr, ap, get_or, length, refl, subst, sym, arith}
use Rattle.std.proofs.lemmas.Bool.{iff_false}
use Rattle.std.proofs.lemmas.List.{length-map, length-set}
use Rattle.glob_lists.specs.declared.link.TheConstants.Link.{NONE}
use Rattle.glob_lists.specs.declared.list.walk.Walk.{Walk}
use Rattle.glob_lists.specs.Private.Asks.Literals.{without_bytes}
use Rattle.glob_lists.specs.Private.Lists.Chains.{AreChained, IsLastBelow, chain_of, chains_of, end_chain}
use Rattle.glob_lists.proofs.lemmas.Lists.WalkLemmas.{IsBegun, IsBegun-more, IsBegun-passed, IsWalk-begun}
use Rattle.glob_lists.proofs.list.walk.Walk.begin.Goals as goal
use Rattle.glob_lists.proofs.list.walk.Walk.begin.Goals.{After-end_chain, then-is_after+then-not-has, else-is_after, else-is_after-via-then-is_after+else-not-has, else-is_after-via-else-is_after}

-- the chain of the length that is added, and its last row
module _ (c : After-end_chain) (chained : AreChained c.args.rows.now c.args.heads.now) where
  its_chain : c.end_chain.result ≡ end_chain (length c.args.heads.now) (without_bytes c.args.probe.now.end (8 - (c.lengths.n + 1)))
  its_chain = c.end_chain.ensures.chain ∙ ap (end_chain (length c.args.heads.now)) c.key.ensures

  its_last : IsLastBelow (chains_of (length c.args.heads.now) c.args.rows.now) c.end_chain.result (length (chains_of (length c.args.heads.now) c.args.rows.now)) (get_or c.args.heads.now c.end_chain.result NONE)
  its_last = chained.linked.head c.end_chain.result c.end_chain.ensures.within

  all_rows : c.lengths.self.passed_from ≡ length (chains_of (length c.args.heads.now) c.args.rows.now)
  all_rows = c.lengths.invariant.all ∙ sym (length-map c.args.rows.now (chain_of (length c.args.heads.now)))

pub lengths-preserved : goal.lengths-preserved
lengths-preserved c =
    let old = c.lengths.invariant in
    let few = old.few in
    let wide = old.wide in
    let turn = c.lengths-test.true in
    let end = c.lengths.auto.n-end in
    let walk : Walk = c.lengths.self in
    let chains = chains_of (length c.args.heads.now) c.args.rows.now in
    let next = get_or c.args.heads.now c.end_chain.result NONE in
    let before = (goal.at.lengths-preserved c).After-end_chain in elim c.if-is_after.branch [
      | then-is_after+then-not-has w ↦ rw w.self-is (record {
        few = omega arith;
        wide = length-set walk.nexts walk.count next ∙ wide;
        latest = old.latest;
        all = old.all;
        none = λ zero. absurd (omega (arith, zero));
        below = old.below;
        lacking = old.lacking;
        other = old.other;
        begun = λ chained. IsBegun-more chains (length c.args.heads.now) c.args.probe.now.end c.lengths.n walk (old.begun chained) c.end_chain.result (its_chain before chained) next (all_rows before chained) (its_last before chained)
            (c.is_after.ensures.0 w.if-is_after.true) (iff_false w.has.ensures w.if-not-has.true) (omega arith);
      })
      | else-is_after w ↦ rw w.self-is (record {
        few = omega arith;
        wide = wide;
        latest = old.latest;
        all = old.all;
        none = old.none;
        below = old.below;
        lacking = old.lacking;
        other = old.other;
        begun = λ chained. IsBegun-passed chains (length c.args.heads.now) c.args.probe.now.end c.lengths.n walk (old.begun chained) c.end_chain.result (its_chain before chained) next (all_rows before chained) (its_last before chained)
            (elim w.else-is_after.branch [
              | else-is_after-via-then-is_after+else-not-has w' ↦ inr (w'.has.ensures.0 w'.if-not-has.false)
              | else-is_after-via-else-is_after w' ↦ (let not = iff_false c.is_after.ensures w'.if-is_after.false in inl (omega (arith, not)))
            ]);
      })
    ]

pub returns-then-self-gt1-clause-walk : goal.returns-then-self-gt1-clause-walk
returns-then-self-gt1-clause-walk c = λ chained some.
    let old = c.lengths.invariant in
    let eight : c.lengths.n ≡ 8 = omega (arith, c.lengths.auto.n-end, c.lengths-test.false) in
    IsWalk-begun c.args.rows.now c.args.heads.now chained c.args.probe.now c.lengths.self c.choose.new.self
    (subst (λ (n : ℕ). IsBegun (chains_of (length c.args.heads.now) c.args.rows.now) (length c.args.heads.now) c.args.probe.now.end n c.lengths.self) eight (old.begun chained)) old.lacking
    (subst (λ (n : ℕ). IsLastBelow (chains_of (length c.args.heads.now) c.args.rows.now) 0 n c.lengths.self.other) (sym old.all) (old.other chained)) c.choose.ensures.same

pub returns-else-self-gt1-clause-walk : goal.returns-else-self-gt1-clause-walk
returns-else-self-gt1-clause-walk c = λ chained some.
    let old = c.lengths.invariant in
    let eight : c.lengths.n ≡ 8 = omega (arith, c.lengths.auto.n-end, c.lengths-test.false) in
    IsWalk-begun c.args.rows.now c.args.heads.now chained c.args.probe.now c.lengths.self c.lengths.self
    (subst (λ (n : ℕ). IsBegun (chains_of (length c.args.heads.now) c.args.rows.now) (length c.args.heads.now) c.args.probe.now.end n c.lengths.self) eight (old.begun chained)) old.lacking
    (subst (λ (n : ℕ). IsLastBelow (chains_of (length c.args.heads.now) c.args.rows.now) 0 n c.lengths.self.other) (sym old.all) (old.other chained)) refl
