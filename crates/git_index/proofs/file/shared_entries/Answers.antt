use Rattle.std.proofs.Common.{◌≡◌, ◌∙◌, true, length, take, ◌-◌, refl, sym}
use Rattle.std.specs.Prelude.{nat_eq}
use Rattle.std.specs.List.{ends_with}
use Rattle.std.proofs.lemmas.Bool.Decides.{Decides-eqb}
use Rattle.std.proofs.lemmas.Result.{IfOk-weaker}
use Rattle.std.proofs.lemmas.Slice.Eq.{ends_is}
use Rattle.git_index.proofs.file.shared_entries.Goals as goal

pub returns-then-not-ends_with-clause-only : goal.returns-then-not-ends_with-clause-only
returns-then-not-ends_with-clause-only c = λ es is before ends room.
    let so : ends_with nat_eq c.args.bytes.now c.args.hash.now ≡ true = (ends_is Decides-eqb c.args.bytes.now c.args.hash.now (ends_with nat_eq c.args.bytes.now c.args.hash.now) refl).1 before ends in
    let yes : c.ends_with.result ≡ true = c.ends_with.ensures.value ∙ so in
    absurd cc

pub returns-in_default-2-clause-found : goal.returns-in_default-2-clause-found
returns-in_default-2-clause-found c =
    let ends = (ends_is Decides-eqb c.args.bytes.now c.args.hash.now (ends_with nat_eq c.args.bytes.now c.args.hash.now) refl).0 (sym c.ends_with.ensures.value ∙ c.if-not-ends_with.false) in
    IfOk-weaker c.whole.result _ _ (λ entries is. (is, (take (length c.args.bytes.now - length c.args.hash.now) c.args.bytes.now, ends))) c.whole.ensures.found
