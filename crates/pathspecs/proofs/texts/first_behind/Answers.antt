use Rattle.std.proofs.Common.{rules}
use Rattle.std.specs.Prelude.{not}
use Rattle.std.specs.Cmp.Lexicographic.{slice_cmp}
use Rattle.std.specs.Ordering.{is_gt, nat_cmp}
use Rattle.std.proofs.lemmas.List.Sorted.{IsPartitionPoint-from_clause}
use Rattle.pathspecs.proofs.lemmas.TextLemmas.{is_false, is_true, parted}
use Rattle.pathspecs.proofs.texts.first_behind.Goals as goal

pub returns-clause-before : goal.returns-clause-before
returns-clause-before c =
    let point = IsPartitionPoint-from_clause (λ x. not (is_gt (slice_cmp nat_cmp x.items c.args.text.now))) c.args.sorted.now c.partition_point.result c.partition_point.ensures.partitioned
    (parted c.args.sorted.now c.requires c.args.text.now) (λ a r q k. search rules) in
    λ k d low high. is_false _ (point.0 k d low high)

pub returns-clause-behind : goal.returns-clause-behind
returns-clause-behind c =
    let point = IsPartitionPoint-from_clause (λ x. not (is_gt (slice_cmp nat_cmp x.items c.args.text.now))) c.args.sorted.now c.partition_point.result c.partition_point.ensures.partitioned
    (parted c.args.sorted.now c.requires c.args.text.now) (λ a r q k. search rules) in
    λ k d low high. is_true _ (point.1 k d low high)
