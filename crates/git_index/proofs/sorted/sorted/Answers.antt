use Rattle.std.proofs.Common.{[], ◌∷◌, map, ap, ◌∙◌, arith, rules}
use Rattle.std.proofs.lemmas.List.{length-map, map-append, take_all}
use Rattle.git_index.specs.Entries.{tracked}
use Rattle.git_index.proofs.lemmas.Copies.{copied}
use Rattle.git_index.specs.Folding.{alike}
use Rattle.git_index.proofs.lemmas.Sorting.{one_more, sorted_alike, sorted_in_order}
use Rattle.git_index.proofs.sorted.sorted.Goals as goal

pub loop-entry-preserved : goal.loop-entry-preserved
loop-entry-preserved c =
    ap (map tracked) c.in_ok-push.ensures.items
    ∙ map-append tracked c.loop-entry.sorted.items _
    ∙ one_more c.args.entries.now c.loop-entry.entry-index c.entry-item.result _ (map tracked c.loop-entry.sorted.items) c.loop-entry-test.true c.entry-item.is c.loop-entry.invariant (ap (λ t. t ∷ []) (copied c.entry-item.result c.in_ok-clone.field-0 c.in_ok-clone.ensures.cases))

pub returns-clause-ordered : goal.returns-clause-ordered
returns-clause-ordered c = sorted_in_order (λ a r q k. search rules) c.sort_by.new.self.items c.in_ok-sort_by.ensures.sorted

pub returns-clause-same : goal.returns-clause-same
returns-clause-same c = λ path.
    sorted_alike (λ a r q k. search rules) c.sort_by.new.self.items c.loop-entry.sorted.items c.in_ok-sort_by.ensures.stable path
    ∙ ap (λ es. alike es path) (c.loop-entry.invariant ∙ take_all c.loop-entry.entry-index (map tracked c.args.entries.now) (omega (arith, c.loop-entry-test.false, length-map c.args.entries.now tracked)))
