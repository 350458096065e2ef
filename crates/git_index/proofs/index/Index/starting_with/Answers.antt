use Rattle.std.proofs.Common.{List, map, sym, ap, subst, ◌∙◌}
use Rattle.git_index.specs.declared.entry.Entry.{Entry}
use Rattle.git_index.specs.Entries.{InOrder, Tracked, starting_with, tracked}
use Rattle.git_index.proofs.lemmas.Starting.{starting_in_order}
use Rattle.git_index.proofs.index.Index.starting_with.Goals as goal

pub invariant_of-result : goal.invariant_of-result
invariant_of-result c =
    let front = c.args.front.now in
    let all : List Tracked = map tracked c.self.inside.entries.items in
    subst (λ (w : List Tracked). InOrder w) (sym (c.in_ok-entries.ensures ∙ ap (λ (w : List Entry). starting_with front (map tracked w)) c.deref.ensures.value)) (starting_in_order front all c.self.invariant)
