use Rattle.std.proofs.Common.{arith, sym, ◌∙◌}
use Rattle.std.proofs.lemmas.Bool.Decides.{Decides-eqb}
use Rattle.std.proofs.lemmas.Slice.Eq.{starts_is}
use Rattle.std.specs.Prelude.{drop, length}
use Rattle.std.proofs.lemmas.Bool.{ltb-true}
use Rattle.pathspecs.proofs.lemmas.TextLemmas.{begins_at, goes_on_at, none_behind}
use Rattle.pathspecs.proofs.texts.goes_on.Goals as goal

pub returns-then-behind-sorted : goal.returns-then-behind-sorted
returns-then-behind-sorted c =
    let text = c.args.text.now in
    let begins = starts_is Decides-eqb c.deref.result.now text c.starts_with.result c.starts_with.ensures.value in
    let found = c.first_behind-behind in (
      λ yes. goes_on_at c.args.sorted.now c.requires text found.result found.ensures.before found.ensures.behind c.index-sorted-behind.result (drop (length text) c.deref.result.now) (omega arith) c.index-sorted-behind.is
          (sym c.deref.ensures.value ∙ begins.0 yes),
      λ has. let more = begins_at c.args.sorted.now c.requires text found.result found.ensures.before found.ensures.behind c.index-sorted-behind.result c.index-sorted-behind.is has in begins.1 more.0 (c.deref.ensures.value ∙ more.1),
    )

pub returns-else-behind-sorted : goal.returns-else-behind-sorted
returns-else-behind-sorted c =
    let found = c.first_behind-behind in (
      λ yes. absurd (let e = ltb-true _ _ yes in omega (arith, e)),
      λ has. absurd (none_behind c.args.sorted.now c.requires c.args.text.now found.result found.ensures.before found.ensures.behind (omega arith) has),
    )
