use Rattle.std.proofs.Common.{◌≡◌, ◌-◌, arith, ap, sym, ◌∙◌}
use Rattle.std.specs.Str.{bytes_eq}
use Rattle.std.proofs.lemmas.Slice.Eq.{bytes_eq-Decides}
use Rattle.std.proofs.lemmas.Bool.{ltb-true}
use Rattle.pathspecs.proofs.lemmas.TextLemmas.{at_contains, is_last_before, none_before}
use Rattle.pathspecs.proofs.texts.is_among.Goals as goal

pub returns-then-behind-gt0 : goal.returns-then-behind-gt0
returns-then-behind-gt0 c =
    let decides = bytes_eq-Decides c.index-sorted-behind.result.items c.args.text.now in
    let is : c.eq.result ≡ bytes_eq c.index-sorted-behind.result.items c.args.text.now = c.eq.ensures ∙ ap (λ w. bytes_eq w c.args.text.now) c.as_slice.ensures.value in (
      λ yes. at_contains c.args.sorted.now c.args.text.now (c.first_behind-behind.result - 1) c.index-sorted-behind.result (omega (arith, c.first_behind-behind.ensures.within)) c.index-sorted-behind.is (decides.0 (sym is ∙ yes)),
      λ has. is ∙ decides.1 (is_last_before c.args.sorted.now c.requires c.args.text.now c.first_behind-behind.result c.first_behind-behind.ensures.before c.first_behind-behind.ensures.behind c.first_behind-behind.ensures.within c.index-sorted-behind.result c.index-sorted-behind.is has),
    )

pub returns-else-behind-gt0 : goal.returns-else-behind-gt0
returns-else-behind-gt0 c = (
  λ yes. absurd (let e = ltb-true _ _ yes in omega (arith, e)),
  λ has. absurd (none_before c.args.sorted.now c.requires c.args.text.now c.first_behind-behind.result c.first_behind-behind.ensures.before c.first_behind-behind.ensures.behind (omega arith) has),
)
