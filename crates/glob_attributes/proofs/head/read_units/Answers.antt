-- A byte more is the head's.
use Rattle.std.proofs.Common.{◌≡◌, ◌+◌, ◌∙◌, ap, sym, Some, drop}
use Rattle.std.proofs.lemmas.List.{take_rest}
use Rattle.std.specs.Prelude.{option_map}
use Rattle.glob_attributes.specs.Equations.Heads.{quoted_from, unit_at, with_front}
use Rattle.glob_attributes.proofs.lemmas.HeadLemmas.{quoted_from-unit, with_front-more}
use Rattle.glob_attributes.proofs.head.read_units.Goals as goal

pub units-preserved : goal.units-preserved
units-preserved c =
    let rest = c.units.rest.now in
    let head = c.units.head.items in
    let byte = c.in-Some.byte in
    let more = c.in-Some.more in
    let unit : unit_at rest ≡ Some (byte, more) = sym c.unit_at.ensures ∙ c.in-Some.is in
    rw take_rest (
    ap (λ h. option_map (with_front h) (quoted_from 0 (drop (more + 1) rest))) c.in_ok-push.ensures.items
    ∙ with_front-more head byte (quoted_from 0 (drop (more + 1) rest))
    ∙ sym (ap (option_map (with_front head)) (quoted_from-unit rest byte more unit))
    ∙ c.units.invariant)
