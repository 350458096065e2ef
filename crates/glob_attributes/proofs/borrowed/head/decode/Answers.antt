-- A byte more is the head's.
use Rattle.std.proofs.Common.{◌≡◌, ◌+◌, ◌<◌, ◌∙◌, ap, sym, Some, drop, length, take, arith}
use Rattle.std.proofs.lemmas.List.{length-set, take_more_set, take_rest}
use Rattle.std.specs.Prelude.{option_map}
use Rattle.glob_attributes.specs.Equations.Heads.{quoted_from, unit_at, with_front}
use Rattle.glob_attributes.proofs.lemmas.HeadLemmas.{quoted_from-unit, with_front-more}
use Rattle.glob_attributes.proofs.borrowed.head.decode.Goals as goal

pub loop-place-preserved : goal.loop-place-preserved
loop-place-preserved c =
    let rest = c.loop-place.rest.now in
    let head = c.loop-place.head in
    let place = c.loop-place.place in
    let byte = c.in-Some.byte in
    let more = c.in-Some.more in
    let within : place < length head = omega (arith, c.loop-place-test.true, c.loop-place.invariant.long) in
    let unit : unit_at rest ≡ Some (byte, more) = sym c.unit_at.ensures ∙ c.in-Some.is in
    record {
      read = rw take_rest (
          ap (λ h. option_map (with_front h) (quoted_from 0 (drop (more + 1) rest))) (take_more_set head place byte within)
          ∙ with_front-more (take place head) byte (quoted_from 0 (drop (more + 1) rest))
          ∙ sym (ap (option_map (with_front (take place head))) (quoted_from-unit rest byte more unit))
          ∙ c.loop-place.invariant.read);
      long = length-set head place byte ∙ c.loop-place.invariant.long;
    }
