-- A byte more is the head's, and takes one byte of the text or more.
use Rattle.std.proofs.Common.{◌≡◌, ◌+◌, ◌<◌, ◌∙◌, ◌++◌, ◌∷◌, [], ap, sym, Some, drop, length, arith}
use Rattle.std.proofs.lemmas.List.{length-drop, length_push, take_rest}
use Rattle.std.specs.Prelude.{option_map}
use Rattle.glob_attributes.specs.Equations.Heads.{quoted_from, unit_at, with_front}
use Rattle.glob_attributes.proofs.lemmas.HeadLemmas.{drop-drop, quoted_from-unit, unit_at-inside, with_front-more}
use Rattle.glob_attributes.proofs.borrowed.head.measure.Goals as goal

pub units-preserved : goal.units-preserved
units-preserved c =
    let text = c.args.text.now in
    let place = c.units.place in
    let rest = drop place text in
    let byte = c.in-Some.field-0-0 in
    let more = c.in-Some.more in
    let h = c.units.invariant.read in
    let unit : unit_at rest ≡ Some (byte, more) = ap unit_at (sym (take_rest text place)) ∙ sym c.unit_at.ensures ∙ c.in-Some.is in
    let within = unit_at-inside rest byte more unit in
    let left = length-drop place text in
    record {
      read = (
        h.0 ++ byte ∷ [],
        length_push h.0 byte ∙ ap (λ n. n + 1) h.1,
        with_front-more h.0 byte (quoted_from 0 (drop (place + (more + 1)) text))
            ∙ ap (λ l. option_map (with_front h.0) (option_map (with_front (byte ∷ [])) (quoted_from 0 l))) (sym (drop-drop text place (more + 1)))
            ∙ ap (option_map (with_front h.0)) (sym (quoted_from-unit rest byte more unit))
            ∙ h.2,
      );
      inside = omega (arith, c.units.invariant.inside, within, left);
      short = omega (arith, c.units.invariant.short);
    }

pub returns-clause-rest : goal.returns-clause-rest
returns-clause-rest c =
    let text = c.args.text.now in
    let within : c.units.place < length text = omega (arith, c.units.invariant.inside, c.if-place-text.false) in
    let rest = ap length (take_rest text (c.units.place + 1)) ∙ length-drop (c.units.place + 1) text in
    record {
      place = c.units.place + 1;
      begins = ap (λ n. (c.args.text.ref_ptr.0, n)) (omega arith);
      inside = omega (arith, within, rest);
    }
