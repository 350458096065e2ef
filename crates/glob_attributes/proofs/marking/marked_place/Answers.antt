-- The mark tells whether the macro was put in before.
use Rattle.std.proofs.Common.{◌<◌, length, false, Some, ap, sym, ◌∙◌, arith}
use Rattle.std.proofs.lemmas.Option.{slice_get-get_or}
use Rattle.glob_attributes.proofs.lemmas.FillingLemmas.{place_within}
use Rattle.glob_attributes.proofs.lemmas.MarkingLemmas.{puts_in_marked, puts_in_none, puts_in_set, puts_in_unset}
use Rattle.glob_attributes.proofs.marking.marked_place.Goals as goal

pub returns-in_default-clause-puts_in : goal.returns-in_default-clause-puts_in
returns-in_default-clause-puts_in c = λ macros assigned long named sets. puts_in_none macros c.args.marks.now assigned (sym named ∙ c.in_default.is)

pub returns-then-marks-place-clause-puts_in : goal.returns-then-marks-place-clause-puts_in
returns-then-marks-place-clause-puts_in c = λ macros assigned long named sets.
    let placed = sym named ∙ c.in-Some.is in
    let within : c.in-Some.place < length c.args.marks.now = omega (arith, long, place_within assigned.name macros c.in-Some.place placed) in
    puts_in_marked macros c.args.marks.now assigned c.in-Some.place placed (slice_get-get_or c.args.marks.now c.in-Some.place false within ∙ ap Some c.if-marks-place.true)

pub returns-then-sets-clause-puts_in : goal.returns-then-sets-clause-puts_in
returns-then-sets-clause-puts_in c = λ macros assigned long named sets.
    let placed = sym named ∙ c.in-Some.is in
    let within : c.in-Some.place < length c.args.marks.now = omega (arith, long, place_within assigned.name macros c.in-Some.place placed) in
    puts_in_set macros c.args.marks.now assigned c.in-Some.place placed (slice_get-get_or c.args.marks.now c.in-Some.place false within ∙ ap Some c.if-marks-place.false) (sym sets ∙ c.if-sets.true)

pub returns-else-sets-clause-puts_in : goal.returns-else-sets-clause-puts_in
returns-else-sets-clause-puts_in c = λ macros assigned long named sets.
    let placed = sym named ∙ c.in-Some.is in
    let within : c.in-Some.place < length c.args.marks.now = omega (arith, long, place_within assigned.name macros c.in-Some.place placed) in
    puts_in_unset macros c.args.marks.now assigned c.in-Some.place placed (slice_get-get_or c.args.marks.now c.in-Some.place false within ∙ ap Some c.if-marks-place.false) (sym sets ∙ c.if-sets.false)
