-- The place that was marked tells what is put in.
use Rattle.std.proofs.Common.{◌<◌, length, map, reverse, ap, sym, subst, ◌∙◌, arith}
use Rattle.std.specs.Prelude.{IfSome}
use Rattle.std.proofs.lemmas.List.{length-map}
use Rattle.glob_attributes.specs.Borrowed.{definition_of}
use Rattle.glob_attributes.proofs.lemmas.MarkingLemmas.{is_set-with}
use Rattle.glob_attributes.proofs.lemmas.TellingLemmas.{assignments_there, seen}
use Rattle.glob_attributes.proofs.borrowed.telling.put_in.Goals as goal

pub marked_place-requires : goal.marked_place-requires
marked_place-requires c = subst (λ n. IfSome c.last_place-named.result (λ place. place < n)) (sym c.requires) c.last_place-named.ensures.inside

pub returns-in_err-place-clause-put_in : goal.returns-in_err-place-clause-put_in
returns-in_err-place-clause-put_in c =
    let puts = c.in_err-place.ensures.puts_in (map definition_of c.args.macros.now) (seen c.args.assignment.now) (c.requires ∙ sym (length-map c.args.macros.now definition_of)) c.last_place-named.ensures.last (c.is_set.ensures ∙ is_set-with (λ bytes. bytes.now) c.args.assignment.now.state) in
    λ before marked. rw c.from_residual.ensures (puts.gives before marked)

pub returns-in_err-place-clause-marked : goal.returns-in_err-place-clause-marked
returns-in_err-place-clause-marked c =
    let puts = c.in_err-place.ensures.puts_in (map definition_of c.args.macros.now) (seen c.args.assignment.now) (c.requires ∙ sym (length-map c.args.macros.now definition_of)) c.last_place-named.ensures.last (c.is_set.ensures ∙ is_set-with (λ bytes. bytes.now) c.args.assignment.now.state) in
    λ before marked. puts.marked before marked

pub returns-in_err-place-clause-fewer : goal.returns-in_err-place-clause-fewer
returns-in_err-place-clause-fewer c =
    let puts = c.in_err-place.ensures.puts_in (map definition_of c.args.macros.now) (seen c.args.assignment.now) (c.requires ∙ sym (length-map c.args.macros.now definition_of)) c.last_place-named.ensures.last (c.is_set.ensures ∙ is_set-with (λ bytes. bytes.now) c.args.assignment.now.state) in
    rw c.from_residual.ensures puts.fewer

pub returns-in_err-place-clause-room : goal.returns-in_err-place-clause-room
returns-in_err-place-clause-room c =
    let puts = c.in_err-place.ensures.puts_in (map definition_of c.args.macros.now) (seen c.args.assignment.now) (c.requires ∙ sym (length-map c.args.macros.now definition_of)) c.last_place-named.ensures.last (c.is_set.ensures ∙ is_set-with (λ bytes. bytes.now) c.args.assignment.now.state) in
    rw c.from_residual.ensures puts.room

pub returns-in_err-place-clause-count : goal.returns-in_err-place-clause-count
returns-in_err-place-clause-count c =
    let puts = c.in_err-place.ensures.puts_in (map definition_of c.args.macros.now) (seen c.args.assignment.now) (c.requires ∙ sym (length-map c.args.macros.now definition_of)) c.last_place-named.ensures.last (c.is_set.ensures ∙ is_set-with (λ bytes. bytes.now) c.args.assignment.now.state) in
    puts.count

pub returns-clause-put_in : goal.returns-clause-put_in
returns-clause-put_in c =
    let puts = c.in_ok-place.ensures.puts_in (map definition_of c.args.macros.now) (seen c.args.assignment.now) (c.requires ∙ sym (length-map c.args.macros.now definition_of)) c.last_place-named.ensures.last (c.is_set.ensures ∙ is_set-with (λ bytes. bytes.now) c.args.assignment.now.state) in
    λ before marked. ap reverse (assignments_there c.args.macros.now c.in_ok-place.place (omega (arith, c.in_ok-place.ensures.inside, c.requires))) ∙ puts.gives before marked

pub returns-clause-marked : goal.returns-clause-marked
returns-clause-marked c =
    let puts = c.in_ok-place.ensures.puts_in (map definition_of c.args.macros.now) (seen c.args.assignment.now) (c.requires ∙ sym (length-map c.args.macros.now definition_of)) c.last_place-named.ensures.last (c.is_set.ensures ∙ is_set-with (λ bytes. bytes.now) c.args.assignment.now.state) in
    λ before marked. puts.marked before marked

pub returns-clause-fewer : goal.returns-clause-fewer
returns-clause-fewer c =
    let puts = c.in_ok-place.ensures.puts_in (map definition_of c.args.macros.now) (seen c.args.assignment.now) (c.requires ∙ sym (length-map c.args.macros.now definition_of)) c.last_place-named.ensures.last (c.is_set.ensures ∙ is_set-with (λ bytes. bytes.now) c.args.assignment.now.state) in
    omega (arith, ap length (assignments_there c.args.macros.now c.in_ok-place.place (omega (arith, c.in_ok-place.ensures.inside, c.requires))), puts.fewer)

pub returns-clause-room : goal.returns-clause-room
returns-clause-room c =
    let puts = c.in_ok-place.ensures.puts_in (map definition_of c.args.macros.now) (seen c.args.assignment.now) (c.requires ∙ sym (length-map c.args.macros.now definition_of)) c.last_place-named.ensures.last (c.is_set.ensures ∙ is_set-with (λ bytes. bytes.now) c.args.assignment.now.state) in
    puts.room

pub returns-clause-count : goal.returns-clause-count
returns-clause-count c =
    let puts = c.in_ok-place.ensures.puts_in (map definition_of c.args.macros.now) (seen c.args.assignment.now) (c.requires ∙ sym (length-map c.args.macros.now definition_of)) c.last_place-named.ensures.last (c.is_set.ensures ∙ is_set-with (λ bytes. bytes.now) c.args.assignment.now.state) in
    puts.count
