-- The place that was marked tells what is put in.
use Rattle.std.proofs.Common.{length, reverse, ap, ◌∙◌, arith}
use Rattle.std.specs.Vec.{vec_items}
use Rattle.std.proofs.lemmas.List.{length-map}
use Rattle.glob_attributes.specs.Views.{assignment_with}
use Rattle.glob_attributes.specs.Private.Filling.{last_place}
use Rattle.glob_attributes.proofs.lemmas.MarkingLemmas.{is_set-with, named_within}
use Rattle.glob_attributes.proofs.filling.put_in.Goals as goal

pub marked_place-requires : goal.marked_place-requires
marked_place-requires c =
    named_within c.args.assignment.now.name.items c.args.macros.now (length c.args.marks.now) c.place_of-named.result (c.place_of-named.ensures ∙ ap (λ n. last_place n c.args.macros.now) c.deref.ensures.value) c.requires

pub returns-in-Some-clause-put_in : goal.returns-in-Some-clause-put_in
returns-in-Some-clause-put_in c =
    let puts = c.in-Some.ensures.puts_in c.args.macros.now (assignment_with vec_items c.args.assignment.now) c.requires (c.place_of-named.ensures ∙ ap (λ n. last_place n c.args.macros.now) c.deref.ensures.value) (c.is_set.ensures ∙ is_set-with vec_items c.args.assignment.now.state) in
    λ before marked. ap reverse c.assignments.ensures ∙ puts.gives before marked

pub returns-in-Some-clause-marked : goal.returns-in-Some-clause-marked
returns-in-Some-clause-marked c =
    let puts = c.in-Some.ensures.puts_in c.args.macros.now (assignment_with vec_items c.args.assignment.now) c.requires (c.place_of-named.ensures ∙ ap (λ n. last_place n c.args.macros.now) c.deref.ensures.value) (c.is_set.ensures ∙ is_set-with vec_items c.args.assignment.now.state) in
    λ before marked. puts.marked before marked

pub returns-in-Some-clause-fewer : goal.returns-in-Some-clause-fewer
returns-in-Some-clause-fewer c =
    let puts = c.in-Some.ensures.puts_in c.args.macros.now (assignment_with vec_items c.args.assignment.now) c.requires (c.place_of-named.ensures ∙ ap (λ n. last_place n c.args.macros.now) c.deref.ensures.value) (c.is_set.ensures ∙ is_set-with vec_items c.args.assignment.now.state) in
    omega (arith, ap length c.assignments.ensures, length-map c.assignments.result.now (assignment_with vec_items), puts.fewer)

pub returns-in-Some-clause-count : goal.returns-in-Some-clause-count
returns-in-Some-clause-count c =
    let puts = c.in-Some.ensures.puts_in c.args.macros.now (assignment_with vec_items c.args.assignment.now) c.requires (c.place_of-named.ensures ∙ ap (λ n. last_place n c.args.macros.now) c.deref.ensures.value) (c.is_set.ensures ∙ is_set-with vec_items c.args.assignment.now.state) in
    puts.count

pub returns-in-None-clause-put_in : goal.returns-in-None-clause-put_in
returns-in-None-clause-put_in c =
    let puts = c.in-None.ensures.puts_in c.args.macros.now (assignment_with vec_items c.args.assignment.now) c.requires (c.place_of-named.ensures ∙ ap (λ n. last_place n c.args.macros.now) c.deref.ensures.value) (c.is_set.ensures ∙ is_set-with vec_items c.args.assignment.now.state) in
    λ before marked. puts.gives before marked

pub returns-in-None-clause-marked : goal.returns-in-None-clause-marked
returns-in-None-clause-marked c =
    let puts = c.in-None.ensures.puts_in c.args.macros.now (assignment_with vec_items c.args.assignment.now) c.requires (c.place_of-named.ensures ∙ ap (λ n. last_place n c.args.macros.now) c.deref.ensures.value) (c.is_set.ensures ∙ is_set-with vec_items c.args.assignment.now.state) in
    λ before marked. puts.marked before marked

pub returns-in-None-clause-fewer : goal.returns-in-None-clause-fewer
returns-in-None-clause-fewer c =
    let puts = c.in-None.ensures.puts_in c.args.macros.now (assignment_with vec_items c.args.assignment.now) c.requires (c.place_of-named.ensures ∙ ap (λ n. last_place n c.args.macros.now) c.deref.ensures.value) (c.is_set.ensures ∙ is_set-with vec_items c.args.assignment.now.state) in
    omega (arith, puts.fewer)

pub returns-in-None-clause-count : goal.returns-in-None-clause-count
returns-in-None-clause-count c =
    let puts = c.in-None.ensures.puts_in c.args.macros.now (assignment_with vec_items c.args.assignment.now) c.requires (c.place_of-named.ensures ∙ ap (λ n. last_place n c.args.macros.now) c.deref.ensures.value) (c.is_set.ensures ∙ is_set-with vec_items c.args.assignment.now.state) in
    puts.count
