-- A word more is read.
use Rattle.std.proofs.Common.{◌∷◌, ◌++◌, ◌∙◌, [], ap, sym, map}
use Rattle.std.specs.Vec.{vec_items}
use Rattle.std.proofs.lemmas.List.{map_push}
use Rattle.glob_attributes.specs.Views.{assignment_with}
use Rattle.glob_attributes.specs.Words.{words_of}
use Rattle.glob_attributes.proofs.lemmas.AssignmentLemmas.{assigned, assigned-read, before}
use Rattle.glob_attributes.proofs.line.read_assignments.Goals as goal

pub loop-word-preserved : goal.loop-word-preserved
loop-word-preserved c =
    let see = assignment_with vec_items in
    let old = c.loop-word.assignments.items in
    let one = c.in_ok-own_assignment.field-0 in
    let word = c.in-Some.word.now in
    let words = words_of c.next.new.self.rest.now in
    ap (λ l. before (map see l) (assigned words)) c.in_ok-push.ensures.items
    ∙ ap (λ l. before l (assigned words)) (map_push see old one)
    ∙ ap (λ x. before (map see old ++ x ∷ []) (assigned words)) c.in_ok-own_assignment.ensures
    ∙ assigned-read (map see old) word words (assignment_with (λ bytes. bytes.now) c.in-Some-read_assignment.assignment) c.in-Some-read_assignment.ensures
    ∙ ap (λ ws. before (map see old) (assigned ws)) (sym c.in-Some.ensures.steps)
    ∙ c.loop-word.invariant
