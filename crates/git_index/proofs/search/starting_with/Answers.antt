use Rattle.std.proofs.Common.{◌≡◌, ◌++◌, ◌∷◌, [], ℕ, List, nat_eq, map, sym, ap, ◌∙◌}
use Rattle.std.specs.List.{starts_with}
use Rattle.std.proofs.lemmas.List.{append-nil, map-append}
use Rattle.git_index.specs.Entries.{Tracked, starting_with, tracked}
use Rattle.git_index.proofs.lemmas.Copies.{copied}
use Rattle.git_index.proofs.lemmas.Starting.{starting_more}
use Rattle.git_index.proofs.search.starting_with.Goals as goal
use Rattle.git_index.proofs.search.starting_with.Goals.{then-starts_with+in_ok-clone+in_ok-push, else-starts_with}

pub entries-preserved : goal.entries-preserved
entries-preserved c =
    let front = c.args.front.now in
    let entry = c.entry-item.result in
    let before : List Tracked = map tracked c.entries.found.items in
    let more = starting_more front c.args.entries.now c.entries.entry-index _ entry c.starts_with.result c.entries-test.true (sym c.entry-item.is) (c.starts_with.ensures.value ∙ ap (λ (w : List ℕ). starts_with nat_eq w front) c.deref.ensures.value) in
    elim c.if-starts_with.branch [
      | then-starts_with+in_ok-clone+in_ok-push w ↦
          let copy : tracked w.in_ok-clone.field-0 ≡ tracked entry = copied entry w.in_ok-clone.field-0 w.in_ok-clone.ensures.cases in
          ap (λ found. map tracked found.items) w.found-is
          ∙ ap (map tracked) w.in_ok-push.ensures.items
          ∙ map-append tracked c.entries.found.items (w.in_ok-clone.field-0 ∷ [])
          ∙ ap (λ (w : Tracked). before ++ w ∷ []) copy
          ∙ ap (λ (w : List Tracked). w ++ tracked entry ∷ []) c.entries.invariant
          ∙ rw w.if-starts_with.true at more
      | else-starts_with w ↦
          ap (λ found. map tracked found.items) w.found-is
          ∙ c.entries.invariant
          ∙ sym (append-nil (starting_with front _))
          ∙ rw w.if-starts_with.false at more
    ]
