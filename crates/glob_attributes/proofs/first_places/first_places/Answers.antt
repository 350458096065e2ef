-- An attribute that has no place yet is named first here.
use Rattle.std.proofs.Common.{◌≡◌, ◌+◌, map, take, not, Some, ap, sym, subst, ◌∙◌}
use Rattle.std.specs.Prelude.{if◌then◌else◌, slice_get}
use Rattle.std.specs.Option.{is_some}
use Rattle.std.specs.Str.{bytes_eq}
use Rattle.std.proofs.lemmas.Bool.{false≢true}
use Rattle.gix_glob.proofs.lemmas.Elements.{slice_get-map_at}
use Rattle.glob_attributes.specs.Private.Filling.{seen_entry}
use Rattle.glob_attributes.specs.Private.Firsts.{AreFirst}
use Rattle.glob_attributes.specs.Private.Places.{place_in}
use Rattle.glob_attributes.proofs.lemmas.FirstLemmas.{AreFirst-kept, AreFirst-more, none_from}
use Rattle.glob_attributes.proofs.first_places.first_places.Goals.{else-is_none, then-is_none+in_ok-set}
use Rattle.glob_attributes.proofs.first_places.first_places.Goals as goal

pub places-preserved : goal.places-preserved
places-preserved c =
    let all = map seen_entry c.args.filled.now in
    let i = c.places.i in
    let assigned = seen_entry c.index-filled-i.result in
    let there : slice_get all i ≡ Some assigned = slice_get-map_at seen_entry c.args.filled.now i c.index-filled-i.result c.places-test.true c.index-filled-i.is in
    let name_is = c.as_slice-name.ensures.value ∙ ap (λ (entry : _). entry.now.name.items) (sym c.index-filled-i.is) in
    let got = c.get.ensures ∙ ap (place_in c.places.places) name_is in
    elim c.if-is_none.branch [
      | then-is_none+in_ok-set w ↦
          AreFirst-more all i assigned c.places.places c.if-is_none.places there
          (sym got ∙ none_from c.get.result (c.is_none.ensures ∙ ap not w.if-is_none.true))
          (λ other. ap (λ places. place_in places other) w.places-is ∙ (w.in_ok-set.ensures.set other ∙ ap (λ name. if bytes_eq name other then Some i else place_in c.places.places other) name_is))
          c.places.invariant
      | else-is_none w ↦
          subst (AreFirst all (take (i + 1) all)) (sym w.places-is)
          (AreFirst-kept all i assigned c.places.places there
          (λ none. false≢true (ap is_some (sym (got ∙ none)) ∙ (c.is_none.ensures ∙ ap not w.if-is_none.false)))
          c.places.invariant)
    ]
