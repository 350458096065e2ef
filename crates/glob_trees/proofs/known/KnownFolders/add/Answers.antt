-- The folder is found by its name, and each other one as before.
use Rattle.std.proofs.Common.{◌≡◌, ◌<◌, ◌++◌, ◌∷◌, [], Some, length, ap, sym, subst, ◌∙◌, length-append, arith}
use Rattle.std.specs.Prelude.{slice_get, slice_set}
use Rattle.std.proofs.lemmas.Option.{slice_get-get_or}
use Rattle.glob_trees.specs.Known.{AddsFolder}
use Rattle.glob_trees.specs.Private.Known.{AreInside}
use Rattle.glob_trees.proofs.lemmas.Links.{adds, inside_put, names_by}
use Rattle.glob_trees.proofs.known.KnownFolders.add.Goals as goal

pub returns : goal.returns
returns c =
    let old = c.args.self.now.inner.items in
    let items : c.push.new.self.items ≡ old ++ c.new.result ∷ [] = c.in_ok-push.ensures.items in
    let there : slice_get (old ++ c.new.result ∷ []) c.args.outer ≡ Some c.index_mut.result.now =
    subst (λ ls. slice_get ls c.args.outer ≡ Some c.index_mut.result.now) items (slice_get-get_or c.push.new.self.items c.args.outer c.index_mut.result.now (subst (λ ls. c.args.outer < length ls) (sym items) (omega (arith, c.requires, length-append old (c.new.result ∷ [])))) ∙ ap Some (sym c.index_mut.ensures.value)) in
    subst (λ ls. AddsFolder (names_by old) (names_by (slice_set ls c.args.outer c.insert.new.self)) c.args.outer c.args.name.now (length c.as_slice-place.result.now)) (sym items)
    (adds old c.new.result c.index_mut.result.now c.insert.new.self c.args.outer c.in_ok-name.name c.args.name.now (length c.as_slice-place.result.now) c.new.ensures.empty c.requires there c.in_ok-name.ensures.items (ap length c.as_slice-place.ensures.value) c.in_ok-insert.ensures.updates)

pub invariant_of-self-2 : goal.invariant_of-self-2
invariant_of-self-2 c =
    let old = c.args.self.now.inner.items in
    let items : c.push.new.self.items ≡ old ++ c.new.result ∷ [] = c.in_ok-push.ensures.items in
    let there : slice_get (old ++ c.new.result ∷ []) c.args.outer ≡ Some c.index_mut.result.now =
    subst (λ ls. slice_get ls c.args.outer ≡ Some c.index_mut.result.now) items (slice_get-get_or c.push.new.self.items c.args.outer c.index_mut.result.now (subst (λ ls. c.args.outer < length ls) (sym items) (omega (arith, c.requires, length-append old (c.new.result ∷ [])))) ∙ ap Some (sym c.index_mut.ensures.value)) in
    record {
      inside = subst (λ ls. AreInside (slice_set ls c.args.outer c.insert.new.self)) (sym items)
          (inside_put c.insert.result old c.new.result c.index_mut.result.now c.insert.new.self c.args.outer c.in_ok-name.name (length c.as_slice-place.result.now) c.new.ensures.empty c.requires there (ap length c.as_slice-place.ensures.value) c.insert.ensures.updates c.insert.ensures.err c.args.self.now.inside);
    }
