use Rattle.std.proofs.Common.{map}
use Rattle.std.specs.Vec.{vec_items}
use Rattle.std.proofs.lemmas.List.Sorted.{Contains-permutation, IsPermutation-map, IsPermutation-sym}
use Rattle.pathspecs.proofs.texts.Texts.new.Goals as goal

pub returns : goal.returns
returns c =
    let old = map vec_items c.args.texts.items in
    let new = map vec_items c.sort_unstable.new.self.items in
    let moved = IsPermutation-map vec_items c.args.texts.items c.sort_unstable.new.self.items c.sort_unstable.ensures.permutation in
    λ text. (λ has. Contains-permutation new old text (IsPermutation-sym old new moved) has, λ has. Contains-permutation old new text moved has)
