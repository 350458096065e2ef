use Rattle.std.proofs.Common.{◌≡◌, length, ap, sym, arith}
use Rattle.std.specs.Option.{option_copied}
use Rattle.git_paths.specs.Paths.{parts_left, parts_of}
use Rattle.git_paths.proofs.lemmas.FrontLeftLemmas.{few_behind, front_left_is}
use Rattle.git_paths.proofs.fronts.front_left.Goals as goal

pub parts-init : goal.parts-init
parts-init c = record {
  stays = sym (front_left_is c.args.folder.now c.args.told.now);
  few = omega arith;
}

pub step-count-requires : goal.step-count-requires
step-count-requires c =
    let same : length (parts_left (option_copied c.parts.rest)) ≡ length (parts_of c.in-Some.left.now) = ap (λ rest. length (parts_left (option_copied rest))) c.in-Some.is in
    let most = few_behind c.args.told.now c.in-Some.left.now c.parts.depth (omega (arith, c.parts.invariant.few, same)) in
    omega (arith, most)
