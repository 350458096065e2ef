use Rattle.std.proofs.Common.{bit_or, refl}
use Rattle.std.proofs.lemmas.Simd.{zip2_splat, length-chunk}
use lib.Lanes.{chunk}
use Rattle.git_paths.specs.declared.quoting.Quoting.TheVariants.{Full}
use Rattle.git_paths.specs.Quoting.{is_unusual}
use Rattle.git_paths.proofs.lemmas.LaneLemmas.{hit, below, at_most, joined, from_splat, none_is}
use Rattle.git_paths.proofs.unusual.is_usual_block.Goals as goal

pub returns : goal.returns
returns g c none =
    let told = c.args.bytes.now in
    let at = c.args.place in
    let n = g.row.N in
    let v = chunk at n told in
    let long = length-chunk at n told c.requires.2 in
    none_is (is_unusual Full) told at n _ c.requires.2 c.requires.1 c.type_inv.bytes none _
    (joined bit_or _ _ v
    (joined bit_or _ _ v (zip2_splat below v n 32 long) (from_splat at_most v n 127 long))
    (joined bit_or _ _ v (zip2_splat hit v n 34 long) (zip2_splat hit v n 92 long)))
    refl
