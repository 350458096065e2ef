-- The text is cut out between what stands before it and what stands behind it.
use Rattle.std.proofs.Common.{◌-◌, length, ap, arith, rules}
use Rattle.gix_glob_c.proofs.places.part_before.Goals as goal

pub returns-clause-place : goal.returns-clause-place
returns-clause-place c = record {
  place = length c.args.bytes.now - c.args.count - length c.args.text.now;
  begins = ap (λ n. (c.args.bytes.ref_ptr.0, n)) (omega arith);
  inside = search rules;
}
