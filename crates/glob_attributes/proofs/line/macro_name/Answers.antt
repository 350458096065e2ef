-- The name is a part of what follows `[attr]`.
use Rattle.std.proofs.Common.{ap, arith, rules}
use Rattle.glob_attributes.proofs.lemmas.PartLemmas.{part_of_part}
use Rattle.glob_attributes.proofs.line.macro_name.Goals as goal

pub returns-clause-place : goal.returns-clause-place
returns-clause-place c =
    part_of_part _ _ c.args.head c.split_at_blank.ensures.word_place
    (part_of_part _ _ c.args.head c.before_zero.ensures.place
    (part_of_part _ _ c.args.head c.after_blanks.ensures.place
    (record { place = 6; begins = ap (λ n. (c.args.head.ref_ptr.0, n)) (omega arith); inside = search rules })))
