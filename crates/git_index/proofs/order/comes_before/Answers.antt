use Rattle.std.proofs.Common.{◌≡◌}
use Rattle.std.specs.Ordering.{nat_cmp}
use Rattle.std.specs.declared.cmp.Ordering.TheVariants.{Equal, Greater}
use Rattle.std.specs.Cmp.Lexicographic.{slice_cmp}
use Rattle.git_index.specs.Entries.{tracked}
use Rattle.git_index.proofs.lemmas.Order.{before_at_one_path, not_before_a_lesser}
use Rattle.git_index.proofs.order.comes_before.Goals as goal

pub returns-then-first-gt0 : goal.returns-then-first-gt0
returns-then-first-gt0 c =
    let alike : slice_cmp nat_cmp c.args.first.now.path c.args.second.now.path ≡ Equal = cc in
    before_at_one_path (tracked c.args.first.now) (tracked c.args.second.now) alike c.if-first-gt0.true

pub returns-in-Greater : goal.returns-in-Greater
returns-in-Greater c =
    let lesser : slice_cmp nat_cmp c.args.first.now.path c.args.second.now.path ≡ Greater = cc in
    (λ no. absurd cc, λ h. absurd (not_before_a_lesser (tracked c.args.first.now) (tracked c.args.second.now) lesser h))
