use Rattle.std.proofs.Common.{◌≡◌, ◌+◌, ◌-◌, ◌≤◌, drop, length}
use Rattle.std.specs.List.{prefix_len}
use Rattle.pathspecs.specs.Spelling.{is_sign}
use Rattle.pathspecs.proofs.heads.sign_count.Given as goal

-- what was passed are signs, and so are those that follow
abbrev pub invariant-signs : goal.invariant-signs
invariant-signs l = (l.count + prefix_len is_sign (drop l.count l.text) ≡ prefix_len is_sign l.text) × (l.count ≤ length l.text)

abbrev pub decreases-signs : goal.decreases-signs
decreases-signs l = length l.text - l.count
