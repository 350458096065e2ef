use Rattle.std.proofs.Common.{◌≡◌, ◌+◌, ◌-◌, ◌≤◌, drop, length}
use Rattle.std.specs.List.{prefix_len}
use Rattle.std.specs.Char.{is_ascii_hexdigit}
use Rattle.git_repository.proofs.finder.digit_count.Given as goal

-- the bytes so far are digits
abbrev pub invariant-bytes : goal.invariant-bytes
invariant-bytes l = record {
  within : l.end ≤ length l.text;
  counted : l.end + prefix_len is_ascii_hexdigit (drop l.end l.text) ≡ prefix_len is_ascii_hexdigit l.text;
}

abbrev pub decreases-bytes : goal.decreases-bytes
decreases-bytes l = length l.text - l.end
