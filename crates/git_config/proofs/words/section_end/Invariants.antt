use Rattle.std.proofs.Common.{◌≡◌, ◌+◌, ◌-◌, ◌≤◌, drop, length}
use Rattle.std.specs.List.{prefix_len}
use Rattle.git_config.specs.Grammar.{is_name_byte}
use Rattle.git_config.proofs.words.section_end.Given as goal

-- the bytes so far are of a name
abbrev pub invariant-bytes : goal.invariant-bytes
invariant-bytes l = record {
  within : l.end ≤ length l.key;
  counted : l.end + prefix_len is_name_byte (drop l.end l.key) ≡ prefix_len is_name_byte l.key;
}

abbrev pub decreases-bytes : goal.decreases-bytes
decreases-bytes l = length l.key - l.end
