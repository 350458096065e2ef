use Rattle.std.proofs.Common.{◌≡◌, ◌+◌, ◌-◌, ◌≤◌, take, length}
use Rattle.std.specs.List.{suffix_len}
use Rattle.git_config.specs.Grammar.{is_name_byte}
use Rattle.git_config.proofs.words.name_start.Given as goal

-- the bytes behind are of a name
abbrev pub invariant-bytes : goal.invariant-bytes
invariant-bytes l = record {
  within : l.start ≤ length l.key;
  counted : (length l.key - l.start) + suffix_len is_name_byte (take l.start l.key) ≡ suffix_len is_name_byte l.key;
}

abbrev pub decreases-bytes : goal.decreases-bytes
decreases-bytes l = l.start
