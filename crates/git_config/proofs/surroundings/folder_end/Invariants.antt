use Rattle.std.proofs.Common.{◌≡◌, ◌+◌, ◌-◌, ◌≤◌, take, length, not}
use Rattle.std.specs.List.{suffix_len}
use Rattle.git_config.specs.Paths.{is_slash}
use Rattle.git_config.proofs.surroundings.folder_end.Given as goal

-- no slash is behind
abbrev pub invariant-bytes : goal.invariant-bytes
invariant-bytes l = record {
  within : l.end ≤ length l.path;
  counted : (length l.path - l.end) + suffix_len (λ b. not (is_slash b)) (take l.end l.path) ≡ suffix_len (λ b. not (is_slash b)) l.path;
}

abbrev pub decreases-bytes : goal.decreases-bytes
decreases-bytes l = l.end
