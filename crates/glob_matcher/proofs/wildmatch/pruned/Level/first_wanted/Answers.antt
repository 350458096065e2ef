use Rattle.std.proofs.Common.{◌≤◌, length, arith}
use Rattle.glob_matcher.proofs.lemmas.reading.Starts.{start_inside}
use Rattle.glob_matcher.proofs.wildmatch.pruned.Level.first_wanted.Goals as goal

pub token_at-token-requires : goal.token_at-token-requires
token_at-token-requires c =
    let inside : c.args.place ≤ length c.args.self.now.pattern.now = start_inside c.requires.start in
    omega arith
