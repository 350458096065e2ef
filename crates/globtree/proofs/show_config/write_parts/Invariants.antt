use Rattle.std.proofs.Common.{◌≡◌, ◌+◌, ◌++◌, List, ℕ, [], false, cond, length}
use Rattle.std.specs.Io.KnownBytes.{Appends}
use Rattle.byte_streams.specs.Watched.{inner}
use Rattle.globtree.proofs.show_config.write_parts.Given as goal

-- what is left no more was written, and nothing is left where no more may follow
abbrev pub invariant-parts : goal.invariant-parts
invariant-parts g l =
    record {
      written : (part : List ℕ) × Appends (g.O.Write.contents (inner l.fn.output)) (g.O.Write.contents (inner l.output)) part × (l.fn.answer ≡ part ++ l.answer);
      empty : l.text.items ≡ [];
      whole : l.more ≡ false → l.answer ≡ [];
    }

abbrev pub decreases-parts : goal.decreases-parts
decreases-parts g l = cond l.more (length l.answer + 1) 0
