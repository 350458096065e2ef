use Rattle.std.proofs.Common.{◌≡◌, length}
use Rattle.gix_glob.specs.Paths.{named_parts, pieces}
use Rattle.gix_glob.proofs.search.parts.Parts.next_named.Given as goal

-- no part was passed over
abbrev pub invariant-pieces : goal.invariant-pieces
invariant-pieces l = record {
  kept : named_parts (pieces l.self.rest.now) ≡ named_parts (pieces l.fn.self.rest.now);
  same : l.self.is_at_front ≡ l.fn.self.is_at_front;
}

abbrev pub decreases-pieces : goal.decreases-pieces
decreases-pieces l = length l.self.rest.now
