-- No call failed, and what was written is a front of the text about the records so far.
use Rattle.std.proofs.Common.{◌≡◌, ℕ, false, List, Option}
use Rattle.byte_streams.specs.Progress.{IsUnderWay, fuel}
use Rattle.byte_streams.specs.Watched.{has_failed, inner}
use Rattle.globtree.proofs.explain.answer_records.Given as goal

abbrev pub invariant-records : goal.invariant-records
invariant-records g l = record {
  readable : has_failed l.input ≡ false;
  writable : has_failed l.output ≡ false;
  way : (end : ℕ) × (left old : Option (List ℕ)) × (given : List (List ℕ)) × (all : List ℕ)
      × IsUnderWay end l.records l.text.items left (g.I.Read.remaining (inner l.input)) old (g.O.Write.contents (inner l.output)) given all;
}

abbrev pub decreases-records : goal.decreases-records
decreases-records g l = fuel l.records
