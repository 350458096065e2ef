-- A run over records whose text grows.
use Rattle.std.proofs.Common.{◌≡◌, ℕ, List, ◌++◌, Option, ap, ◌∙◌, append_assoc}
use Rattle.byte_streams.specs.Progress.{IsUnderWay}
use Rattle.byte_streams.specs.declared.records.Records.{Records}

pub way_grows : (end : ℕ) (records : Records) (text more : List ℕ) (left rest old new : Option (List ℕ)) (given : List (List ℕ)) (all : List ℕ)
    → IsUnderWay end records text left rest old new given all → IsUnderWay end records (text ++ more) left rest old new given (all ++ more)
way_grows end records text more left rest old new given all way = record {
  ends = way.ends;
  some = way.some;
  input = way.input;
  read = way.read;
  so_far = way.so_far;
  moves = record {
    written = way.moves.written;
    appended = way.moves.appended;
    joined = ap (λ t. t ++ more) way.moves.joined ∙ append_assoc way.moves.written text more;
  };
}
