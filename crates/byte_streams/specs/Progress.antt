-- How far a run over records has come.
use Rattle.std.specs.Prelude.{◌≡◌, ◌⊎◌, ℕ, suc, ◌+◌, ◌-◌, ◌*◌, ◌^◌, ◌≤◌, true, false, List, [], ◌++◌, length, Option}
use Rattle.std.specs.Io.KnownBytes.{Appends, Consumes, IsAtEnd}
use Rattle.std.specs.List.{slice_range}
use Rattle.byte_streams.specs.Records.{AreRecords, BeginsWith}
use Rattle.byte_streams.specs.declared.records.Records.{Records}

-- the writer took a front of the text, and what is left of it isn't written yet
pub record MovesOut (old new : Option (List ℕ)) (text left : List ℕ) : Type 0 where
  pub written : List ℕ
  pub appended : Appends old new written
  pub joined : text ≡ written ++ left

-- the bytes that were read and not given yet
abbrev pub held : Records → List ℕ
held records = slice_range records.piece records.at records.count

-- a measure: so many reads and so many bytes are left
abbrev pub fuel : Records → ℕ
fuel records = records.reads_left * suc (length records.piece) + length (held records)

-- Some input was read, of which these records were given, and a front of the text `all` was written, of which `text` isn't yet. The
-- reader had `left` and has `rest`, the writer held `old` and holds `new`.
pub record IsUnderWay (end : ℕ) (records : Records) (text : List ℕ) (left rest old new : Option (List ℕ)) (given : List (List ℕ)) (all : List ℕ) : Type 0 where
  pub ends : records.end ≡ end
  pub some : (records.at ≤ records.count) × (records.count ≤ length records.piece)
  pub input : List ℕ
  pub read : Consumes left rest input
  pub so_far : ((records.is_ended ≡ false) × BeginsWith end input given (held records) × (2 ^ 64 - 1 ≤ records.reads_left + length input))
      ⊎ ((records.is_ended ≡ true) × AreRecords end input given × (held records ≡ []) × IsAtEnd rest)
  pub moves : MovesOut old new all text

-- these records and this text, and no others
abbrev pub Exactly : List (List ℕ) → List ℕ → List (List ℕ) → List ℕ → Type 0
Exactly given all records text = (records ≡ given) × (text ≡ all)
