-- How a run over records comes to its end.
use Rattle.std.specs.Prelude.{◌≡◌, ℕ, ◌-◌, ◌^◌, ◌≤◌, Bool, false, List, length, Option, Result, IfOk, IsTrue, OnErr}
use Rattle.std.specs.Io.KnownBytes.{Appends, Consumes}
use Rattle.byte_streams.specs.Transfers.{AppendsFront, ReadsWhole, Run}
use Rattle.byte_streams.specs.declared.fault.RecordFault.{RecordFault}
use Rattle.byte_streams.specs.Faults.{is_endless, is_read_fault, is_write_fault}
use Rattle.byte_streams.specs.Records.{AnswersAll, AnswersEnded, AnswersFirst, AnswersSome}

-- `IsText records text` says which text is that of records, and `IsWhole x records text` the same
-- of all, where the run answers x. The reader had `left` and has `rest`, the writer held `old` and holds `new`.
pub record EndsRun {X F : Type 0} (IsWhole : X → List (List ℕ) → List ℕ → Type 0) (IsText : List (List ℕ) → List ℕ → Type 0) (end : ℕ) (result : Result X (RecordFault F)) (left rest old new : Option (List ℕ)) (a_read_failed a_write_failed : Bool) : Type 0 where
  -- on success, all of the input was read, and the text of all its records was written
  pub ok : IfOk result (λ x. Run (ReadsWhole left rest) (AnswersAll (IsWhole x) end) (Appends old new))
  -- after a fault that is none of the writer's, the text of the first records was written
  pub err : OnErr result (a_write_failed ≡ false → Run (Consumes left rest) (AnswersFirst IsText end) (Appends old new))
  -- after a failed read, that of all that ended in what was read
  pub unread : IsTrue (is_read_fault result) → Run (Consumes left rest) (AnswersEnded IsText end) (Appends old new)
  -- after one of the writer's, a beginning of such a text was
  pub cut : OnErr result (Run (Consumes left rest) (AnswersSome IsText end) (AppendsFront old new))
  pub endless : IsTrue (is_endless result) → (input : List ℕ) × Consumes left rest input × (2 ^ 64 - 1 ≤ length input)
  pub read : is_read_fault result ≡ a_read_failed
  pub write : is_write_fault result ≡ a_write_failed
