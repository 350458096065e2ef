-- Runs that stop before a path was answered.
use Rattle.std.proofs.Common.{◌≡◌, ℕ, Bool, false, List, [], Option, Err, refl, sym}
use Rattle.std.proofs.KnownBytes.{Appends-nil, Consumes-nil}
use Rattle.std.proofs.lemmas.Bool.{false≢true}
use Rattle.std.specs.Io.KnownBytes.{Appends, Consumes}
use Rattle.byte_streams.specs.Transfers.{AppendsFront, Run}
use Rattle.byte_streams.specs.declared.fault.RecordFault.TheVariants.{Memory}
use Rattle.byte_streams.specs.Records.{AnswersFirst, TextOf}
use Rattle.byte_streams.proofs.lemmas.RunLemmas.{Run-cut}
use Rattle.byte_streams.proofs.lemmas.StreamLemmas.{AppendsFront-whole}
use Rattle.byte_streams.specs.Runs.{EndsRun}
use Rattle.tree_commands.specs.Answering.{IsTextOfFirst, Writes}

pub none_answered : (Answers : List ℕ → List ℕ → Type 0) → TextOf Answers [] []
none_answered Answers = record { written = []; each = tt; joined = refl }

module _ (Answers : List ℕ → List ℕ → Type 0) (end : ℕ) (left old : Option (List ℕ)) where
  none_run : Run (Consumes left left) (AnswersFirst (TextOf Answers) end) (Appends old old)
  none_run = record {
    input = [];
    read = Consumes-nil left;
    text = [];
    allowed = ([], record { records = []; begins = record { joined = refl; each = tt }; answered = none_answered Answers });
    written = Appends-nil old;
  }

  -- memory was refused before anything was read
  pub refused_run : {F : Type 0} (IsWhole : Unit {0} → List (List ℕ) → List ℕ → Type 0) (a_read_failed a_write_failed : Bool) → a_read_failed ≡ false → a_write_failed ≡ false
      → EndsRun {F = F} IsWhole (TextOf Answers) end (Err Memory) left left old old a_read_failed a_write_failed
  refused_run IsWhole a_read_failed a_write_failed unread unwritten = record {
    ok = tt;
    err = λ _. none_run;
    unread = λ h. absurd (false≢true h);
    cut = Run-cut (TextOf Answers) end (Consumes left left) old old none_run;
    endless = λ h. absurd (false≢true h);
    read = sym unread;
    write = sym unwritten;
  }

pub none_first : (Answers : List ℕ → List ℕ → Type 0) (paths : List (List ℕ)) (old : Option (List ℕ)) → Writes (IsTextOfFirst Answers paths) (AppendsFront old old)
none_first Answers paths old = ([], ([], paths, refl, none_answered Answers), AppendsFront-whole old old [] (Appends-nil old))
