-- A run over records, in another sense of what a text of records is.
use Rattle.std.proofs.Common.{ℕ, List, Option, inl, inr}
use Rattle.std.specs.Io.KnownBytes.{Appends}
use Rattle.byte_streams.specs.Records.{AnswersAll, AnswersEnded, AnswersFirst, AnswersSome}
use Rattle.byte_streams.specs.Transfers.{AppendsFront, Run}
use Rattle.byte_streams.proofs.lemmas.RecordLemmas.{AnswersBefore-weaker, Weakens}
use Rattle.byte_streams.proofs.lemmas.StreamLemmas.{AppendsFront-whole}

-- what was written whole is a beginning, too
pub Run-cut : (IsText : List (List ℕ) → List ℕ → Type 0) (end : ℕ) (IsRead : List ℕ → Type 0) (a b : Option (List ℕ)) → Run IsRead (AnswersFirst IsText end) (Appends a b)
    → Run IsRead (AnswersSome IsText end) (AppendsFront a b)
Run-cut IsText end IsRead a b run = record {
  input = run.input;
  read = run.read;
  text = run.text;
  allowed = inl run.allowed;
  written = AppendsFront-whole a b run.text run.written;
}

module _ (First Both : List (List ℕ) → List ℕ → Type 0) (weakens : Weakens First Both) (end : ℕ) (IsRead : List ℕ → Type 0) (Written : List ℕ → Type 0) where
  all_weaker : (bytes text : List ℕ) → AnswersAll First end bytes text → AnswersAll Both end bytes text
  all_weaker bytes text all = record { records = all.records; are = all.are; answered = weakens.weaken all.records text all.answered }

  first_weaker : (bytes text : List ℕ) → AnswersFirst First end bytes text → AnswersFirst Both end bytes text
  first_weaker bytes text first = (first.0, AnswersBefore-weaker First Both weakens end bytes first.0 text first.1)

  ended_weaker : (bytes text : List ℕ) → AnswersEnded First end bytes text → AnswersEnded Both end bytes text
  ended_weaker bytes text ended = (ended.0, ended.1, AnswersBefore-weaker First Both weakens end bytes ended.0 text ended.2)

  some_weaker : (bytes text : List ℕ) → AnswersSome First end bytes text → AnswersSome Both end bytes text
  some_weaker bytes text (inl first) = inl (first_weaker bytes text first)
  some_weaker bytes text (inr all) = inr (all_weaker bytes text all)

  pub Run-all_weaker : Run IsRead (AnswersAll First end) Written → Run IsRead (AnswersAll Both end) Written
  Run-all_weaker run = record { input = run.input; read = run.read; text = run.text; allowed = all_weaker run.input run.text run.allowed; written = run.written }

  pub Run-first_weaker : Run IsRead (AnswersFirst First end) Written → Run IsRead (AnswersFirst Both end) Written
  Run-first_weaker run = record { input = run.input; read = run.read; text = run.text; allowed = first_weaker run.input run.text run.allowed; written = run.written }

  pub Run-ended_weaker : Run IsRead (AnswersEnded First end) Written → Run IsRead (AnswersEnded Both end) Written
  Run-ended_weaker run = record { input = run.input; read = run.read; text = run.text; allowed = ended_weaker run.input run.text run.allowed; written = run.written }

  pub Run-some_weaker : Run IsRead (AnswersSome First end) Written → Run IsRead (AnswersSome Both end) Written
  Run-some_weaker run = record { input = run.input; read = run.read; text = run.text; allowed = some_weaker run.input run.text run.allowed; written = run.written }
