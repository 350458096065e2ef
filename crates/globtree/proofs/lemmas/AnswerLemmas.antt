-- What `match-pathspec` is asked was answered.
use Rattle.std.proofs.Common.{◌≡◌, ℕ, Bool, true, List, [], ◌∷◌, Option, Ok, Result, IfOk, subst}
use Rattle.std.specs.Prelude.{if◌then◌else◌}
use Rattle.std.specs.Io.KnownBytes.{Appends}
use Rattle.byte_streams.specs.Transfers.{ReadsWhole, Run}
use Rattle.byte_streams.specs.Records.{AnswersAll}
use Rattle.byte_streams.specs.declared.fault.RecordFault.{RecordFault}
use Rattle.pathspecs.specs.declared.settings.Settings.{Settings}
use Rattle.pathspecs.specs.Reading.{AreRead}
use Rattle.git_paths.specs.declared.quoting.Quoting.TheVariants.{Full}
use Rattle.tree_answers.specs.Lines.{behind}
use Rattle.globtree.specs.declared.matching.PathMatcher.{PathMatcher}
use Rattle.globtree.specs.declared.words.match_pathspec.MatchPathspec.{MatchPathspec}
use Rattle.globtree.specs.Answers.{AnswersMatch, bytes_of}
use Rattle.globtree.specs.Matching.{IsWholeText}
use Rattle.globtree.specs.Running.{form_by}

pub answers_by : {F : Type 0} (asked : MatchPathspec) (status : ℕ) (left rest old new : Option (List ℕ)) (matcher : PathMatcher) (outcome : Result Bool (RecordFault F)) (is_any : Bool)
    → IfOk outcome (λ any. Run (ReadsWhole left rest) (AnswersAll (IsWholeText matcher any) (behind matcher.form 10)) (Appends old new)) → outcome ≡ Ok is_any → status ≡ (if is_any then 0 else 1)
    → (settings : Settings) → (matcher.standpoint.now.is_inside ≡ true) × (matcher.standpoint.now.here.items ≡ []) × (matcher.standpoint.now.top.items ≡ 0 ∷ [])
    → AreRead matcher.standpoint.now settings (bytes_of asked.pathspecs.items) matcher.list → bytes_of matcher.words.now ≡ bytes_of asked.pathspecs.items → (matcher.verbose ≡ asked.verbose) × (matcher.form ≡ form_by asked.nul Full)
    → AnswersMatch asked status left rest old new
answers_by asked status left rest old new matcher outcome is_any so is ends settings from list words asks = record {
  matcher = matcher;
  settings = settings;
  from = from;
  list = list;
  words = words;
  asks = asks;
  is_any = is_any;
  ends = ends;
  read = subst (λ o. IfOk o (λ any. Run (ReadsWhole left rest) (AnswersAll (IsWholeText matcher any) (behind matcher.form 10)) (Appends old new))) is so;
}
