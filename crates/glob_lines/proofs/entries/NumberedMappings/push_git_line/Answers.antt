-- The mapping is that of the reading.
use Rattle.std.proofs.Common.{◌≡◌, ◌+◌, ◌++◌, List, Option, None, Some, ℕ, map, sym, ap, ◌∙◌, append-nil}
use Rattle.std.specs.Option.{option_copied, option_map, option_to_list}
use Rattle.gix_glob.specs.Equations.Readings.{Reading}
use Rattle.gix_glob.specs.Equations.GitLines.{git_reading_of}
use Rattle.gix_glob.specs.Entries.{entry_of}
use Rattle.gix_glob.specs.Equations.Entries.{entry_with}
use Rattle.glob_lines.specs.Equations.Entries.{entry_of_text}
use Rattle.glob_lines.specs.Equations.GitLines.{git_reading}
use Rattle.glob_lines.specs.Private.Reading.{reading_in}
use Rattle.glob_lines.proofs.entries.NumberedMappings.push_git_line.Goals as goal

pub returns-clause-entry : goal.returns-clause-entry
returns-clause-entry g c =
    let old = map (entry_of (λ v. v)) c.args.self.now.mappings.items in
    let number = c.args.self.now.lines + 1 in
    let text = c.in-Some.text.now in
    let given : option_copied c.args.text ≡ Some text = ap option_copied c.in-Some.is in
    let is : git_reading_of text ≡ reading_in c.in_ok-pattern.pattern = (c.git_readings_are_these.ensures _ _ _ _).0 c.in_ok-pattern.ensures in
    c.in_ok-push.ensures.entry
    ∙ sym (ap (λ (t : Option (List ℕ)). old ++ option_to_list (entry_of_text git_reading c.args.value number t)) given
    ∙ ap (λ (r : Reading). old ++ option_to_list (option_map (entry_with c.args.value number) (Some r))) is)

pub returns-in_default-clause-entry : goal.returns-in_default-clause-entry
returns-in_default-clause-entry g c =
    let old = map (entry_of (λ v. v)) c.args.self.now.mappings.items in
    let given : option_copied c.args.text ≡ None = ap option_copied c.in_default.is in
    sym (ap (λ (t : Option (List ℕ)). old ++ option_to_list (entry_of_text git_reading c.args.value (c.args.self.now.lines + 1) t)) given ∙ append-nil old)
