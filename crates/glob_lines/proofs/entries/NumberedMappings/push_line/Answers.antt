-- The mapping is that of the reading, or there is none.
use Rattle.std.proofs.Common.{◌≡◌, ◌+◌, ◌++◌, true, List, Option, None, Some, ℕ, map, sym, ap, ◌∙◌, append-nil}
use Rattle.std.specs.Option.{option_copied, option_map, option_to_list}
use Rattle.gix_glob.specs.PatternParts.{IsReadFrom}
use Rattle.gix_glob.specs.Equations.Readings.{Reading, reading_of}
use Rattle.gix_glob.specs.Entries.{entry_of}
use Rattle.gix_glob.specs.Equations.Entries.{entry_with}
use Rattle.glob_lines.specs.Equations.Entries.{entry_of_text, line_reading}
use Rattle.glob_lines.specs.Private.Reading.{reading_in}
use Rattle.glob_lines.proofs.entries.NumberedMappings.push_line.Goals as goal

pub returns-in_ok-push-clause-entry : goal.returns-in_ok-push-clause-entry
returns-in_ok-push-clause-entry g c =
    let old = map (entry_of (λ v. v)) c.args.self.now.mappings.items in
    let number = c.args.self.now.lines + 1 in
    let text = c.in-Some.text.now in
    let pattern = c.in-Some-2.pattern in
    let given : option_copied c.args.text ≡ Some text = ap option_copied c.in-Some.is in
    let read : IsReadFrom text true pattern = rw c.in-Some-2.is at c.in_ok-pattern.ensures.reads in
    let is : reading_of true text ≡ Some (reading_in pattern) = (c.readings_are_these.ensures.some _ _ _ _ _).0 read in
    c.in_ok-push.ensures.entry
    ∙ sym (ap (λ (t : Option (List ℕ)). old ++ option_to_list (entry_of_text line_reading c.args.value number t)) given
    ∙ ap (λ (r : Option Reading). old ++ option_to_list (option_map (entry_with c.args.value number) r)) is)

pub returns-in_default-clause-entry : goal.returns-in_default-clause-entry
returns-in_default-clause-entry g c =
    let old = map (entry_of (λ v. v)) c.args.self.now.mappings.items in
    let given : option_copied c.args.text ≡ None = ap option_copied c.in_default.is in
    sym (ap (λ (t : Option (List ℕ)). old ++ option_to_list (entry_of_text line_reading c.args.value (c.args.self.now.lines + 1) t)) given ∙ append-nil old)
