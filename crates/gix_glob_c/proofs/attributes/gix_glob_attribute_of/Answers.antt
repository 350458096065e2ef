-- The row is what the lines that match assign.
use Rattle.std.proofs.Common.{◌∙◌, ap, reverse}
use Rattle.glob_attributes.specs.Borrowed.{row_of}
use Rattle.gix_glob_c.specs.Attributes.{told_of}
use Rattle.gix_glob_c.proofs.attributes.gix_glob_attribute_of.Goals as goal

pub returns-clause-exact : goal.returns-clause-exact
returns-clause-exact c = λ lawful told.
    let found = c.in-Some-push_matches.ensures.row lawful in
    let state = c.in-Some-tell_state.ensures.told in (
      state.0,
      (
        reverse (row_of c.push_matches.new.texts c.in-Some-push_matches.count),
        (found.0, rw c.reading_of_lines.ensures at (rw c.rules_of-rules.ensures at (rw c.in-Some.ensures.1 at found.1)), ap reverse found.2),
        state.1,
      ),
      c.told_of.ensures ∙ ap told_of state.2,
    )
