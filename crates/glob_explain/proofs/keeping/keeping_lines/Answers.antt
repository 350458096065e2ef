-- The lines that were asked with are those that are told.
use Rattle.std.proofs.Common.{◌≡◌, ◌++◌, ◌∙◌, map, ap, subst, rules}
use Rattle.std.specs.Prelude.{slice_set}
use Rattle.gix_glob.specs.Entries.{entry_of}
use Rattle.glob_lines.specs.Equations.GitLines.{git_entries_of}
use Rattle.glob_explain.specs.Causes.{IsCause, seen}
use Rattle.glob_explain.specs.Trying.{with_entries}
use Rattle.glob_explain.proofs.keeping.keeping_lines.Goals as goal

pub returns-in-Some-clause-kept : goal.returns-in-Some-clause-kept
returns-in-Some-clause-kept c =
    let asked = rw c.in-Some.is at c.in_ok-after.ensures.asked in
    let read : map (entry_of (λ _. tt)) c.in_ok-more.more.items ≡ git_entries_of c.in_ok-lines.lines.items = c.in_ok-more.ensures ∙ ap git_entries_of c.deref.ensures.value in
    record {
      list = asked.list;
      there = asked.there;
      after = c.in-Some.after;
      is = subst (λ more. IsCause (slice_set (seen c.args.lists.now) c.last_with_patterns-at.result (with_entries asked.list (asked.list.entries ++ more))) c.args.rules c.args.path.now c.in-Some.after) read asked.is;
      kept = search rules;
    }
