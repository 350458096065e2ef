-- How many steps and looks a decision over a stack of lists takes at most, v being the length of the path: each list strips its
-- base off the path once, and asks each of its patterns at most once about what is left.
use Rattle.std.specs.Prelude.{ℕ, ◌+◌, ◌*◌, List, length, sum_by}
use Rattle.gix_glob.specs.PatternLimits.{pattern_look_limit, pattern_step_limit}
use Rattle.gix_glob.specs.EntryLists.{EntryList}
use Rattle.gix_glob.specs.Stripping.{strip_looks}
use Rattle.glob_lists.specs.Matches.{entry_count}

-- how many steps, and how many looks, one list takes at most
abbrev pub list_step_limit : {V : Type 0} → EntryList V → ℕ → ℕ
list_step_limit list v = sum_by (λ entry. pattern_step_limit (length entry.text) v) list.entries

abbrev pub list_look_limit : {V : Type 0} → EntryList V → ℕ → ℕ
list_look_limit list v = strip_looks list.base v + sum_by (λ entry. pattern_look_limit (length entry.text) v) list.entries

-- how many steps all the lists take at most, and how many looks
abbrev pub decision_step_limit : {V : Type 0} → List (EntryList V) → ℕ → ℕ
decision_step_limit lists v = sum_by (λ list. list_step_limit list v) lists

abbrev pub decision_look_limit : {V : Type 0} → List (EntryList V) → ℕ → ℕ
decision_look_limit lists v = sum_by (λ list. list_look_limit list v) lists

-- how many looks prepared lists add: the path is read three times at most, and a byte more; and the row of each entry is met once
abbrev pub prepared_look_limit : {V : Type 0} → List (EntryList V) → ℕ → ℕ
prepared_look_limit lists v = 3 * v + 1 + entry_count lists
