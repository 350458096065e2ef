-- With the line and without it the answers differ.
use Rattle.std.proofs.Common.{◌≡◌, ℕ, Bool, List, Some, ap, sym, subst, ◌∙◌, rules}
use borrow.Author.Tests.{tests}
use Rattle.std.specs.Prelude.{[], ◌∷◌}
use Rattle.glob_lists.specs.Paths.{Path}
use Rattle.glob_trees.specs.Trees.{DecidesInTree}
use Rattle.glob_lint.specs.Ignoring.{Ignoring}
use Rattle.glob_lint.specs.Lines.{IsReal}
use Rattle.glob_lint.specs.Seen.{seen}
use Rattle.glob_lint.specs.Private.Asking.{IsIgnored, NoneIgnoredUpTo}
use Rattle.glob_lint.specs.Without.{lists_but}
use Rattle.glob_lint.proofs.lemmas.Held.{differ}
use Rattle.glob_lint.proofs.trying.turns.Goals as goal
use Rattle.glob_lint.proofs.trying.turns.Goals.{In-Some}

abbrev the_path : List ℕ → Bool → Path
the_path bytes is_dir = record { bytes = bytes; is_dir = is_dir }

-- the path that is asked about is the sample
path_is : (c : In-Some) → c.in-Some.path ≡ the_path c.args.sample.now.path.items c.args.sample.now.is_dir
path_is c = c.in-Some.ensures.1 ∙ ap (λ (bytes : List ℕ). the_path bytes c.args.sample.now.is_dir) c.deref-2.ensures.value

pub sign_at-requires-clause-known : goal.sign_at-requires-clause-known
sign_at-requires-clause-known c =
    let line = c.args.line.now in
    let bytes = c.deref-3.ensures.value ∙ sym (ap (λ (p : Path). p.bytes) (path_is (goal.at.sign_at-requires-clause-known c).In-Some)) in
    subst (λ path. NoneIgnoredUpTo (seen line.asked.now.lists.now) line.asked.now.rules path c.known-from.result) bytes c.known-from.ensures.with

pub is_ignored_without-requires : goal.is_ignored_without-requires
is_ignored_without-requires c =
    let line = c.args.line.now in
    let bytes = c.deref-3.ensures.value ∙ sym (ap (λ (p : Path). p.bytes) (path_is (goal.at.is_ignored_without-requires c).In-Some)) in
    subst (λ path. NoneIgnoredUpTo (lists_but (line.pair ∷ []) 0 (seen line.asked.now.lists.now)) line.asked.now.rules path c.known-from.result) bytes c.known-from.ensures.without

pub returns : goal.returns
returns c = λ yes.
    let lists = seen c.args.line.now.asked.now.lists.now in
    let by = c.args.line.now.asked.now.rules in
    let but = lists_but (c.args.line.now.pair ∷ []) 0 lists in
    let with_line = c.in-Some-sign_at.ensures in
    let without : IsIgnored but by c.in-Some.path c.in_ok-without.without = c.in_ok-without.ensures in
    let same = path_is (goal.at.returns c).In-Some in
    let real : IsReal c.args.sample.now.path.items = search (rules, tests) in
    record {
      real = real;
      decides = subst (λ (p : Path). DecidesInTree lists p.bytes p.is_dir by (Some c.args.line.now.pair)) same with_line.decides;
      other = without.0;
      without = subst (λ (p : Path). DecidesInTree but p.bytes p.is_dir by without.0) same without.1.decides;
      turned = differ c.in-Some-sign_at.ignored c.in_ok-without.without (Ignoring lists (Some c.args.line.now.pair)) (Ignoring but without.0) with_line.sign without.1.sign yes;
    }
