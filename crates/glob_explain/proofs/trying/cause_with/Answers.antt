-- The mapping is put in its place, and the one that stood there is put back.
use Rattle.std.proofs.Common.{◌≡◌, ◌<◌, get_or, length, map, ap, sym, subst, ◌∙◌, arith}
use Rattle.std.specs.Prelude.{slice_set}
use Rattle.std.proofs.lemmas.List.{map-set}
use Rattle.gix_glob.specs.Entries.{entry_of}
use Rattle.glob_explain.specs.Causes.{IsCause, seen}
use Rattle.glob_explain.specs.Trying.{with_entries}
use Rattle.glob_explain.proofs.lemmas.Putting.{as_seen, changed_back, folders_changed, held_changed, seen_changed, set_back, there_seen}
use Rattle.glob_explain.proofs.trying.cause_with.Goals as goal
use Rattle.glob_explain.proofs.trying.cause_with.Goals.{After-swap}

-- the entries with the mapping in its place
entries_with : (c : After-swap) → map (entry_of (λ _. tt)) (slice_set (get_or c.args.lists.now c.args.pair.0 c.index-lists-pair-2.result).patterns.items c.args.pair.1 c.swap.new.x)
    ≡ slice_set (as_seen c.index-lists-pair-2.result).entries c.args.pair.1 (entry_of (λ _. tt) c.swap.new.x)
entries_with c =
    ap (λ list. map (entry_of (λ _. tt)) (slice_set list.patterns.items c.args.pair.1 c.swap.new.x)) (sym c.index-lists-pair-2.is)
    ∙ map-set (entry_of (λ _. tt)) c.index-lists-pair-2.result.patterns.items c.args.pair.1 c.swap.new.x

pub cause_of-cause-requires : goal.cause_of-cause-requires
cause_of-cause-requires c =
    let at = (goal.at.cause_of-cause-requires c).After-swap in
    let within : c.args.pair.0 < length c.args.lists.now = omega arith in
    folders_changed c.args.lists.now c.args.pair.0 c.index-lists-pair-2.result c.index-lists-pair-2.is within _ _ (entries_with at) c.requires

pub returns-clause-asked : goal.returns-clause-asked
returns-clause-asked c =
    let at = (goal.at.returns-clause-asked c).After-swap in
    let held = c.index-lists-pair-2.result in
    let within : c.args.pair.0 < length c.args.lists.now = omega arith in
    let put = seen_changed c.args.lists.now c.args.pair.0 held c.index-lists-pair-2.is within _ _ (entries_with at)
    ∙ ap (λ x. slice_set (seen c.args.lists.now) c.args.pair.0 (with_entries (as_seen held) (slice_set (as_seen held).entries c.args.pair.1 (entry_of (λ _. tt) x)))) c.swap.ensures.x_after in
    record {
      list = as_seen held;
      there = there_seen c.args.lists.now c.args.pair.0 held c.index-lists-pair-2.is within;
      is = subst (λ lists. IsCause lists c.args.rules c.args.path.now c.cause_of-cause.result) put c.cause_of-cause.ensures;
    }

pub returns-clause-same : goal.returns-clause-same
returns-clause-same c =
    let at = (goal.at.returns-clause-same c).After-swap in
    let held = c.index-lists-pair-2.result in
    let within : c.args.pair.0 < length c.args.lists.now = omega arith in
    let items = (get_or c.args.lists.now c.args.pair.0 held).patterns.items in
    let m = c.args.pair.1 in
    let same : c.swap-2.new.x ≡ c.index_mut.result.now = c.swap-2.ensures.x_after ∙ c.swap.ensures.y_after in
    let was : c.swap-2.new.x ≡ get_or items m c.swap-2.new.x = subst (λ x. x ≡ get_or items m x) (sym same) c.index_mut.ensures.value in
    let entries = ap (λ list. map (entry_of (λ _. tt)) (slice_set list.patterns.items m c.swap-2.new.x)) (held_changed c.args.lists.now c.args.pair.0 held c.index-lists-pair-2.is within _ _ (entries_with at) c.index-lists-pair-3.result)
    ∙ ap (λ xs. map (entry_of (λ _. tt)) xs) (set_back items m c.swap.new.x c.swap-2.new.x was)
    ∙ ap (λ list. (as_seen list).entries) (sym c.index-lists-pair-2.is) in
    changed_back c.args.lists.now c.args.pair.0 held c.index-lists-pair-2.is within _ _ (entries_with at) c.index-lists-pair-3.result _ entries
