-- The lines are put behind those of the list, and cut off again.
use Rattle.std.proofs.Common.{◌≡◌, ◌<◌, ◌++◌, get_or, length, map, take, ap, sym, subst, ◌∙◌, arith}
use Rattle.std.proofs.Math.Seq.{take-append_seam}
use Rattle.std.proofs.lemmas.List.{map-append}
use Rattle.gix_glob.specs.Entries.{entry_of}
use Rattle.glob_explain.specs.Causes.{IsCause}
use Rattle.glob_explain.proofs.lemmas.Putting.{as_seen, changed_back, folders_changed, held_changed, seen_changed, there_seen}
use Rattle.glob_explain.proofs.trying.cause_behind.Goals as goal
use Rattle.glob_explain.proofs.trying.cause_behind.Goals.{In_ok-append}

-- the entries, and then those of the lines
entries_with : (c : In_ok-append) → map (entry_of (λ _. tt)) c.append.new.self.items
    ≡ (as_seen c.index-lists-at.result).entries ++ map (entry_of (λ _. tt)) c.args.more.items
entries_with c =
    ap (map (entry_of (λ _. tt))) c.in_ok-append.ensures.items
    ∙ (map-append (entry_of (λ _. tt)) (get_or c.args.lists.now c.args.at c.index-lists-at.result).patterns.items c.args.more.items
    ∙ ap (λ list. (as_seen list).entries ++ map (entry_of (λ _. tt)) c.args.more.items) (sym c.index-lists-at.is))

pub cause_of-cause-requires : goal.cause_of-cause-requires
cause_of-cause-requires c =
    let within : c.args.at < length c.args.lists.now = omega arith in
    folders_changed c.args.lists.now c.args.at c.index-lists-at.result c.index-lists-at.is within c.append.new.self _ (entries_with c) c.requires

pub returns-clause-asked : goal.returns-clause-asked
returns-clause-asked c =
    let at = (goal.at.returns-clause-asked c).In_ok-append in
    let held = c.index-lists-at.result in
    let within : c.args.at < length c.args.lists.now = omega arith in
    record {
      list = as_seen held;
      there = there_seen c.args.lists.now c.args.at held c.index-lists-at.is within;
      is = subst (λ lists. IsCause lists c.args.rules c.args.path.now c.cause_of-cause.result) (seen_changed c.args.lists.now c.args.at held c.index-lists-at.is within c.append.new.self _ (entries_with at)) c.cause_of-cause.ensures;
    }

pub returns-clause-same : goal.returns-clause-same
returns-clause-same c =
    let at = (goal.at.returns-clause-same c).In_ok-append in
    let held = c.index-lists-at.result in
    let old = (get_or c.args.lists.now c.args.at held).patterns in
    let within : c.args.at < length c.args.lists.now = omega arith in
    let count : c.len-count.result ≡ length old.items = grind (arith, old.ok.0) in
    let cut : c.truncate.new.self.items ≡ old.items = c.truncate.ensures.items
    ∙ (ap (λ list. take c.len-count.result list.patterns.items) (held_changed c.args.lists.now c.args.at held c.index-lists-at.is within c.append.new.self _ (entries_with at) c.index-lists-at-2.result)
    ∙ (ap (take c.len-count.result) c.in_ok-append.ensures.items
    ∙ (ap (λ n. take n (old.items ++ c.args.more.items)) count ∙ take-append_seam old.items c.args.more.items))) in
    let entries = ap (map (entry_of (λ _. tt))) cut ∙ ap (λ list. (as_seen list).entries) (sym c.index-lists-at.is) in
    changed_back c.args.lists.now c.args.at held c.index-lists-at.is within c.append.new.self _ (entries_with at) c.index-lists-at-2.result c.truncate.new.self entries
