use Rattle.std.proofs.Common.{◌≡◌, ◌++◌, ◌∷◌, [], Bool, List, map, subst}
use Rattle.std.proofs.lemmas.List.{map_push}
use Rattle.git_index.specs.declared.entry.Entry.{Entry}
use Rattle.git_index.specs.Entries.{Tracked, tracked}
use Rattle.git_index.specs.Split.{replaced_by, unmarked}
use Rattle.git_index.proofs.lemmas.Kept.{deleted_one, kept_one}
use Rattle.git_index.proofs.kept.kept.Goals as goal

pub loop-entry-preserved-in-Continue-1 : goal.loop-entry-preserved-in-Continue-1
loop-entry-preserved-in-Continue-1 c =
    let entry = c.in-Some.entry in
    let r : Bool × List Bool = (c.next_mark-is_replaced.result.0, c.next_mark-is_replaced.result.1.now) in
    let d : Bool × List Bool = (c.next_mark-is_deleted.result.0, c.next_mark-is_deleted.result.1.now) in
    let x : Tracked × List Tracked = (tracked c.renewed-entry.result.0, map tracked c.renewed-entry.result.1.now) in
    let all = unmarked (replaced_by (map tracked c.args.shared.items) c.args.replaced.now (map tracked c.args.new.now)) c.args.deleted.now in
    let so_far = subst (λ (es : List Entry). map tracked c.loop-entry.kept.items ++ unmarked (replaced_by (map tracked es) c.loop-entry.replaced.now (map tracked c.loop-entry.new.now)) c.loop-entry.deleted.now ≡ all) c.in-Some.ensures.items c.loop-entry.invariant in
    let items : map tracked c.push_back.new.self.items ≡ map tracked c.loop-entry.kept.items ++ x.0 ∷ [] = rw c.in_ok-push_back.ensures.items (map_push tracked c.loop-entry.kept.items c.renewed-entry.result.0) in
    rw items (kept_one (map tracked c.loop-entry.kept.items) (tracked entry) (map tracked c.pop_front.new.self.items) c.loop-entry.replaced.now c.loop-entry.deleted.now (map tracked c.loop-entry.new.now) r d x all
    c.next_mark-is_replaced.ensures c.next_mark-is_deleted.ensures c.renewed-entry.ensures c.if-not-is_deleted.true so_far)

pub loop-entry-preserved : goal.loop-entry-preserved
loop-entry-preserved c =
    let entry = c.in-Some.entry in
    let r : Bool × List Bool = (c.next_mark-is_replaced.result.0, c.next_mark-is_replaced.result.1.now) in
    let d : Bool × List Bool = (c.next_mark-is_deleted.result.0, c.next_mark-is_deleted.result.1.now) in
    let x : Tracked × List Tracked = (tracked c.renewed-entry.result.0, map tracked c.renewed-entry.result.1.now) in
    let all = unmarked (replaced_by (map tracked c.args.shared.items) c.args.replaced.now (map tracked c.args.new.now)) c.args.deleted.now in
    let so_far = subst (λ (es : List Entry). map tracked c.loop-entry.kept.items ++ unmarked (replaced_by (map tracked es) c.loop-entry.replaced.now (map tracked c.loop-entry.new.now)) c.loop-entry.deleted.now ≡ all) c.in-Some.ensures.items c.loop-entry.invariant in
    deleted_one (map tracked c.loop-entry.kept.items) (tracked entry) (map tracked c.pop_front.new.self.items) c.loop-entry.replaced.now c.loop-entry.deleted.now (map tracked c.loop-entry.new.now) r d x all
    c.next_mark-is_replaced.ensures c.next_mark-is_deleted.ensures c.renewed-entry.ensures c.if-not-is_deleted.false so_far
