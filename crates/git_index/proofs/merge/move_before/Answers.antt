use Rattle.std.proofs.Common.{◌≡◌, ◌++◌, ◌∷◌, [], ◌∙◌, List, false, get_or, map, sym, ap, subst}
use Rattle.std.specs.Ordering.{is_gt, is_lt}
use Rattle.std.proofs.lemmas.List.{map_push}
use Rattle.git_index.specs.declared.entry.Entry.{Entry}
use Rattle.git_index.specs.Entries.{tracked}
use Rattle.git_index.specs.Split.{before, behind, place}
use Rattle.git_index.proofs.lemmas.Merge.{dropped_one, moved_one}
use Rattle.git_index.proofs.merge.move_before.Goals as goal

pub loop-first-preserved-in-Continue-1 : goal.loop-first-preserved-in-Continue-1
loop-first-preserved-in-Continue-1 c =
    let a = tracked c.args.added.now in
    let entry = c.in-Some-pop_front.entry in
    let items = c.in-Some-pop_front.ensures.items in
    let first : c.in-Some.first.now ≡ entry = c.in-Some.ensures.lookup ∙ ap (λ (es : List Entry). get_or es 0 c.in-Some.first.now) items in
    let standing : c.compare-standing.result ≡ place (tracked entry) a = c.compare-standing.ensures ∙ ap (λ (x : Entry). place (tracked x) a) first in
    let low : is_gt (place (tracked entry) a) ≡ false = ap is_gt (sym standing) ∙ sym c.is_gt.ensures ∙ c.if-is_gt.false in
    let first_is = ap is_lt (sym standing) ∙ sym c.is_lt.ensures ∙ c.if-is_lt.true in
    let all = map tracked c.args.joined.now.items ++ before a (map tracked c.args.kept.now.items) in
    let left = behind a (map tracked c.args.kept.now.items) in
    let moved = subst (λ (es : List Entry). map tracked c.loop-first.joined.items ++ before a (map tracked es) ≡ all) items c.loop-first.invariant.moved in
    let others = subst (λ (es : List Entry). behind a (map tracked es) ≡ left) items c.loop-first.invariant.left in
    let x = moved_one a (tracked entry) (map tracked c.loop-first.joined.items) (map tracked c.pop_front.new.self.items) all left low first_is moved others in
    let pushed : map tracked c.push.new.self.items ≡ map tracked c.loop-first.joined.items ++ tracked entry ∷ [] = rw c.in_ok-push.ensures.items (map_push tracked c.loop-first.joined.items entry) in
    record { moved = rw pushed x.0; left = x.1 }

pub loop-first-preserved : goal.loop-first-preserved
loop-first-preserved c =
    let a = tracked c.args.added.now in
    let entry = c.in-Some-pop_front.entry in
    let items = c.in-Some-pop_front.ensures.items in
    let first : c.in-Some.first.now ≡ entry = c.in-Some.ensures.lookup ∙ ap (λ (es : List Entry). get_or es 0 c.in-Some.first.now) items in
    let standing : c.compare-standing.result ≡ place (tracked entry) a = c.compare-standing.ensures ∙ ap (λ (x : Entry). place (tracked x) a) first in
    let low : is_gt (place (tracked entry) a) ≡ false = ap is_gt (sym standing) ∙ sym c.is_gt.ensures ∙ c.if-is_gt.false in
    let first_is = ap is_lt (sym standing) ∙ sym c.is_lt.ensures ∙ c.if-is_lt.false in
    let all = map tracked c.args.joined.now.items ++ before a (map tracked c.args.kept.now.items) in
    let left = behind a (map tracked c.args.kept.now.items) in
    let moved = subst (λ (es : List Entry). map tracked c.loop-first.joined.items ++ before a (map tracked es) ≡ all) items c.loop-first.invariant.moved in
    let others = subst (λ (es : List Entry). behind a (map tracked es) ≡ left) items c.loop-first.invariant.left in
    let x = dropped_one a (tracked entry) (map tracked c.loop-first.joined.items) (map tracked c.pop_front.new.self.items) all left low first_is moved others in
    record { moved = x.0; left = x.1 }
