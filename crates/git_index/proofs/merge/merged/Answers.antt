use Rattle.std.proofs.Common.{◌≡◌, ◌++◌, ◌∷◌, [], ◌∙◌, List, ℕ, true, false, eqb, length, map, sym, ap, subst, arith}
use Rattle.std.proofs.lemmas.List.{map_push}
use Rattle.git_index.specs.declared.entry.Entry.{Entry}
use Rattle.git_index.specs.Entries.{tracked}
use Rattle.git_index.specs.Private.Reading.{named_in}
use Rattle.git_index.specs.Split.{put_in}
use Rattle.git_index.proofs.lemmas.Merge.{passed_one, put_end, put_one}
use Rattle.git_index.proofs.merge.merged.Goals as goal

pub loop-entry-preserved-in-Continue-branch-2 : goal.loop-entry-preserved-in-Continue-branch-2
loop-entry-preserved-in-Continue-branch-2 c =
    let entry = c.in-Some.entry in
    let all = put_in (map tracked c.args.kept.items) (named_in (map tracked c.from_vec-own.result.items)) in
    let so_far = subst (λ (es : List Entry). map tracked c.loop-entry.joined.items ++ put_in (map tracked c.loop-entry.kept.items) (named_in (map tracked es)) ≡ all) c.in-Some.ensures.items c.loop-entry.invariant in
    let some : eqb (length entry.path) 0 ≡ false = ap (λ (w : List ℕ). eqb (length w) 0) (sym c.deref.ensures.value) ∙ sym c.is_empty.ensures ∙ c.if-not-is_empty.true in
    let pushed : map tracked c.push.new.self.items ≡ map tracked c.move_before.new.joined.items ++ tracked entry ∷ [] = rw c.in_ok-push.ensures.items (map_push tracked c.move_before.new.joined.items entry) in
    rw pushed (put_one (tracked entry) (map tracked c.loop-entry.joined.items) (map tracked c.loop-entry.kept.items) (map tracked c.pop_front.new.self.items) (map tracked c.move_before.new.joined.items) (map tracked c.move_before.new.kept.items) all some
    c.in_ok-move_before.ensures.moved c.in_ok-move_before.ensures.left so_far)

pub loop-entry-preserved : goal.loop-entry-preserved
loop-entry-preserved c =
    let entry = c.in-Some.entry in
    let all = put_in (map tracked c.args.kept.items) (named_in (map tracked c.from_vec-own.result.items)) in
    let so_far = subst (λ (es : List Entry). map tracked c.loop-entry.joined.items ++ put_in (map tracked c.loop-entry.kept.items) (named_in (map tracked es)) ≡ all) c.in-Some.ensures.items c.loop-entry.invariant in
    let none : eqb (length entry.path) 0 ≡ true = ap (λ (w : List ℕ). eqb (length w) 0) (sym c.deref.ensures.value) ∙ sym c.is_empty.ensures ∙ c.if-not-is_empty.false in
    passed_one (tracked entry) (map tracked c.loop-entry.joined.items) (map tracked c.loop-entry.kept.items) (map tracked c.pop_front.new.self.items) all none so_far

pub returns : goal.returns
returns c =
    let all = put_in (map tracked c.args.kept.items) (named_in (map tracked c.from_vec-own.result.items)) in
    let none : length c.loop-entry.own.items ≡ 0 = omega (arith, c.loop-entry.own.ok.0, c.in_default.ensures.cases) in
    c.in_ok-move_all.ensures ∙ put_end (map tracked c.loop-entry.joined.items) (map tracked c.loop-entry.kept.items) all c.loop-entry.own.items none c.loop-entry.invariant
    ∙ ap (λ (es : List Entry). put_in (map tracked c.args.kept.items) (named_in (map tracked es))) c.from_vec-own.ensures.items
