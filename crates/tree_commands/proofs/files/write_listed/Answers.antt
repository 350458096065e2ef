use Rattle.std.proofs.Common.{◌≡◌, ◌≤◌, [], ap, subst, ◌∙◌, arith}
use Rattle.std.proofs.lemmas.List.{nil_from_length}
use Rattle.tree_commands.specs.Private.Listing.{terms_of}
use Rattle.tree_commands.proofs.lemmas.ListingLemmas.{count_next, may_next}
use Rattle.tree_commands.proofs.lemmas.ListsLemmas.{seen_length}
use Rattle.tree_commands.proofs.lemmas.ListingRuns.{all_is_written, asks_on, front_is_written, short_of, writes_on}
use Rattle.tree_commands.proofs.lemmas.SourceLemmas.{on_any_err, on_ok_through, stays_further}
use Rattle.tree_commands.proofs.files.write_listed.Goals as goal

pub returns-in_default-clause-ok : goal.returns-in_default-clause-ok
returns-in_default-clause-ok g c =
    let none : c.paths.lister.pending.items ≡ [] = nil_from_length c.paths.lister.pending.items (omega (arith, c.in_default.ensures.cases.0, c.paths.lister.pending.ok.0)) in
    on_ok_through c.write_rest.result c.as_written.result c.as_written.ensures.ok
    (λ rest. all_is_written _ _ _ _ _ _ _ _ _ (rw none at c.paths.invariant.writing) rest)
    c.write_rest.ensures.ok

pub tell-requires-clause-may : goal.tell-requires-clause-may
tell-requires-clause-may g c =
    let under = rw c.in-Some.ensures.items at c.paths.invariant.writing.under_way in
    rw c.paths.invariant.terms (may_next (terms_of c.args.lister.now.on_way.terms) _ c.pop.new.self.items c.in-Some.next _ under)

pub tell-requires-clause-count : goal.tell-requires-clause-count
tell-requires-clause-count g c =
    let under = rw c.in-Some.ensures.items at c.paths.invariant.writing.under_way in
    subst (λ n. c.in-Some.next.list_count ≤ n) (seen_length c.paths.lister.on_way.lists.items) (count_next (terms_of c.args.lister.now.on_way.terms) _ c.pop.new.self.items c.in-Some.next _ under)

pub returns-in_err-listed-clause-front : goal.returns-in_err-listed-clause-front
returns-in_err-listed-clause-front g c = on_any_err c.from_residual.result (λ unfailed. front_is_written _ _ _ _ _ _ _ _ _ c.paths.invariant.writing)

pub returns-in_err-listed-clause-asks : goal.returns-in_err-listed-clause-asks
returns-in_err-listed-clause-asks g c =
    asks_on _ _ _ _ _ _ c.paths.invariant.stays _ _ c.in-Some.next c.pop.new.self.items _ (rw c.in-Some.ensures.items at c.paths.invariant.writing) _ _ _ c.paths.invariant.asks _ (ap terms_of c.paths.invariant.terms) c.tell.ensures.asks

pub returns-in_err-write_line-clause-front : goal.returns-in_err-write_line-clause-front
returns-in_err-write_line-clause-front g c =
    on_any_err c.from_residual-in_err-write_line.result (λ unfailed. rw (c.in_err-write_line.ensures.kept unfailed) (front_is_written _ _ _ _ _ _ _ _ _ c.paths.invariant.writing))

pub returns-in_err-write_line-clause-asks : goal.returns-in_err-write_line-clause-asks
returns-in_err-write_line-clause-asks g c =
    asks_on _ _ _ _ _ _ c.paths.invariant.stays _ _ c.in-Some.next c.pop.new.self.items _ (rw c.in-Some.ensures.items at c.paths.invariant.writing) _ _ _ c.paths.invariant.asks _ (ap terms_of c.paths.invariant.terms) c.tell.ensures.asks

pub paths-preserved : goal.paths-preserved
paths-preserved g c =
    let it = rw c.in-Some.ensures.items at c.paths.invariant.writing in
    let told = rw c.paths.invariant.terms at c.in_ok-listed.ensures.steps in
    let out = rw (c.paths.invariant.mark, c.paths.invariant.standpoint, c.paths.invariant.form) at c.in_ok-write_line.ensures.ok in
    record {
      writing = writes_on _ _ _ _ _ _ c.paths.invariant.stays _ _ _ _ c.in-Some.next c.pop.new.self.items _ _ _ _ (short_of _ _ _ _ _ _ _ c.in-Some.next c.pop.new.self.items _ it) told out;
      folders = c.in_ok-listed.ensures.folders;
      terms = c.tell.ensures.terms ∙ c.paths.invariant.terms;
      standpoint = c.write_line.ensures.standpoint ∙ c.paths.invariant.standpoint;
      form = c.write_line.ensures.form ∙ c.paths.invariant.form;
      mark = c.write_line.ensures.mark ∙ c.paths.invariant.mark;
      stays = stays_further g.S.FileSource.shows c.args.source.now c.paths.source c.tell.new.source c.paths.invariant.stays c.tell.ensures.stays;
      asks = asks_on _ _ _ _ _ _ c.paths.invariant.stays _ _ c.in-Some.next c.pop.new.self.items _ it _ _ _ c.paths.invariant.asks _ (ap terms_of c.paths.invariant.terms) c.tell.ensures.asks;
    }

pub returns-clause-front : goal.returns-clause-front
returns-clause-front g c = λ unfailed. front_is_written _ _ _ _ _ _ _ _ _ c.paths.invariant.writing
