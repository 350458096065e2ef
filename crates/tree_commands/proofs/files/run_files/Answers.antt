use Rattle.std.proofs.Common.{◌≡◌, [], ℕ, List, sym, ap, subst, ◌∙◌, arith}
use Rattle.std.specs.List.{Contains}
use Rattle.std.proofs.lemmas.Bool.{false≢true}
use Rattle.std.proofs.lemmas.Result.{on_err_weaker, on_ok_weaker}
use Rattle.byte_streams.specs.Watched.{inner}
use Rattle.tree_commands.specs.FileTrees.{FileTree}
use Rattle.tree_commands.specs.Files.{Basis, IsMet, IsReached, MayAsk, Terms, path_line}
use Rattle.tree_commands.specs.declared.files.Listing.{Listing}
use Rattle.tree_commands.specs.Listings.{asked_basis}
use Rattle.tree_commands.specs.Lookups.{LookedUp}
use Rattle.tree_commands.specs.Private.Listing.{Begins, looked, seen_lists, terms_of}
use Rattle.tree_commands.specs.Private.UnderWay.{OfKnown, beginning_of}
use Rattle.tree_commands.proofs.lemmas.BeginLemmas.{all_is_listed, all_pairs, folder_is_reached, some_is_listed}
use Rattle.tree_commands.proofs.lemmas.ListingRuns.{nothing_in_front}
use Rattle.tree_commands.proofs.lemmas.LookupLemmas.{looks_up}
use Rattle.tree_commands.proofs.lemmas.SourceLemmas.{gives_further, on_any_err}
use Rattle.tree_commands.proofs.files.run_files.Goals as goal

abbrev with_tracked : Listing → LookedUp → Terms
with_tracked listing tracked = record { case = listing.case; chosen = listing.chosen; folders = listing.folders; tracked = tracked }

none_there : (path : List ℕ) → ¬ Contains [] path
none_there path there = let less = there.1 in omega arith

pub returns-then-not-are_of_folders-clause-front : goal.returns-then-not-are_of_folders-clause-front
returns-then-not-are_of_folders-clause-front g c = λ unfailed. ([], all_pairs [] tt, nothing_in_front (path_line c.args.listing.mark c.args.listing.standpoint c.args.listing.form) (g.W.Write.contents (inner c.args.writer.now)), λ tree known path there. absurd (none_there path there))

pub returns-then-not-are_of_folders-clause-base : goal.returns-then-not-are_of_folders-clause-base
returns-then-not-are_of_folders-clause-base g c = λ told folders. false≢true (sym c.if-not-are_of_folders.true ∙ c.are_of_folders.ensures.1 (rw c.deref.ensures.value folders))

pub returns-in_err-is_told_folder-clause-front : goal.returns-in_err-is_told_folder-clause-front
returns-in_err-is_told_folder-clause-front g c = on_any_err c.from_residual.result (λ unfailed. ([], all_pairs [] tt, nothing_in_front (path_line c.args.listing.mark c.args.listing.standpoint c.args.listing.form) (g.W.Write.contents (inner c.args.writer.now)), λ tree known path there. absurd (none_there path there)))

pub returns-in_err-part-clause-front : goal.returns-in_err-part-clause-front
returns-in_err-part-clause-front g c = on_any_err c.from_residual-in_err-part.result (λ unfailed. ([], all_pairs [] tt, nothing_in_front (path_line c.args.listing.mark c.args.listing.standpoint c.args.listing.form) (g.W.Write.contents (inner c.args.writer.now)), λ tree known path there. absurd (none_there path there)))

pub returns-in_err-folded-clause-front : goal.returns-in_err-folded-clause-front
returns-in_err-folded-clause-front g c = on_any_err c.from_residual-in_err-folded.result (λ unfailed. ([], all_pairs [] tt, nothing_in_front (path_line c.args.listing.mark c.args.listing.standpoint c.args.listing.form) (g.W.Write.contents (inner c.args.writer.now)), λ tree known path there. absurd (none_there path there)))

pub returns-in_err-begin-clause-front : goal.returns-in_err-begin-clause-front
returns-in_err-begin-clause-front g c = on_any_err c.from_residual-in_err-begin.result (λ unfailed. ([], all_pairs [] tt, nothing_in_front (path_line c.args.listing.mark c.args.listing.standpoint c.args.listing.form) (g.W.Write.contents (inner c.args.writer.now)), λ tree known path there. absurd (none_there path there)))

pub returns-clause-lists : goal.returns-clause-lists
returns-clause-lists g c =
    let basis : Basis = asked_basis c.args.listing c.args.told.now c.args.tracked.now in
    let standpoint = c.args.listing.standpoint in
    let line = path_line c.args.listing.mark c.args.listing.standpoint c.args.listing.form in
    let known = g.S.FileSource.shows c.args.source.now in
    let now = g.S.FileSource.shows c.begin.new.source in
    let lists = seen_lists c.begin.new.self.on_way.lists.items in
    let pending = c.begin.new.self.pending.items in
    let told = c.in_ok-is_told_folder.is_told_folder in
    let leads = c.in_ok-is_told_folder.ensures.leads in
    let looks : looked c.new-tracked.result ≡ basis.terms.tracked = looks_up c.args.listing c.args.told.now c.lead.new.path.items c.deref-2.result.now told c.args.tracked.now c.part_or-counted.result.now (looked c.new-tracked.result) leads.0 leads.1 c.deref-2.ensures.value (c.part_or-counted.ensures ∙ c.in_ok-part.ensures) (c.new-tracked.ensures c.args.listing.case c.in_ok-folded.ensures) in
    let at : Begins known basis c.lead.new.path.items told lists pending = subst (λ (t : LookedUp). Begins known (record { fronts = basis.fronts; terms = with_tracked c.args.listing t }) c.lead.new.path.items told lists pending) looks (rw (c.new-lister.ensures.lists, c.new-lister.ensures.terms) at c.in_ok-begin.ensures.begins) in
    let as_terms : terms_of c.begin.new.self.on_way.terms ≡ basis.terms = ap terms_of c.begin.ensures.terms ∙ c.new-lister.ensures.terms ∙ ap (with_tracked c.args.listing) looks in
    let old = g.W.Write.contents (inner c.args.writer.now) in
    let new = g.W.Write.contents (inner c.write_listed.new.writer) in
    let ok = rw (c.new-lines.ensures.0, c.new-lines.ensures.1, c.new-lines.ensures.2, as_terms) at c.write_listed.ensures.ok in
    on_ok_weaker c.write_listed.result
    (λ all. (
      all.listed,
      all_pairs all.listed all.ordered,
      all.appended,
      all_is_listed standpoint basis c.args.told.now c.lead.new.path.items told leads.0 leads.1 known lists pending at line now c.begin.ensures.stays old new all,
    ))
    ok

pub returns-clause-front : goal.returns-clause-front
returns-clause-front g c =
    let basis : Basis = asked_basis c.args.listing c.args.told.now c.args.tracked.now in
    let standpoint = c.args.listing.standpoint in
    let line = path_line c.args.listing.mark c.args.listing.standpoint c.args.listing.form in
    let known = g.S.FileSource.shows c.args.source.now in
    let now = g.S.FileSource.shows c.begin.new.source in
    let lists = seen_lists c.begin.new.self.on_way.lists.items in
    let pending = c.begin.new.self.pending.items in
    let told = c.in_ok-is_told_folder.is_told_folder in
    let leads = c.in_ok-is_told_folder.ensures.leads in
    let looks : looked c.new-tracked.result ≡ basis.terms.tracked = looks_up c.args.listing c.args.told.now c.lead.new.path.items c.deref-2.result.now told c.args.tracked.now c.part_or-counted.result.now (looked c.new-tracked.result) leads.0 leads.1 c.deref-2.ensures.value (c.part_or-counted.ensures ∙ c.in_ok-part.ensures) (c.new-tracked.ensures c.args.listing.case c.in_ok-folded.ensures) in
    let at : Begins known basis c.lead.new.path.items told lists pending = subst (λ (t : LookedUp). Begins known (record { fronts = basis.fronts; terms = with_tracked c.args.listing t }) c.lead.new.path.items told lists pending) looks (rw (c.new-lister.ensures.lists, c.new-lister.ensures.terms) at c.in_ok-begin.ensures.begins) in
    let as_terms : terms_of c.begin.new.self.on_way.terms ≡ basis.terms = ap terms_of c.begin.ensures.terms ∙ c.new-lister.ensures.terms ∙ ap (with_tracked c.args.listing) looks in
    let old = g.W.Write.contents (inner c.args.writer.now) in
    let new = g.W.Write.contents (inner c.write_listed.new.writer) in
    let err = rw (c.new-lines.ensures.0, c.new-lines.ensures.1, c.new-lines.ensures.2, as_terms) at c.write_listed.ensures.front in
    on_err_weaker c.write_listed.result
    (λ front unfailed. let some = front unfailed in (
      some.listed,
      all_pairs some.listed some.ordered,
      some.appended,
      some_is_listed standpoint basis c.args.told.now c.lead.new.path.items told leads.0 leads.1 known lists pending at line now c.begin.ensures.stays old new some,
    ))
    err

pub returns-clause-asks : goal.returns-clause-asks
returns-clause-asks g c =
    let basis : Basis = asked_basis c.args.listing c.args.told.now c.args.tracked.now in
    let standpoint = c.args.listing.standpoint in
    let line = path_line c.args.listing.mark c.args.listing.standpoint c.args.listing.form in
    let known = g.S.FileSource.shows c.args.source.now in
    let now = g.S.FileSource.shows c.begin.new.source in
    let lists = seen_lists c.begin.new.self.on_way.lists.items in
    let pending = c.begin.new.self.pending.items in
    let told = c.in_ok-is_told_folder.is_told_folder in
    let leads = c.in_ok-is_told_folder.ensures.leads in
    let looks : looked c.new-tracked.result ≡ basis.terms.tracked = looks_up c.args.listing c.args.told.now c.lead.new.path.items c.deref-2.result.now told c.args.tracked.now c.part_or-counted.result.now (looked c.new-tracked.result) leads.0 leads.1 c.deref-2.ensures.value (c.part_or-counted.ensures ∙ c.in_ok-part.ensures) (c.new-tracked.ensures c.args.listing.case c.in_ok-folded.ensures) in
    let at : Begins known basis c.lead.new.path.items told lists pending = subst (λ (t : LookedUp). Begins known (record { fronts = basis.fronts; terms = with_tracked c.args.listing t }) c.lead.new.path.items told lists pending) looks (rw (c.new-lister.ensures.lists, c.new-lister.ensures.terms) at c.in_ok-begin.ensures.begins) in
    let as_terms : terms_of c.begin.new.self.on_way.terms ≡ basis.terms = ap terms_of c.begin.ensures.terms ∙ c.new-lister.ensures.terms ∙ ap (with_tracked c.args.listing) looks in
    let old = g.W.Write.contents (inner c.args.writer.now) in
    let new = g.W.Write.contents (inner c.write_listed.new.writer) in
    let asks = rw as_terms at c.write_listed.ensures.asks in
    gives_further (λ _. ⊥) (λ folder. OfKnown now basis.terms (beginning_of c.begin.new.self) (λ given tree start. MayAsk (IsMet given tree start) given tree folder))
    (λ folder. (tree : FileTree) → known tree → MayAsk (IsReached standpoint basis tree c.args.told.now) basis tree folder)
    (g.S.FileSource.asked c.args.source.now) (g.S.FileSource.asked c.begin.new.source) (g.S.FileSource.asked c.write_listed.new.source) (λ folder never. absurd never)
    (λ folder met. folder_is_reached standpoint basis c.args.told.now c.lead.new.path.items told leads.0 leads.1 known lists pending at line now c.begin.ensures.stays old new folder met)
    c.begin.ensures.asks asks
