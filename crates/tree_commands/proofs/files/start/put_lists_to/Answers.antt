use Rattle.std.proofs.Common.{◌≡◌, inr, take, true, false, refl, sym, ap, ◌∙◌}
use Rattle.std.proofs.lemmas.Bool.{false≢true}
use Rattle.gix_glob.specs.Bytes.{HasByte, slash}
use Rattle.glob_lists.proofs.lemmas.Deciding.PathsLemmas.{IsPlainPath-folder}
use Rattle.gix_glob.specs.declared.pattern.Case.{Case}
use Rattle.tree_commands.specs.declared.files.choosing.Chosen.TheVariants.{All}
use Rattle.tree_commands.specs.declared.files.terms.Terms as held
use Rattle.tree_commands.specs.Files.{Basis}
use Rattle.tree_commands.specs.Ignoring.{IsIgnored}
use Rattle.tree_commands.specs.Private.Listing.{seen_lists, terms_of}
use Rattle.tree_commands.proofs.lemmas.SourceLemmas.{gives_none, stays_further}
use Rattle.tree_commands.proofs.lemmas.StartLemmas.{puts_all, puts_by, way_ends, way_enters, way_is_shut, way_passes}
use Rattle.tree_commands.proofs.files.start.put_lists_to.Goals as goal

abbrev case_of : held.Terms → Case
case_of terms = terms.case

pub returns-then-takes_all-clause-puts : goal.returns-then-takes_all-clause-puts
returns-then-takes_all-clause-puts g c =
    let basis : Basis = record { fronts = seen_lists c.args.on_way.now.lists.items; terms = terms_of c.args.on_way.now.terms } in
    λ tree known. puts_all basis tree c.args.path.now (seen_lists c.args.on_way.now.lists.items) c.args.on_way.now.terms.chosen (c.takes_all.ensures.0 c.if-takes_all.true)

pub bytes-preserved-then-path-place-ne47 : goal.bytes-preserved-then-path-place-ne47
bytes-preserved-then-path-place-ne47 g c =
    let basis : Basis = record { fronts = seen_lists c.args.on_way.now.lists.items; terms = terms_of c.args.on_way.now.terms } in record {
      on_way = λ tree known. way_passes basis tree c.args.path.now c.bytes.place (seen_lists c.bytes.on_way.lists.items) c.bytes-test.true (c.bytes.invariant.on_way tree known) c.if-path-place-ne47.true;
      folders = c.bytes.invariant.folders;
      terms = c.bytes.invariant.terms;
      stays = c.bytes.invariant.stays;
      asks = c.bytes.invariant.asks;
    }

pub is_ignored_by-requires-clause-plain : goal.is_ignored_by-requires-clause-plain
is_ignored_by-requires-clause-plain g c = IsPlainPath-folder c.args.path.now c.bytes.place (inr c.requires.plain) (record { inside = c.bytes-test.true; is = c.if-path-place-ne47.false })

pub returns-then-is_ignored_by-clause-puts : goal.returns-then-is_ignored_by-clause-puts
returns-then-is_ignored_by-clause-puts g c =
    let basis : Basis = record { fronts = seen_lists c.args.on_way.now.lists.items; terms = terms_of c.args.on_way.now.terms } in
    let here : HasByte c.args.path.now c.bytes.place slash = record { inside = c.bytes-test.true; is = c.if-path-place-ne47.false } in
    let some : ¬ (c.args.on_way.now.terms.chosen ≡ All) = λ all. false≢true (sym c.if-takes_all.false ∙ c.takes_all.ensures.1 all) in
    let ignored : IsIgnored (seen_lists c.bytes.on_way.lists.items) c.args.on_way.now.terms.case (take c.bytes.place c.args.path.now) true = rw (c.deref.ensures.value, ap case_of c.bytes.invariant.terms) at (c.if-is_ignored_by.ensures.0 refl) in
    λ tree known. puts_by basis tree c.args.path.now (seen_lists c.bytes.on_way.lists.items) c.args.on_way.now.terms.chosen some true
    (way_is_shut basis tree c.args.path.now c.bytes.place (seen_lists c.bytes.on_way.lists.items) c.bytes-test.true (c.bytes.invariant.on_way tree known) c.requires.plain here ignored)

pub returns-in_err-push_own-2-clause-stays : goal.returns-in_err-push_own-2-clause-stays
returns-in_err-push_own-2-clause-stays g c = stays_further g.S.FileSource.shows c.args.source.now c.bytes.source c.push_own-in-bytes.new.source c.bytes.invariant.stays c.push_own-in-bytes.ensures.stays

pub returns-in_err-push_own-2-clause-asks : goal.returns-in_err-push_own-2-clause-asks
returns-in_err-push_own-2-clause-asks g c =
    gives_none (λ _. ⊥) (g.S.FileSource.asked c.args.source.now) (g.S.FileSource.asked c.bytes.source) (g.S.FileSource.asked c.push_own-in-bytes.new.source) c.bytes.invariant.asks c.push_own-in-bytes.ensures.asks

pub bytes-preserved : goal.bytes-preserved
bytes-preserved g c =
    let basis : Basis = record { fronts = seen_lists c.args.on_way.now.lists.items; terms = terms_of c.args.on_way.now.terms } in
    let here : HasByte c.args.path.now c.bytes.place slash = record { inside = c.bytes-test.true; is = c.if-path-place-ne47.false } in
    let kept : ¬ IsIgnored (seen_lists c.bytes.on_way.lists.items) c.args.on_way.now.terms.case (take c.bytes.place c.args.path.now) true =
    λ ignored. false≢true (c.if-is_ignored_by.ensures.1 (rw (c.deref.ensures.value, ap case_of c.bytes.invariant.terms) ignored)) in
    let adds = c.in_ok-push_own-2.ensures.adds in record {
      on_way = λ tree known. way_enters basis tree c.args.path.now c.bytes.place (seen_lists c.bytes.on_way.lists.items) c.bytes-test.true (c.bytes.invariant.on_way tree known) c.requires.plain here
          (seen_lists c.push_own-in-bytes.new.on_way.lists.items) adds.own adds.joined (adds.is_own tree (c.bytes.invariant.stays tree known)) kept;
      folders = c.in_ok-push_own-2.ensures.folders;
      terms = c.push_own-in-bytes.ensures.terms ∙ c.bytes.invariant.terms;
      stays = stays_further g.S.FileSource.shows c.args.source.now c.bytes.source c.push_own-in-bytes.new.source c.bytes.invariant.stays c.push_own-in-bytes.ensures.stays;
      asks = gives_none (λ _. ⊥) (g.S.FileSource.asked c.args.source.now) (g.S.FileSource.asked c.bytes.source) (g.S.FileSource.asked c.push_own-in-bytes.new.source) c.bytes.invariant.asks c.push_own-in-bytes.ensures.asks;
    }

pub returns-clause-puts : goal.returns-clause-puts
returns-clause-puts g c =
    let basis : Basis = record { fronts = seen_lists c.args.on_way.now.lists.items; terms = terms_of c.args.on_way.now.terms } in
    let some : ¬ (c.args.on_way.now.terms.chosen ≡ All) = λ all. false≢true (sym c.if-takes_all.false ∙ c.takes_all.ensures.1 all) in
    λ tree known. puts_by basis tree c.args.path.now (seen_lists c.bytes.on_way.lists.items) c.args.on_way.now.terms.chosen some false
    (way_ends basis tree c.args.path.now c.bytes.place (seen_lists c.bytes.on_way.lists.items) c.bytes-test.false (c.bytes.invariant.on_way tree known))
