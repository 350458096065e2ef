use Rattle.std.proofs.Common.{◌≡◌, ◌++◌, ◌∙◌, List, ℕ, Option, true, map, sym, ap, subst, arith}
use Rattle.std.specs.Prelude.{MatchOption, ◌≢◌}
use Rattle.std.proofs.lemmas.Result.{err_from_is_err_and}
use Rattle.git_index.specs.declared.entry.Entry.{Entry}
use Rattle.git_index.specs.declared.link.Link.{Link}
use Rattle.git_index.specs.Entries.{InOrder, Tracked, tracked}
use Rattle.git_index.specs.Format.{HasLink, HasNoLink, zero_hash}
use Rattle.git_index.proofs.lemmas.FileLaws.{file_is_found, found_is_file}
use Rattle.git_index.proofs.lemmas.Joined.{are_joined_at, joined_alone, joined_refused, joined_takes}
use Rattle.git_index.proofs.lemmas.Links.{link_fits}
use Rattle.git_index.proofs.index.Index.from_split.Goals as goal

pub returns-in_err-own-clause-only : goal.returns-in_err-own-clause-only
returns-in_err-own-clause-only c = λ es split room also.
    let p = err_from_is_err_and c.from_residual.result c.from_residual.ensures.1 in
    rw p.1 (p.2 ∙ c.in_err-own.ensures.only split.own split.extensions (file_is_found c.args.format c.args.bytes.now split.own split.extensions (λ i. omega (arith, c.type_inv.bytes i)) split.spelled room))

pub returns-in_err-link-clause-only : goal.returns-in_err-link-clause-only
returns-in_err-link-clause-only c = λ es split room also.
    let p = err_from_is_err_and c.from_residual-in_err-link.result c.from_residual-in_err-link.ensures.1 in
    let same = c.in_ok-own.ensures.only split.own split.extensions (file_is_found c.args.format c.args.bytes.now split.own split.extensions (λ i. omega (arith, c.type_inv.bytes i)) split.spelled room) in
    rw p.1 (p.2 ∙ c.in_err-link.ensures.some split.hash split.bitmaps (subst (λ (w : List ℕ). HasLink c.args.format split.hash split.bitmaps w) (sym same.1) split.link.0) split.link.1)

pub returns-in_default-clause-only : goal.returns-in_default-clause-only
returns-in_default-clause-only c = λ es split room also.
    let same = c.in_ok-own.ensures.only split.own split.extensions (file_is_found c.args.format c.args.bytes.now split.own split.extensions (λ i. omega (arith, c.type_inv.bytes i)) split.spelled room) in
    let no : ⊥ = subst (λ (o : Option Link). MatchOption o ⊥ (λ x. (x.hash.now ≡ split.hash) × (x.bitmaps.now ≡ split.bitmaps))) c.in_default.is (c.in_ok-link.ensures.some split.hash split.bitmaps (subst (λ (w : List ℕ). HasLink c.args.format split.hash split.bitmaps w) (sym same.1) split.link.0) split.link.1) in
    absurd no

pub returns-in_err-shared-clause-only : goal.returns-in_err-shared-clause-only
returns-in_err-shared-clause-only c = λ es split room also.
    let p = err_from_is_err_and c.from_residual-in_err-shared.result c.from_residual-in_err-shared.ensures.1 in
    let same = c.in_ok-own.ensures.only split.own split.extensions (file_is_found c.args.format c.args.bytes.now split.own split.extensions (λ i. omega (arith, c.type_inv.bytes i)) split.spelled room) in
    let told = (subst (λ (o : Option Link). MatchOption o ⊥ (λ x. (x.hash.now ≡ split.hash) × (x.bitmaps.now ≡ split.bitmaps))) c.in-Some.is (c.in_ok-link.ensures.some split.hash split.bitmaps (subst (λ (w : List ℕ). HasLink c.args.format split.hash split.bitmaps w) (sym same.1) split.link.0) split.link.1)) in
    rw p.1 (p.2 ∙ c.in_err-shared.ensures.only split.shared split.whole split.ends.0 (split.ends.1 ∙ ap (λ (w : List ℕ). split.ends.0 ++ w) (sym told.0)) also)

pub returns-in_err-entries-clause-only : goal.returns-in_err-entries-clause-only
returns-in_err-entries-clause-only c = λ es split room also.
    let p = err_from_is_err_and c.from_residual-in_err-entries.result c.from_residual-in_err-entries.ensures.1 in
    let same = c.in_ok-own.ensures.only split.own split.extensions (file_is_found c.args.format c.args.bytes.now split.own split.extensions (λ i. omega (arith, c.type_inv.bytes i)) split.spelled room) in
    let told = (subst (λ (o : Option Link). MatchOption o ⊥ (λ x. (x.hash.now ≡ split.hash) × (x.bitmaps.now ≡ split.bitmaps))) c.in-Some.is (c.in_ok-link.ensures.some split.hash split.bitmaps (subst (λ (w : List ℕ). HasLink c.args.format split.hash split.bitmaps w) (sym same.1) split.link.0) split.link.1)) in
    let shared_is = c.in_ok-shared.ensures.only split.shared split.whole split.ends.0 (split.ends.1 ∙ ap (λ (w : List ℕ). split.ends.0 ++ w) (sym told.0)) also in
    rw p.1 (p.2 ∙ joined_refused (map tracked c.in_ok-shared.shared.items) (map tracked c.in_ok-own.own.items) c.in-Some.link.bitmaps.now es c.in_err-entries.field-0.0 c.in_err-entries.ensures (are_joined_at (sym shared_is) (sym same.0) (sym told.1) split.joined))

pub returns-then-not-is_ordered-clause-only : goal.returns-then-not-is_ordered-clause-only
returns-then-not-is_ordered-clause-only c = λ es split room also.
    let same = c.in_ok-own.ensures.only split.own split.extensions (file_is_found c.args.format c.args.bytes.now split.own split.extensions (λ i. omega (arith, c.type_inv.bytes i)) split.spelled room) in
    let told = (subst (λ (o : Option Link). MatchOption o ⊥ (λ x. (x.hash.now ≡ split.hash) × (x.bitmaps.now ≡ split.bitmaps))) c.in-Some.is (c.in_ok-link.ensures.some split.hash split.bitmaps (subst (λ (w : List ℕ). HasLink c.args.format split.hash split.bitmaps w) (sym same.1) split.link.0) split.link.1)) in
    let shared_is = c.in_ok-shared.ensures.only split.shared split.whole split.ends.0 (split.ends.1 ∙ ap (λ (w : List ℕ). split.ends.0 ++ w) (sym told.0)) also in
    let found = joined_alone (map tracked c.in_ok-shared.shared.items) (map tracked c.in_ok-own.own.items) c.in-Some.link.bitmaps.now es (map tracked c.in_ok-entries.entries.items) c.in_ok-entries.ensures (are_joined_at (sym shared_is) (sym same.0) (sym told.1) split.joined) in
    let ordered = subst (λ (w : List Entry). InOrder (map tracked w)) (sym c.deref.ensures.value) (subst (λ (w : List Tracked). InOrder w) (sym found) split.ordered) in
    let is : c.is_ordered.result ≡ true = c.is_ordered.ensures.1 ordered in
    absurd cc

pub returns-clause-found : goal.returns-clause-found
returns-clause-found c =
    let own = map tracked c.in_ok-own.own.items in
    let extensions = c.in_ok-own.extensions.now in
    let hash = c.in-Some.link.hash.now in
    let bitmaps = c.in-Some.link.bitmaps.now in
    let spelled = found_is_file c.args.format c.args.bytes.now own extensions (λ i. omega (arith, c.type_inv.bytes i)) c.in_ok-own.ensures.found in
    let link = subst (λ (o : Option Link). MatchOption o (HasNoLink c.args.format extensions) (λ x. HasLink c.args.format x.hash.now x.bitmaps.now extensions × (x.hash.now ≢ zero_hash c.args.format))) c.in-Some.is c.in_ok-link.ensures.found in
    record {
      own = own;
      extensions = extensions;
      spelled = spelled;
      hash = hash;
      bitmaps = bitmaps;
      link = link;
      ends = c.in_ok-shared.ensures.found.1;
      shared = map tracked c.in_ok-shared.shared.items;
      whole = c.in_ok-shared.ensures.found.0;
      joined = joined_takes (map tracked c.in_ok-shared.shared.items) own bitmaps (map tracked c.in_ok-entries.entries.items) (link_fits c.args.format hash bitmaps c.args.bytes.now extensions own (λ i. omega (arith, c.type_inv.bytes i)) spelled link.0) c.in_ok-entries.ensures;
      ordered = subst (λ (w : List Entry). InOrder (map tracked w)) c.deref.ensures.value (c.is_ordered.ensures.0 c.if-not-is_ordered.false);
    }

pub returns-clause-only : goal.returns-clause-only
returns-clause-only c = λ es split room also.
    let same = c.in_ok-own.ensures.only split.own split.extensions (file_is_found c.args.format c.args.bytes.now split.own split.extensions (λ i. omega (arith, c.type_inv.bytes i)) split.spelled room) in
    let told = (subst (λ (o : Option Link). MatchOption o ⊥ (λ x. (x.hash.now ≡ split.hash) × (x.bitmaps.now ≡ split.bitmaps))) c.in-Some.is (c.in_ok-link.ensures.some split.hash split.bitmaps (subst (λ (w : List ℕ). HasLink c.args.format split.hash split.bitmaps w) (sym same.1) split.link.0) split.link.1)) in
    let shared_is = c.in_ok-shared.ensures.only split.shared split.whole split.ends.0 (split.ends.1 ∙ ap (λ (w : List ℕ). split.ends.0 ++ w) (sym told.0)) also in
    joined_alone (map tracked c.in_ok-shared.shared.items) (map tracked c.in_ok-own.own.items) c.in-Some.link.bitmaps.now es (map tracked c.in_ok-entries.entries.items) c.in_ok-entries.ensures (are_joined_at (sym shared_is) (sym same.0) (sym told.1) split.joined)
