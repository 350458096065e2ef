use Rattle.std.proofs.Common.{◌≡◌, ◌∙◌, List, ℕ, Option, None, Some, sym, ap, subst, inl, inr}
use Rattle.std.specs.Option.{option_map}
use Rattle.std.proofs.lemmas.Result.{err_from_is_err_and}
use Rattle.git_index.specs.declared.link.Link.{Link}
use Rattle.git_index.specs.Format.{zero_hash}
use Rattle.git_index.specs.Private.Reading.{StopsWith}
use Rattle.git_index.proofs.lemmas.Links.{at_stop, is_no_zero, link_stops, no_link_stops, none_is_no_some, other_is_link, seen_link, some_is, some_is_no_none, zero_is_no_link}
use Rattle.git_index.proofs.link.link_among.Goals as goal

pub returns-in_err-rest-clause-none : goal.returns-in_err-rest-clause-none
returns-in_err-rest-clause-none c = λ none.
    let p = err_from_is_err_and c.from_residual.result c.from_residual.ensures.1 in
    rw p.1 (p.2 ∙ elim ((no_link_stops c.args.format c.args.bytes.now none).1) [
      | inl x ↦ c.in_err-rest.ensures.only x.stop x.passed x.ends
      | inr x ↦ c.in_err-rest.ensures.only x.stop x.passed x.ends
    ])

pub returns-in_err-rest-clause-some : goal.returns-in_err-rest-clause-some
returns-in_err-rest-clause-some c = λ hash bitmaps link other.
    let p = err_from_is_err_and c.from_residual.result c.from_residual.ensures.1 in
    let x = link_stops c.args.format hash bitmaps c.args.bytes.now link in
    rw p.1 (p.2 ∙ c.in_err-rest.ensures.only x.stop x.passed x.ends)

pub returns-in_err-link-clause-none : goal.returns-in_err-link-clause-none
returns-in_err-link-clause-none c = λ none.
    let p = err_from_is_err_and c.from_residual-in_err-link.result c.from_residual-in_err-link.ensures.1 in
    let stops = no_link_stops c.args.format c.args.bytes.now none in
    rw p.1 (p.2 ∙ elim (stops.1) [
      | inl x ↦ c.in_err-link.ensures.only None (at_stop c.args.format None c.args.bytes.now c.in_ok-rest.rest.now c.hash_len.result x (c.in_ok-rest.ensures.only x.stop x.passed x.ends) c.hash_len.ensures)
      | inr x ↦ c.in_err-link.ensures.only (Some (zero_hash c.args.format, stops.0)) (at_stop c.args.format (Some (zero_hash c.args.format, stops.0)) c.args.bytes.now c.in_ok-rest.rest.now c.hash_len.result x (c.in_ok-rest.ensures.only x.stop x.passed x.ends) c.hash_len.ensures)
    ])

pub returns-in_err-link-clause-some : goal.returns-in_err-link-clause-some
returns-in_err-link-clause-some c = λ hash bitmaps link other.
    let p = err_from_is_err_and c.from_residual-in_err-link.result c.from_residual-in_err-link.ensures.1 in
    let x = link_stops c.args.format hash bitmaps c.args.bytes.now link in
    rw p.1 (p.2 ∙ c.in_err-link.ensures.only (Some (hash, bitmaps)) (at_stop c.args.format (Some (hash, bitmaps)) c.args.bytes.now c.in_ok-rest.rest.now c.hash_len.result x (c.in_ok-rest.ensures.only x.stop x.passed x.ends) c.hash_len.ensures))

pub returns-in_default-clause-some : goal.returns-in_default-clause-some
returns-in_default-clause-some c = λ hash bitmaps link other.
    let x = link_stops c.args.format hash bitmaps c.args.bytes.now link in
    let seen : option_map seen_link c.in_ok-link.field-0 ≡ None = ap (λ (o : Option Link). option_map seen_link o) c.in_default.is in
    none_is_no_some (hash, bitmaps) (sym seen ∙ c.in_ok-link.ensures.only (Some (hash, bitmaps)) (at_stop c.args.format (Some (hash, bitmaps)) c.args.bytes.now c.in_ok-rest.rest.now c.hash_len.result x (c.in_ok-rest.ensures.only x.stop x.passed x.ends) c.hash_len.ensures))

pub returns-then-is_zero-clause-found : goal.returns-then-is_zero-clause-found
returns-then-is_zero-clause-found c =
    let h = c.in-Some.link.hash.now in
    let b = c.in-Some.link.bitmaps.now in
    let seen : option_map seen_link c.in_ok-link.field-0 ≡ Some (h, b) = ap (λ (o : Option Link). option_map seen_link o) c.in-Some.is in
    let holds : StopsWith c.hash_len.result (Some (h, b)) c.in_ok-rest.rest.now = subst (λ (o : Option (List ℕ × List ℕ)). StopsWith c.hash_len.result o c.in_ok-rest.rest.now) seen c.in_ok-link.ensures.found in
    (zero_is_no_link c.args.format c.args.bytes.now c.in_ok-rest.rest.now c.hash_len.result h b c.hash_len.ensures c.in_ok-rest.ensures.found.0 holds (sym c.is_zero.ensures ∙ c.if-is_zero.true)).1

pub returns-then-is_zero-clause-some : goal.returns-then-is_zero-clause-some
returns-then-is_zero-clause-some c = λ hash bitmaps link other.
    let x = link_stops c.args.format hash bitmaps c.args.bytes.now link in
    let h = c.in-Some.link.hash.now in
    let b = c.in-Some.link.bitmaps.now in
    let seen : option_map seen_link c.in_ok-link.field-0 ≡ Some (h, b) = ap (λ (o : Option Link). option_map seen_link o) c.in-Some.is in
    let holds : StopsWith c.hash_len.result (Some (h, b)) c.in_ok-rest.rest.now = subst (λ (o : Option (List ℕ × List ℕ)). StopsWith c.hash_len.result o c.in_ok-rest.rest.now) seen c.in_ok-link.ensures.found in
    let zero = zero_is_no_link c.args.format c.args.bytes.now c.in_ok-rest.rest.now c.hash_len.result h b c.hash_len.ensures c.in_ok-rest.ensures.found.0 holds (sym c.is_zero.ensures ∙ c.if-is_zero.true) in
    let same = some_is (h, b) (hash, bitmaps) (sym seen ∙ c.in_ok-link.ensures.only (Some (hash, bitmaps)) (at_stop c.args.format (Some (hash, bitmaps)) c.args.bytes.now c.in_ok-rest.rest.now c.hash_len.result x (c.in_ok-rest.ensures.only x.stop x.passed x.ends) c.hash_len.ensures)) in
    other (ap (λ (y : List ℕ × List ℕ). y.0) (sym same) ∙ zero.0)

pub returns-clause-found : goal.returns-clause-found
returns-clause-found c =
    let h = c.in-Some.link.hash.now in
    let b = c.in-Some.link.bitmaps.now in
    let seen : option_map seen_link c.in_ok-link.field-0 ≡ Some (h, b) = ap (λ (o : Option Link). option_map seen_link o) c.in-Some.is in
    let holds : StopsWith c.hash_len.result (Some (h, b)) c.in_ok-rest.rest.now = subst (λ (o : Option (List ℕ × List ℕ)). StopsWith c.hash_len.result o c.in_ok-rest.rest.now) seen c.in_ok-link.ensures.found in
    other_is_link c.args.format c.args.bytes.now c.in_ok-rest.rest.now c.hash_len.result h b c.hash_len.ensures c.in_ok-rest.ensures.found.0 holds (sym c.is_zero.ensures ∙ c.if-is_zero.false)

pub returns-clause-none : goal.returns-clause-none
returns-clause-none c = λ none.
    let stops = no_link_stops c.args.format c.args.bytes.now none in
    let h = c.in-Some.link.hash.now in
    let b = c.in-Some.link.bitmaps.now in
    let seen : option_map seen_link c.in_ok-link.field-0 ≡ Some (h, b) = ap (λ (o : Option Link). option_map seen_link o) c.in-Some.is in
    let zero : List ℕ × List ℕ = (zero_hash c.args.format, stops.0) in
    elim (stops.1) [
      | inl x ↦ some_is_no_none (h, b) (sym seen ∙ c.in_ok-link.ensures.only None (at_stop c.args.format None c.args.bytes.now c.in_ok-rest.rest.now c.hash_len.result x (c.in_ok-rest.ensures.only x.stop x.passed x.ends) c.hash_len.ensures))
      | inr x ↦
          let same = some_is (h, b) zero (sym seen ∙ c.in_ok-link.ensures.only (Some zero) (at_stop c.args.format (Some zero) c.args.bytes.now c.in_ok-rest.rest.now c.hash_len.result x (c.in_ok-rest.ensures.only x.stop x.passed x.ends) c.hash_len.ensures)) in
          is_no_zero c.args.format h (sym c.is_zero.ensures ∙ c.if-is_zero.false) (ap (λ (y : List ℕ × List ℕ). y.0) same)
    ]

pub returns-clause-some : goal.returns-clause-some
returns-clause-some c = λ hash bitmaps link other.
    let x = link_stops c.args.format hash bitmaps c.args.bytes.now link in
    let h = c.in-Some.link.hash.now in
    let b = c.in-Some.link.bitmaps.now in
    let seen : option_map seen_link c.in_ok-link.field-0 ≡ Some (h, b) = ap (λ (o : Option Link). option_map seen_link o) c.in-Some.is in
    let same = some_is (h, b) (hash, bitmaps) (sym seen ∙ c.in_ok-link.ensures.only (Some (hash, bitmaps)) (at_stop c.args.format (Some (hash, bitmaps)) c.args.bytes.now c.in_ok-rest.rest.now c.hash_len.result x (c.in_ok-rest.ensures.only x.stop x.passed x.ends) c.hash_len.ensures)) in
    (ap (λ (y : List ℕ × List ℕ). y.0) same, ap (λ (y : List ℕ × List ℕ). y.1) same)
