use Rattle.std.proofs.Common.{◌≡◌, ℕ, ◌+◌, ◌-◌, ◌*◌, ◌<◌, ◌≤◌, length, get_or, false, true, inl, inr, refl, sym, ◌∙◌, ap, subst, Option, arith}
use Rattle.std.proofs.lemmas.Bool.{cases_eq, cases_lt}
use Rattle.glob_matcher.specs.Tokens.{Byte}
use Rattle.glob_matcher.specs.Matching.{Fits}
use Rattle.glob_matcher.specs.Private.Prices.{amount, amount_of}
use Rattle.glob_matcher.specs.Bytes.{StandsForItself, slash}
use Rattle.glob_matcher.specs.declared.wildmatch.marks.Mark.{Mark}
use Rattle.glob_matcher.specs.Private.States.{StandsAt}
use Rattle.glob_matcher.proofs.lemmas.reading.Reading.{literal_token}
use Rattle.glob_matcher.proofs.lemmas.two_marks.Components.{IsInner}
use Rattle.glob_matcher.proofs.lemmas.two_marks.TakenBytes.{inner_of, misses_byte, stands_on, stands_past_slash}
use Rattle.glob_matcher.proofs.lemmas.two_marks.Prices.{Takes-both, Takes-grows, Takes-on, Takes-within, TakesExactly-at_most, amount-mono, amount-same, amount-sum}
use Rattle.glob_matcher.proofs.lemmas.two_marks.Budget.{allows_less, test_of_token}
use Rattle.glob_matcher.proofs.lemmas.two_marks.TakenByteCosts.{allows_on}
use Rattle.glob_matcher.proofs.lemmas.two_marks.Scans.{byte_of}
use Rattle.glob_matcher.proofs.wildmatch.engine.Engine.literal_turns.Goals as goal

pub returns-then-not-fits_byte : goal.returns-then-not-fits_byte
returns-then-not-fits_byte g c =
    let m = g.M.Texts in
    let same : c.pattern_byte-byte.result ≡ get_or m.pattern c.bytes.place 0 = c.pattern_byte-byte.ensures.here in
    let inside : c.bytes.place < length m.pattern = omega (arith, c.bytes-test.true, c.pattern_len.ensures) in
    let own = subst StandsForItself same (c.if-not-keeps_mark.ensures.token refl) in
    record {
      meaning = record {
        stands = c.bytes.invariant.stands;
        missed =
            misses_byte m.value c.bytes.at (literal_token m.way m.pattern c.bytes.place inside own) refl c.bytes.invariant.stands.inside
            (λ fits.
            let wrong : false ≡ true = c.if-not-fits_byte.ensures.answer.1
            (subst (λ (b : ℕ). (c.bytes.at < length m.value) × Fits m.way (Byte b) (get_or m.value c.bytes.at 0)) (sym same) fits) in
            cc);
      };
      allows = λ measure s n low a.
          let passed = c.bytes.place - c.args.state.place in
          let one = Takes-both (TakesExactly-at_most c.pattern_byte-byte.ensures.count) (TakesExactly-at_most c.fits_byte.ensures.count) in
          let all : amount_of measure c.fits_byte.new.self ≤ s + amount measure (passed + 1) (2 * passed + 3) =
          Takes-within measure s 0 1 low (Takes-both c.bytes.invariant.count one) (omega arith) (omega arith) in
          let price : amount measure (passed + 1) (2 * passed + 3)
          ≤ amount measure passed (8 * passed) + amount measure 1 (8 * (c.bytes.place + 1 - c.bytes.place)) = amount-sum measure passed (8 * passed) 1 (8 * (c.bytes.place + 1 - c.bytes.place)) (omega arith) (omega arith) in
          record {
            before = s + amount measure passed (8 * passed);
            tested = test_of_token (literal_token m.way m.pattern c.bytes.place inside own) refl (omega arith);
            allows = c.bytes.invariant.allows measure s n a;
          };
      progress = omega (arith, c.fits_byte.ensures.count.steps, c.pattern_byte-byte.ensures.count.steps, c.bytes.invariant.count.steps);
      grows =
          Takes-grows
          (Takes-both c.bytes.invariant.count (Takes-both (TakesExactly-at_most c.pattern_byte-byte.ensures.count) (TakesExactly-at_most c.fits_byte.ensures.count)));
    }

pub bytes-preserved : goal.bytes-preserved
bytes-preserved g c =
    let m = g.M.Texts in
    let same : c.pattern_byte-byte.result ≡ get_or m.pattern c.bytes.place 0 = c.pattern_byte-byte.ensures.here in
    let inside : c.bytes.place < length m.pattern = omega (arith, c.bytes-test.true, c.pattern_len.ensures) in
    let own = subst StandsForItself same (c.if-not-keeps_mark.ensures.token refl) in
    let token = literal_token m.way m.pattern c.bytes.place inside own in
    let fits = subst (λ (b : ℕ). (c.bytes.at < length m.value) × Fits m.way (Byte b) (get_or m.value c.bytes.at 0)) same
    (c.if-not-fits_byte.ensures.answer.0 refl) in
    let other = cases_eq (get_or m.pattern c.bytes.place 0) slash in
    let none = λ (is : get_or m.pattern c.bytes.place 0 ≡ slash). c.if-not-keeps_mark.ensures.kept refl (same ∙ is) in
    record {
      stands = elim other [
        | inl is ↦
            subst
            (λ (local : Option Mark). StandsAt m.way m.pattern m.value (record c.args.state { place = c.bytes.place + 1; at = c.bytes.at + 1; local = local }))
            (sym (none is)) (stands_past_slash c.bytes.invariant.stands token refl fits.0 fits.1 (ap Byte is))
        | inr off ↦ stands_on c.bytes.invariant.stands token refl fits.0 fits.1 (λ is. off (byte_of is))
      ];
      allows = λ measure s n a.
          let passed = c.bytes.place - c.args.state.place in
          let now = c.bytes.place + 1 - c.args.state.place in
          let price : amount measure now (8 * now) ≤ amount measure passed (8 * passed) + amount measure 1 (8 * (c.bytes.place + 1 - c.bytes.place)) =
          amount-sum measure passed (8 * passed) 1 (8 * (c.bytes.place + 1 - c.bytes.place)) (omega (arith, c.bytes.invariant.low)) (omega (arith, c.bytes.invariant.low)) in
          allows_on {after = s + amount measure now (8 * now)} token refl (omega arith) fits.0 fits.1
          (elim other [
            | inl is ↦ subst (λ (local : Option Mark). IsInner m.way m.value c.bytes.at local) (sym (none is)) tt
            | inr off ↦ inner_of token.token c.bytes.invariant.stands fits.1 (λ is. off (byte_of is))
          ])
          (c.bytes.invariant.allows measure s n a);
      low = omega (arith, c.bytes.invariant.low);
      count =
          Takes-on c.bytes.invariant.count (Takes-both (TakesExactly-at_most c.pattern_byte-byte.ensures.count) (TakesExactly-at_most c.fits_byte.ensures.count))
          (omega (arith, c.bytes.invariant.low)) (omega (arith, c.bytes.invariant.low));
    }

pub bytes-init : goal.bytes-init
bytes-init g c =
    let start = c.args.state.place in
    record {
      stands = c.requires.stands;
      allows = λ measure s n a.
          let none : amount measure (start - start) (8 * (start - start)) ≤ amount measure 0 0 = amount-mono measure (omega arith) (omega arith) in
          allows_less (omega (arith, none, amount-same measure 0)) a;
      low = omega arith;
      count = record { steps = omega arith; looks = omega arith; low = omega arith };
    }

pub returns-after-bytes : goal.returns-after-bytes
returns-after-bytes g c =
    let moved : c.args.state.place < c.bytes.place = omega (arith, c.bytes-test.false, c.pattern_len.ensures, c.requires.place) in
    record {
      meaning = c.bytes.invariant.stands;
      allows = λ measure s n low a.
          allows_less (Takes-within measure s 0 1 low c.bytes.invariant.count (omega arith) (omega arith)) (c.bytes.invariant.allows measure s n a);
      progress = omega (arith, c.bytes.invariant.count.steps);
      grows = Takes-grows c.bytes.invariant.count;
    }

pub returns-then-not-keeps_mark : goal.returns-then-not-keeps_mark
returns-then-not-keeps_mark g c =
    let m = g.M.Texts in
    let moved : c.args.state.place < c.bytes.place = elim (cases_lt c.args.state.place c.bytes.place) [
      | inl below ↦ below
      | inr high ↦
          let at : c.bytes.place ≡ c.args.state.place = omega (arith, c.bytes.invariant.low) in
          let same : c.pattern_byte-byte.result ≡ get_or m.pattern c.args.state.place 0 =
          c.pattern_byte-byte.ensures.here ∙ ap (λ (i : ℕ). get_or m.pattern i 0) at in
          let wrong : false ≡ true = c.if-not-keeps_mark.ensures.other
          (subst StandsForItself (sym same) c.requires.literal) (λ is. c.requires.other (sym same ∙ is)) in
          absurd cc
    ] in
    record {
      meaning = c.bytes.invariant.stands;
      allows = λ measure s n low a.
          allows_less
          (Takes-within measure s 0 1 low (Takes-both c.bytes.invariant.count (TakesExactly-at_most c.pattern_byte-byte.ensures.count)) (omega arith) (omega arith))
          (c.bytes.invariant.allows measure s n a);
      progress = omega (arith, c.bytes.invariant.count.steps, c.pattern_byte-byte.ensures.count.steps);
      grows = Takes-grows (Takes-both c.bytes.invariant.count (TakesExactly-at_most c.pattern_byte-byte.ensures.count));
    }
