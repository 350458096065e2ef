-- How far a run over records has come: what becomes of it by each step, and how it ends.
use Rattle.std.proofs.Common.{◌≡◌, ⊎_elim, ℕ, ◌+◌, ◌-◌, ◌^◌, ◌≤◌, Bool, true, false, length, length-append, arith, List, [], ◌∷◌, ◌++◌, Option, Result, Ok, Err, IfOk, IsTrue, OnErr, OnOk, inl, inr, refl, sym, ap, subst, ◌∙◌, append-nil, append_assoc, take}
use Rattle.std.specs.Prelude.{◌⊎◌, IsErrAnd}
use Rattle.std.proofs.lemmas.Bool.{false≢true}
use Rattle.std.proofs.lemmas.Grind.{flat_map-append}
use Rattle.std.proofs.KnownBytes.{Appends-nil, Consumes-trans}
use Rattle.std.specs.Io.KnownBytes.{Appends, Consumes, IsAtEnd}
use Rattle.std.specs.List.{AllByRecursion}
use Rattle.byte_streams.specs.Progress.{Exactly, IsUnderWay, MovesOut, held}
use Rattle.byte_streams.specs.Records.{AnswersAll, AnswersEnded, AnswersFirst, AnswersSome, AreRecords, BeginsWith, HasNo, ended_bytes, last_record}
use Rattle.byte_streams.specs.Runs.{EndsRun}
use Rattle.byte_streams.specs.Transfers.{AppendsFront, ReadsWhole, Run}
use Rattle.byte_streams.specs.declared.fault.RecordFault.{RecordFault}
use Rattle.byte_streams.specs.declared.fault.RecordFault.TheVariants.{Answer, Endless, Memory, Read, Write}
use Rattle.byte_streams.specs.declared.records.Records.{Records}
use Rattle.byte_streams.specs.Faults.{is_endless, is_read_fault, is_write_fault, told_refusal}
use Rattle.byte_streams.specs.Private.Pulling.{Ends, Gives, Goes, HoldsSome, IsEnded, IsLast}
use Rattle.byte_streams.proofs.lemmas.RecordLemmas.{BeginsWith-grown, BeginsWith-more, BeginsWith-one, Weakens}
use Rattle.byte_streams.proofs.lemmas.RunLemmas.{Run-all_weaker, Run-cut, Run-ended_weaker, Run-first_weaker, Run-some_weaker}
use Rattle.byte_streams.proofs.lemmas.StreamLemmas.{AppendsFront-whole, MovesOut-all, MovesOut-front, MovesOut-grown, MovesOut-more}

-- ---- the records but the last one

abbrev front : {X : Type 0} → List X → List X
front [] = []
front (x ∷ []) = []
front (x ∷ y ∷ xs) = x ∷ front (y ∷ xs)

front_snoc : {X : Type 0} (xs : List X) (last : X) → front (xs ++ last ∷ []) ≡ xs
front_snoc [] last = refl
front_snoc (x ∷ []) last = refl
front_snoc (x ∷ y ∷ xs) last = ap (λ l. x ∷ l) (front_snoc (y ∷ xs) last)

snoc_front : {X : Type 0} (xs ys : List X) (x y : X) → xs ++ x ∷ [] ≡ ys ++ y ∷ [] → xs ≡ ys
snoc_front xs ys x y same = sym (front_snoc xs x) ∙ ap front same ∙ front_snoc ys y

AllByRecursion-front : {X : Type 0} (P : X → Type 0) (xs ys : List X) → AllByRecursion P (xs ++ ys) → AllByRecursion P xs
AllByRecursion-front P [] ys all = tt
AllByRecursion-front P (x ∷ xs) ys all = (all.0, AllByRecursion-front P xs ys all.1)

module _ (end : ℕ) (input : List ℕ) (given : List (List ℕ)) (last : List ℕ) where
  but_last : (rest : List ℕ) → BeginsWith end input (given ++ last ∷ []) rest → (left : List ℕ) × BeginsWith end input given left
  but_last rest begins = (
    ended_bytes end (last ∷ []) ++ rest,
    record {
      joined = begins.joined ∙ ap (λ l. l ++ rest) (flat_map-append (λ (each : List ℕ). each ++ end ∷ []) given (last ∷ [])) ∙ append_assoc (ended_bytes end given) (ended_bytes end (last ∷ [])) rest;
      each = AllByRecursion-front (HasNo end) given (last ∷ []) begins.each;
    },
  )

  all_but_last : (ended : List (List ℕ)) (rest : List ℕ) → BeginsWith end input ended rest → given ++ last ∷ [] ≡ ended ++ last_record rest → (left : List ℕ) × BeginsWith end input given left
  all_but_last ended [] begins all = but_last [] (subst (λ l. BeginsWith end input l []) (sym (all ∙ append-nil ended)) begins)
  all_but_last ended (b ∷ rest) begins all = (b ∷ rest, subst (λ l. BeginsWith end input l (b ∷ rest)) (sym (snoc_front given ended last (b ∷ rest) all)) begins)

-- the last record is one where it has bytes
one_last : (last : List ℕ) → ¬ (last ≡ []) → last ∷ [] ≡ last_record last
one_last [] some = absurd (some refl)
one_last (b ∷ last) some = refl

longer : (most reads fewer : ℕ) (input more : List ℕ) → most ≤ reads + length input → reads ≤ fewer + length more → most ≤ fewer + length (input ++ more)
longer most reads fewer input more low less = let grew = length-append input more in omega arith

-- ---- a step

module _ (end : ℕ) (records : Records) (text : List ℕ) (q r a b : Option (List ℕ)) (given : List (List ℕ)) (all : List ℕ) (way : IsUnderWay end records text q r a b given all) where
  -- the reader isn't at its end
  going : records.is_ended ≡ false → BeginsWith end way.input given (held records) × (2 ^ 64 - 1 ≤ records.reads_left + length way.input)
  going not = ⊎_elim
      (λ (h : (records.is_ended ≡ false) × BeginsWith end way.input given (held records) × (2 ^ 64 - 1 ≤ records.reads_left + length way.input)). (h.1, h.2))
      (λ (h : (records.is_ended ≡ true) × AreRecords end way.input given × (held records ≡ []) × IsAtEnd r). absurd (false≢true (sym not ∙ h.0)))
      way.so_far

  module _ (s : Option (List ℕ)) (more : List ℕ) (read : Consumes r s more) where
    on : Consumes q s (way.input ++ more)
    on = Consumes-trans q r s way.input more way.read read

    before_on : records.is_ended ≡ false → BeginsWith end (way.input ++ more) given (held records ++ more)
    before_on not = BeginsWith-grown end way.input (held records) given (going not).0 more

  -- a record was given
  module _ (new : Records) (s c : Option (List ℕ)) (kept last : List ℕ) (some : HoldsSome new) (same : new.end ≡ records.end) (out : MovesOut b c text kept) where
    stands : (not : records.is_ended ≡ false) (gives : Gives end (held records) last (held new) new.is_ended r s records.reads_left new.reads_left)
        → ((new.is_ended ≡ false) × BeginsWith end (way.input ++ gives.more) (given ++ last ∷ []) (held new) × (2 ^ 64 - 1 ≤ new.reads_left + length (way.input ++ gives.more)))
        ⊎ ((new.is_ended ≡ true) × AreRecords end (way.input ++ gives.more) (given ++ last ∷ []) × (held new ≡ []) × IsAtEnd s)
    stands not gives = ⊎_elim
        (λ (h : (new.is_ended ≡ false) × IsEnded end (held records ++ gives.more) last (held new) × (records.reads_left ≤ new.reads_left + length gives.more)).
        inl (
          h.0,
          BeginsWith-more end (way.input ++ gives.more) (held records ++ gives.more) given (before_on s gives.more gives.consumed not) (last ∷ []) (held new)
              (BeginsWith-one end (held records ++ gives.more) last (held new) gives.unended h.1.joined),
          longer (2 ^ 64 - 1) records.reads_left new.reads_left way.input gives.more (going not).1 h.2,
        ))
        (λ (h : (new.is_ended ≡ true) × IsLast s (held records ++ gives.more) last (held new)).
        inr (
          h.0,
          record {
            ended = given;
            rest = held records ++ gives.more;
            begins = before_on s gives.more gives.consumed not;
            unended = subst (HasNo end) (sym h.1.whole) gives.unended;
            all = ap (λ l. given ++ l) (one_last last h.1.some ∙ ap last_record (sym h.1.whole));
          },
          h.1.none,
          h.1.ended,
        ))
        gives.stands

    pub IsUnderWay-given : (records.is_ended ≡ false) × Gives records.end (held records) last (held new) new.is_ended r s records.reads_left new.reads_left
        → IsUnderWay end new kept q s a c (given ++ last ∷ []) all
    IsUnderWay-given (not, so) = let gives = subst (λ e. Gives e (held records) last (held new) new.is_ended r s records.reads_left new.reads_left) way.ends so in record {
      ends = same ∙ way.ends;
      some = (some.order, some.inside);
      input = way.input ++ gives.more;
      read = on s gives.more gives.consumed;
      so_far = stands not gives;
      moves = MovesOut-more a b all text way.moves c kept out;
    }

  -- the last record was answered
  pub IsUnderWay-answered : (more grown : List ℕ) → grown ≡ text ++ more → IsUnderWay end records grown q r a b given (all ++ more)
  IsUnderWay-answered more grown is = record {
    ends = way.ends;
    some = way.some;
    input = way.input;
    read = way.read;
    so_far = way.so_far;
    moves = MovesOut-grown a b all text way.moves more grown is;
  }

  -- there is no further record
  pub IsUnderWay-finished : (s c : Option (List ℕ)) (kept : List ℕ) → Ends (held records) r s → MovesOut b c text kept → kept ≡ [] → Run (ReadsWhole q s) (AnswersAll (Exactly given all) end) (Appends a c)
  IsUnderWay-finished s c kept ends out none = record {
    input = way.input ++ ends.more;
    read = record { consumed = on s ends.more ends.consumed; ended = ends.ended };
    text = all;
    allowed = record {
      records = given;
      are = ⊎_elim
          (λ (h : (records.is_ended ≡ false) × BeginsWith end way.input given (held records) × (2 ^ 64 - 1 ≤ records.reads_left + length way.input)).
          record {
            ended = given;
            rest = [];
            begins = subst (BeginsWith end (way.input ++ ends.more) given) ends.none (before_on s ends.more ends.consumed h.0);
            unended = tt;
            all = sym (append-nil given);
          })
          (λ (h : (records.is_ended ≡ true) × AreRecords end way.input given × (held records ≡ []) × IsAtEnd r).
          subst (λ l. AreRecords end l given) (sym (ap (λ l. way.input ++ l) (ap (λ l. l ++ ends.more) (sym h.2) ∙ ends.none) ∙ append-nil way.input)) h.1)
          way.so_far;
      answered = (refl, refl);
    };
    written = MovesOut-all a c all kept (MovesOut-more a b all text way.moves c kept out) c (subst (Appends c c) (sym none) (Appends-nil c));
  }

  -- ---- a fault

  stopped : (s c : Option (List ℕ)) → (records.is_ended ≡ false) × Appends b c text × ((more : List ℕ) × Consumes r s more) → Run (Consumes q s) (AnswersFirst (Exactly given all) end) (Appends a c)
  stopped s c (not, out, (more, read)) = record {
    input = way.input ++ more;
    read = on s more read;
    text = all;
    allowed = (held records ++ more, record { records = given; begins = before_on s more read not; answered = (refl, refl) });
    written = MovesOut-all a b all text way.moves c out;
  }

  unread : (s c : Option (List ℕ)) → (records.is_ended ≡ false) × Appends b c text × ((more : List ℕ) × Consumes r s more × HasNo records.end (held records ++ more))
      → Run (Consumes q s) (AnswersEnded (Exactly given all) end) (Appends a c)
  unread s c (not, out, (more, read, unended)) = record {
    input = way.input ++ more;
    read = on s more read;
    text = all;
    allowed = (
      held records ++ more,
      subst (λ e. HasNo e (held records ++ more)) way.ends unended,
      record { records = given; begins = before_on s more read not; answered = (refl, refl) },
    );
    written = MovesOut-all a b all text way.moves c out;
  }

  no_end : (s : Option (List ℕ)) → (records.is_ended ≡ false) × ((more : List ℕ) × Consumes r s more × (records.reads_left ≤ length more)) → (input : List ℕ) × Consumes q s input × (2 ^ 64 - 1 ≤ length input)
  no_end s (not, (more, read, long)) =
      let low : 2 ^ 64 - 1 ≤ 0 + length (way.input ++ more) = longer (2 ^ 64 - 1) records.reads_left 0 way.input more (going not).1 (omega arith) in
      (way.input ++ more, on s more read, omega arith)

  cut_off : (c : Option (List ℕ)) → AppendsFront b c text → Run (Consumes q r) (AnswersSome (Exactly given all) end) (AppendsFront a c)
  cut_off c out = record {
    input = way.input;
    read = way.read;
    text = all;
    allowed = ⊎_elim
        (λ (h : (records.is_ended ≡ false) × BeginsWith end way.input given (held records) × (2 ^ 64 - 1 ≤ records.reads_left + length way.input)).
        inl (held records, record { records = given; begins = h.1; answered = (refl, refl) }))
        (λ (h : (records.is_ended ≡ true) × AreRecords end way.input given × (held records ≡ []) × IsAtEnd r). inr (record { records = given; are = h.1; answered = (refl, refl) }))
        way.so_far;
    written = MovesOut-front a b all text way.moves c out;
  }

  -- any fault came, the writer's perhaps
  cut : (a_write_failed : Bool) (s c : Option (List ℕ)) → (a_write_failed ≡ false → (records.is_ended ≡ false) × Appends b c text × ((more : List ℕ) × Consumes r s more))
      → (a_write_failed ≡ true → (s ≡ r) × AppendsFront b c text) → Run (Consumes q s) (AnswersSome (Exactly given all) end) (AppendsFront a c)
  cut false s c stops front_of = Run-cut (Exactly given all) end (Consumes q s) a c (stopped s c (stops refl))
  cut true s c stops front_of = subst (λ t. Run (Consumes q t) (AnswersSome (Exactly given all) end) (AppendsFront a c)) (sym (front_of refl).0) (cut_off c (front_of refl).1)

  -- before a record was given
  pub IsUnderWay-failed : {X F : Type 0} (fault : RecordFault F) (s c : Option (List ℕ)) (a_read_failed a_write_failed : Bool)
      → (a_write_failed ≡ false → (records.is_ended ≡ false) × Appends b c text × ((more : List ℕ) × Consumes r s more))
      → (IsTrue (is_read_fault {X = X} (Err fault)) → (records.is_ended ≡ false) × Appends b c text × ((more : List ℕ) × Consumes r s more × HasNo records.end (held records ++ more)))
      → (IsTrue (is_endless {X = X} (Err fault)) → (records.is_ended ≡ false) × ((more : List ℕ) × Consumes r s more × (records.reads_left ≤ length more)))
      → (IsTrue a_write_failed → (s ≡ r) × AppendsFront b c text)
      → is_read_fault {X = X} (Err fault) ≡ a_read_failed → is_write_fault {X = X} (Err fault) ≡ a_write_failed
      → EndsRun {X = X} (λ _. Exactly given all) (Exactly given all) end (Err fault) q s a c a_read_failed a_write_failed
  IsUnderWay-failed fault s c a_read_failed a_write_failed stops misses lasts front_of read write = record {
    ok = tt;
    err = λ unfailed. stopped s c (stops unfailed);
    unread = λ told. unread s c (misses told);
    cut = cut a_write_failed s c stops front_of;
    endless = λ told. no_end s (lasts told);
    read = read;
    write = write;
  }

-- ---- what is told of the next record

module _ {F : Type 0} (records new : Records) (text kept last : List ℕ) (r s b c : Option (List ℕ)) where
  pub next_gives : new.end ≡ records.end → (result : Result Bool (RecordFault F)) → OnOk result (HoldsSome new)
      → IfOk result (λ is_given. Goes is_given records.end (held records) last (held new) records.is_ended new.is_ended r s records.reads_left new.reads_left) → OnOk result (MovesOut b c text kept)
      → IfOk result (λ is_given. IsTrue is_given → (end : ℕ) (q a : Option (List ℕ)) (given : List (List ℕ)) (all : List ℕ) → IsUnderWay end records text q r a b given all → IsUnderWay end new kept q s a c (given ++ last ∷ []) all)
  next_gives same (Ok true) some goes out = λ is end q a given all way. IsUnderWay-given end records text q r a b given all way new s c kept last some same out goes
  next_gives same (Ok false) some goes out = λ is. absurd (false≢true is)
  next_gives same (Err fault) some goes out = tt

  pub next_finished : (result : Result Bool (RecordFault F))
      → IfOk result (λ is_given. Goes is_given records.end (held records) last (held new) records.is_ended new.is_ended r s records.reads_left new.reads_left) → OnOk result (MovesOut b c text kept)
      → IfOk result (λ is_given. is_given ≡ false → kept ≡ [])
      → IfOk result (λ is_given. is_given ≡ false → (end : ℕ) (q a : Option (List ℕ)) (given : List (List ℕ)) (all : List ℕ) → IsUnderWay end records text q r a b given all → Run (ReadsWhole q s) (AnswersAll (Exactly given all) end) (Appends a c))
  next_finished (Ok true) goes out none = λ is. absurd (false≢true (sym is))
  next_finished (Ok false) goes out none = λ is end q a given all way. IsUnderWay-finished end records text q r a b given all way s c kept goes out (none is)
  next_finished (Err fault) goes out none = tt

  pub next_fails : (result : Result Bool (RecordFault F)) (a_read_failed a_write_failed : Bool)
      → OnErr result (a_write_failed ≡ false → (records.is_ended ≡ false) × Appends b c text × ((more : List ℕ) × Consumes r s more))
      → (IsTrue (is_read_fault result) → (records.is_ended ≡ false) × Appends b c text × ((more : List ℕ) × Consumes r s more × HasNo records.end (held records ++ more)))
      → (IsTrue (is_endless result) → (records.is_ended ≡ false) × ((more : List ℕ) × Consumes r s more × (records.reads_left ≤ length more)))
      → (IsTrue a_write_failed → (s ≡ r) × AppendsFront b c text)
      → is_read_fault result ≡ a_read_failed → is_write_fault result ≡ a_write_failed
      → OnErr result ((end : ℕ) (q a : Option (List ℕ)) (given : List (List ℕ)) (all : List ℕ) → IsUnderWay end records text q r a b given all → EndsRun (λ _. Exactly given all) (Exactly given all) end result q s a c a_read_failed a_write_failed)
  next_fails (Ok x) a_read_failed a_write_failed stops misses lasts front_of read write = tt
  next_fails (Err fault) a_read_failed a_write_failed stops misses lasts front_of read write = λ end q a given all way.
      IsUnderWay-failed end records text q r a b given all way fault s c a_read_failed a_write_failed stops misses lasts front_of read write

-- ---- a fault is told by any result

fault_told : (X Y : Type 0) {F : Type 0} (fault : RecordFault F)
    → (is_read_fault {X = X} (Err fault) ≡ is_read_fault {X = Y} (Err fault)) × (is_write_fault {X = X} (Err fault) ≡ is_write_fault {X = Y} (Err fault)) × (is_endless {X = X} (Err fault) ≡ is_endless {X = Y} (Err fault))
fault_told X Y Memory = (refl, refl, refl)
fault_told X Y (Read error) = (refl, refl, refl)
fault_told X Y (Write error) = (refl, refl, refl)
fault_told X Y (Answer refused) = (refl, refl, refl)
fault_told X Y Endless = (refl, refl, refl)

-- ---- the last record got no answer

module _ (end : ℕ) (records : Records) (text : List ℕ) (q r a b : Option (List ℕ)) (given : List (List ℕ)) (last all : List ℕ) (way : IsUnderWay end records text q r a b (given ++ last ∷ []) all) where
  first : AnswersFirst (Exactly given all) end way.input all
  first =
      let begins = ⊎_elim
      (λ (h : (records.is_ended ≡ false) × BeginsWith end way.input (given ++ last ∷ []) (held records) × (2 ^ 64 - 1 ≤ records.reads_left + length way.input)). but_last end way.input given last (held records) h.1)
      (λ (h : (records.is_ended ≡ true) × AreRecords end way.input (given ++ last ∷ []) × (held records ≡ []) × IsAtEnd r). all_but_last end way.input given last h.1.ended h.1.rest h.1.begins h.1.all)
      way.so_far in
      (begins.0, record { records = given; begins = begins.1; answered = (refl, refl) })

  pub IsUnderWay-unanswered : (c : Option (List ℕ)) → Appends b c text → Run (Consumes q r) (AnswersFirst (Exactly given all) end) (Appends a c)
  IsUnderWay-unanswered c out = record { input = way.input; read = way.read; text = all; allowed = first; written = MovesOut-all a b all text way.moves c out }

  pub IsUnderWay-cut : (c : Option (List ℕ)) → AppendsFront b c text → Run (Consumes q r) (AnswersSome (Exactly given all) end) (AppendsFront a c)
  IsUnderWay-cut c out = record { input = way.input; read = way.read; text = all; allowed = inl first; written = MovesOut-front a b all text way.moves c out }

  -- its fault is told, and those before were written
  pub IsUnderWay-refused : {X F : Type 0} (fault : F) (c : Option (List ℕ)) → Appends b c text → EndsRun {X = X} (λ _ _ _. ⊥) (Exactly given all) end (Err (Answer fault)) q r a c false false
  IsUnderWay-refused fault c out = record {
    ok = tt;
    err = λ _. IsUnderWay-unanswered c out;
    unread = λ told. absurd (false≢true told);
    cut = IsUnderWay-cut c (AppendsFront-whole b c text out);
    endless = λ told. absurd (false≢true told);
    read = refl;
    write = refl;
  }

  -- these weren't written whole
  pub IsUnderWay-unwritten : {X F : Type 0} (fault : RecordFault F) (c : Option (List ℕ)) → AppendsFront b c text
      → is_read_fault {X = Unit {0}} (Err fault) ≡ false → is_endless {X = Unit {0}} (Err fault) ≡ false → is_write_fault {X = Unit {0}} (Err fault) ≡ true → EndsRun {X = X} (λ _ _ _. ⊥) (Exactly given all) end (Err fault) q r a c false true
  IsUnderWay-unwritten {X} fault c out read endless write = let same = fault_told X (Unit {0}) fault in record {
    ok = tt;
    err = λ unfailed. absurd (false≢true (sym unfailed));
    unread = λ told. absurd (false≢true (sym read ∙ (sym same.0 ∙ told)));
    cut = IsUnderWay-cut c out;
    endless = λ told. absurd (false≢true (sym endless ∙ (sym same.2 ∙ told)));
    read = same.0 ∙ read;
    write = same.1 ∙ write;
  }

-- ---- the end of a run, as its caller tells it

pub exactly : (given : List (List ℕ)) (all : List ℕ) (IsText : List (List ℕ) → List ℕ → Type 0) → IsText given all → Weakens (Exactly given all) IsText
exactly given all IsText told = record { weaken = λ records text is. subst (λ r. IsText r text) (sym is.0) (subst (IsText given) (sym is.1) told) }

module _ {X Y F : Type 0} (Other : X → List (List ℕ) → List ℕ → Type 0) (IsWhole : Y → List (List ℕ) → List ℕ → Type 0) (IsText : List (List ℕ) → List ℕ → Type 0) (end : ℕ) (q s a c : Option (List ℕ)) (a_read_failed a_write_failed : Bool) (given : List (List ℕ)) (all : List ℕ) where
  -- by a fault
  EndsRun-fault : (fault : RecordFault F) → IsText given all → EndsRun Other (Exactly given all) end (Err fault) q s a c a_read_failed a_write_failed → EndsRun IsWhole IsText end (Err fault) q s a c a_read_failed a_write_failed
  EndsRun-fault fault told ends =
      let weaker = exactly given all IsText told in
      let same = fault_told X Y fault in record {
        ok = tt;
        err = λ unfailed. Run-first_weaker (Exactly given all) IsText weaker end (Consumes q s) (Appends a c) (ends.err unfailed);
        unread = λ is. Run-ended_weaker (Exactly given all) IsText weaker end (Consumes q s) (Appends a c) (ends.unread (same.0 ∙ is));
        cut = Run-some_weaker (Exactly given all) IsText weaker end (Consumes q s) (AppendsFront a c) ends.cut;
        endless = λ is. ends.endless (same.2 ∙ is);
        read = sym same.0 ∙ ends.read;
        write = sym same.1 ∙ ends.write;
      }

  pub EndsRun-told : (result : Result Y (RecordFault F)) (fault : RecordFault F) → IsErrAnd result (λ told. told ≡ fault) → IsText given all
      → EndsRun Other (Exactly given all) end (Err fault) q s a c a_read_failed a_write_failed → EndsRun IsWhole IsText end result q s a c a_read_failed a_write_failed
  EndsRun-told (Ok x) fault is told ends = absurd is
  EndsRun-told (Err own) fault is told ends = EndsRun-fault own told (subst (λ f. EndsRun Other (Exactly given all) end (Err f) q s a c a_read_failed a_write_failed) (sym is) ends)

-- by the end of the input
pub EndsRun-well : {Y F : Type 0} (IsWhole : Y → List (List ℕ) → List ℕ → Type 0) (IsText : List (List ℕ) → List ℕ → Type 0) (end : ℕ) (q s a c : Option (List ℕ)) (a_read_failed a_write_failed : Bool) (given : List (List ℕ)) (all : List ℕ) (y : Y)
    → IsWhole y given all → a_read_failed ≡ false → a_write_failed ≡ false → Run (ReadsWhole q s) (AnswersAll (Exactly given all) end) (Appends a c)
    → EndsRun {F = F} IsWhole IsText end (Ok y) q s a c a_read_failed a_write_failed
EndsRun-well IsWhole IsText end q s a c a_read_failed a_write_failed given all y told read write run = record {
  ok = Run-all_weaker (Exactly given all) (IsWhole y) (exactly given all (IsWhole y) told) end (ReadsWhole q s) (Appends a c) run;
  err = tt;
  unread = λ is. absurd (false≢true is);
  cut = tt;
  endless = λ is. absurd (false≢true is);
  read = sym read;
  write = sym write;
}

-- by the fault of a record that got no answer, after which the run ends
module _ {Y F : Type 0} (IsWhole : Y → List (List ℕ) → List ℕ → Type 0) (IsText : List (List ℕ) → List ℕ → Type 0) (end : ℕ) (q s a c : Option (List ℕ)) (a_read_failed a_write_failed : Bool) (given : List (List ℕ)) (all : List ℕ) where
  EndsRun-stopped : (result : Result Y (RecordFault F)) → IsText given all → EndsRun (λ _ _ _. ⊥) (Exactly given all) end result q s a c a_read_failed a_write_failed
      → EndsRun IsWhole IsText end result q s a c a_read_failed a_write_failed
  EndsRun-stopped (Ok y) told ends = absurd ends.ok.allowed.answered
  EndsRun-stopped (Err fault) told ends = EndsRun-fault (λ _ _ _. ⊥) IsWhole IsText end q s a c a_read_failed a_write_failed given all fault told ends

-- ---- a loop over records

-- the records so far, and a text of them
pub record IsRunning (IsText : List (List ℕ) → List ℕ → Type 0) (end : ℕ) (records : Records) (text : List ℕ) (q r a b : Option (List ℕ)) : Type 0 where
  pub given : List (List ℕ)
  pub all : List ℕ
  pub way : IsUnderWay end records text q r a b given all
  pub told : IsText given all

module _ (Before : List (List ℕ) → List ℕ → Type 0) (end : ℕ) (records : Records) (text : List ℕ) (q r a b : Option (List ℕ)) (running : IsRunning Before end records text q r a b) where
  module _ (new : Records) (kept bytes : List ℕ) (s c : Option (List ℕ))
      (gives : (end : ℕ) (q a : Option (List ℕ)) (given : List (List ℕ)) (all : List ℕ) → IsUnderWay end records text q r a b given all → IsUnderWay end new kept q s a c (given ++ bytes ∷ []) all) where
    way_on : IsUnderWay end new kept q s a c (running.given ++ bytes ∷ []) running.all
    way_on = gives end q a running.given running.all running.way

    -- the next record was answered
    pub IsRunning-answered : (After : List (List ℕ) → List ℕ → Type 0) (added grown : List ℕ) → grown ≡ kept ++ added
        → ((given : List (List ℕ)) (all : List ℕ) → Before given all → After (given ++ bytes ∷ []) (all ++ added)) → IsRunning After end new grown q s a c
    IsRunning-answered After added grown is more = record {
      given = running.given ++ bytes ∷ [];
      all = running.all ++ added;
      way = IsUnderWay-answered end new kept q s a c (running.given ++ bytes ∷ []) running.all way_on added grown is;
      told = more running.given running.all running.told;
    }

    -- it got no answer
    pub IsRunning-stopped : {Y F : Type 0} (IsWhole : Y → List (List ℕ) → List ℕ → Type 0) (After : List (List ℕ) → List ℕ → Type 0) (result : Result Y (RecordFault F)) (left : List ℕ) (d : Option (List ℕ)) (a_read_failed a_write_failed : Bool)
        → ((given : List (List ℕ)) (all : List ℕ) → Before given all → After given all) → left ≡ kept → a_read_failed ≡ false
        → ((end : ℕ) (q rest a : Option (List ℕ)) (given : List (List ℕ)) (last all : List ℕ) → IsUnderWay end new left q rest a c (given ++ last ∷ []) all → EndsRun (λ _ _ _. ⊥) (Exactly given all) end result q rest a d false a_write_failed)
        → EndsRun IsWhole After end result q s a d a_read_failed a_write_failed
    IsRunning-stopped IsWhole After result left d a_read_failed a_write_failed still same unread stops =
        let ends = stops end q s a running.given bytes running.all (subst (λ t. IsUnderWay end new t q s a c (running.given ++ bytes ∷ []) running.all) (sym same) way_on) in
        EndsRun-stopped IsWhole After end q s a d a_read_failed a_write_failed running.given running.all result (still running.given running.all running.told)
        (subst (λ failed. EndsRun (λ _ _ _. ⊥) (Exactly running.given running.all) end result q s a d failed a_write_failed) (sym unread) ends)

  module _ {Y F : Type 0} (IsWhole : Y → List (List ℕ) → List ℕ → Type 0) (After : List (List ℕ) → List ℕ → Type 0) (s c : Option (List ℕ)) (a_read_failed a_write_failed : Bool) where
    -- the next one couldn't be given
    pub IsRunning-failed : (result : Result Y (RecordFault F)) (fault : RecordFault F) → IsErrAnd result (λ told. told ≡ fault) → ((given : List (List ℕ)) (all : List ℕ) → Before given all → After given all)
        → ((end : ℕ) (q a : Option (List ℕ)) (given : List (List ℕ)) (all : List ℕ) → IsUnderWay end records text q r a b given all → EndsRun {X = Bool} (λ _. Exactly given all) (Exactly given all) end (Err fault) q s a c a_read_failed a_write_failed)
        → EndsRun IsWhole After end result q s a c a_read_failed a_write_failed
    IsRunning-failed result fault is still fails =
        EndsRun-told (λ _. Exactly running.given running.all) IsWhole After end q s a c a_read_failed a_write_failed running.given running.all result fault is (still running.given running.all running.told)
        (fails end q a running.given running.all running.way)

    -- there is none
    pub IsRunning-finished : (y : Y) → ((given : List (List ℕ)) (all : List ℕ) → Before given all → IsWhole y given all) → a_read_failed ≡ false → a_write_failed ≡ false
        → ((end : ℕ) (q a : Option (List ℕ)) (given : List (List ℕ)) (all : List ℕ) → IsUnderWay end records text q r a b given all → Run (ReadsWhole q s) (AnswersAll (Exactly given all) end) (Appends a c))
        → EndsRun {F = F} IsWhole After end (Ok y) q s a c a_read_failed a_write_failed
    IsRunning-finished y still read write ends =
        EndsRun-well IsWhole After end q s a c a_read_failed a_write_failed running.given running.all y (still running.given running.all running.told) read write (ends end q a running.given running.all running.way)

-- before the first record
pub IsRunning-first : (IsText : List (List ℕ) → List ℕ → Type 0) (end own : ℕ) → own ≡ end → (records : Records) (text : List ℕ) → text ≡ [] → ((reader writer : Option (List ℕ)) → IsUnderWay own records [] reader reader writer writer [] [])
    → IsText [] [] → (q a : Option (List ℕ)) → IsRunning IsText end records text q q a a
IsRunning-first IsText end own same records text none first told q a = record {
  given = [];
  all = [];
  way = subst (λ t. IsUnderWay end records t q q a a [] []) (sym none) (subst (λ e. IsUnderWay e records [] q q a a [] []) same (first q a));
  told = told;
}

-- ---- which record got no answer

pub all_weaker : {X : Type 0} (P Q : X → Type 0) → ((x : X) → P x → Q x) → (xs : List X) → AllByRecursion P xs → AllByRecursion Q xs
all_weaker P Q on [] h = tt
all_weaker P Q on (x ∷ xs) h = (on x h.0, all_weaker P Q on xs h.1)

refusal_told : (X Y : Type 0) {F : Type 0} (fault : RecordFault F) → told_refusal {X = X} (Err fault) ≡ told_refusal {X = Y} (Err fault)
refusal_told X Y Memory = refl
refusal_told X Y (Read error) = refl
refusal_told X Y (Write error) = refl
refusal_told X Y (Answer refused) = refl
refusal_told X Y Endless = refl

-- none did, where the fault is none of a record's
pub none_refused : (X : Type 0) {Y F : Type 0} (P : F → Type 0) (result : Result Y (RecordFault F)) (fault : RecordFault F) → IsErrAnd result (λ told. told ≡ fault) → told_refusal {X = X} (Err fault) ≡ [] → AllByRecursion P (told_refusal result)
none_refused X P (Ok y) fault is none = tt
none_refused X {Y} P (Err own) fault is none =
    subst (AllByRecursion P) (sym (ap (λ f. told_refusal {X = Y} (Err f)) is ∙ (refusal_told Y X fault ∙ none))) tt
