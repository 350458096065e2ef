-- What a writer took of texts, and what is left of them.
use Rattle.std.proofs.Common.{◌≡◌, ℕ, ◌+◌, List, ◌++◌, Option, Result, Ok, Err, length, take, sym, ap, subst, ◌∙◌, append_assoc}
use Rattle.std.specs.Prelude.{OnErr}
use Rattle.std.proofs.KnownBytes.{Appends-trans}
use Rattle.std.specs.Io.KnownBytes.{Appends}
use Rattle.std.proofs.Math.Seq.{take-append-add, take-length}
use Rattle.byte_streams.specs.Transfers.{AppendsFront}
use Rattle.byte_streams.specs.Progress.{MovesOut}

-- what holds anyway holds of an error
pub on_any_err : {T E P : Type 0} (r : Result T E) → P → OnErr r P
on_any_err (Ok x) p = tt
on_any_err (Err e) p = p

-- ---- what was written

-- what was appended whole is a front of itself
pub AppendsFront-whole : (a b : Option (List ℕ)) (text : List ℕ) → Appends a b text → AppendsFront a b text
AppendsFront-whole a b text appended = record { count = length text; appended = subst (Appends a b) (sym (take-length text)) appended }

-- a text, and then a front of the next one
pub AppendsFront-next : (a b c : Option (List ℕ)) (text next : List ℕ) → Appends a b text → AppendsFront b c next → AppendsFront a c (text ++ next)
AppendsFront-next a b c text next appended front = record {
  count = length text + front.count;
  appended = subst (Appends a c) (sym (take-append-add text next front.count)) (Appends-trans a b c text (take front.count next) appended front.appended);
}

module _ (a b : Option (List ℕ)) (text held : List ℕ) (moves : MovesOut a b text held) where
  -- the buffer takes one more text
  pub MovesOut-grown : (more grown : List ℕ) → grown ≡ held ++ more → MovesOut a b (text ++ more) grown
  MovesOut-grown more grown is = record {
    written = moves.written;
    appended = moves.appended;
    joined = ap (λ l. l ++ more) moves.joined ∙ append_assoc moves.written held more ∙ ap (λ l. moves.written ++ l) (sym is);
  }

  -- some of the buffer is written
  pub MovesOut-more : (c : Option (List ℕ)) (left : List ℕ) → MovesOut b c held left → MovesOut a c text left
  MovesOut-more c left next = record {
    written = moves.written ++ next.written;
    appended = Appends-trans a b c moves.written next.written moves.appended next.appended;
    joined = moves.joined ∙ ap (λ l. moves.written ++ l) next.joined ∙ sym (append_assoc moves.written next.written left);
  }

  -- the buffer is written whole
  pub MovesOut-all : (c : Option (List ℕ)) → Appends b c held → Appends a c text
  MovesOut-all c rest = subst (Appends a c) (sym moves.joined) (Appends-trans a b c moves.written held moves.appended rest)

  -- the buffer is written up to some place
  pub MovesOut-front : (c : Option (List ℕ)) → AppendsFront b c held → AppendsFront a c text
  MovesOut-front c front = subst (AppendsFront a c) (sym moves.joined) (AppendsFront-next a b c moves.written held moves.appended front)
