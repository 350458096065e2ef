-- What the writes so far have appended.
use Rattle.std.proofs.Common.{ℕ, ◌+◌, ◌-◌, List, [], Option, Some, None, length, take, drop, length-drop, append-nil, ◌∙◌}
use Rattle.std.proofs.KnownBytes.{Appends-kept, Appends-trans}
use Rattle.std.proofs.Math.Seq.{take-add, take-length}
use Rattle.std.specs.Io.KnownBytes.{Appends, Keeps}
use Rattle.byte_streams.specs.Transfers.{AppendsFront}
use Rattle.byte_streams.proofs.lemmas.StreamLemmas.{AppendsFront-whole}

-- the text was written up to the place, and then `count` more bytes of it
pub Appends-more : (a b c : Option (List ℕ)) (text : List ℕ) (at count : ℕ) → Appends a b (take at text) → Appends b c (take count (take (length text - at) (drop at text)))
    → Appends a c (take (at + count) text)
Appends-more a b c text at count so_far more =
    let next = rw (← length-drop at text, take-length (drop at text)) at more in
    rw (take-add at count text) (Appends-trans _ _ _ _ _ so_far next)

-- the text was written up to the place, and then nothing
pub AppendsFront-at : (a b c : Option (List ℕ)) (text : List ℕ) (at : ℕ) → Appends a b (take at text) → Keeps b c → AppendsFront a c text
AppendsFront-at a b c text at so_far kept = record {
  count = at;
  appended = Appends-kept a b c (take at text) so_far kept;
}

-- what grows by no byte stays as it was
pub Keeps-of_none : (a b : Option (List ℕ)) → Appends a b [] → Keeps a b
Keeps-of_none None b h = tt
Keeps-of_none (Some xs) None h = absurd h
Keeps-of_none (Some xs) (Some ys) h = h ∙ append-nil xs

-- a text was written whole, and then flushed
pub flushed : (a b c : Option (List ℕ)) (text : List ℕ) → Appends a b text → Keeps b c → AppendsFront a c text
flushed a b c text written kept = AppendsFront-whole a c text (Appends-kept a b c text written kept)
