-- Pieces and parts of path texts.
use Rattle.std.proofs.Common.{◌≡◌, ◌≢◌, ℕ, ◌<◌, ◌≤◌, ◌==◌, List, [], ◌∷◌, ◌++◌, length, drop, refl, sym, ap, ◌∙◌, arith, slice_index, codes, inl, inr, length-take, take_all}
use Rattle.std.specs.List.{before_first, after_first, position_or_len}
use Rattle.std.proofs.lemmas.Bool.{cases_lt}
use Rattle.std.proofs.lemmas.List.Splits.{slice_split_first, slice_split_none, length-slice_split}
use Rattle.std.proofs.lemmas.List.Sums.{fails_before_first}
use Rattle.std.proofs.Math.ListN.{drop_of_length-le}
use Rattle.glob_matcher.specs.Bytes.{slash}
use Rattle.gix_glob.specs.Paths.{pieces, named_parts, front_part, parts}

-- a text without a slash is its own one piece, and nothing follows it
whole_piece : (text : List ℕ) → length text ≤ position_or_len (λ b. b == slash) text → pieces text ≡ before_first (λ b. b == slash) text ∷ []
whole_piece text none =
    slice_split_none (λ b. b == slash) text (λ k d inside. fails_before_first (λ b. b == slash) text k d (omega arith))
    ∙ ap (λ piece. piece ∷ []) (sym (take_all (position_or_len (λ b. b == slash) text) text none))

nothing_after : (text : List ℕ) → length text ≤ position_or_len (λ b. b == slash) text → after_first (λ b. b == slash) text ≡ []
nothing_after text none = drop_of_length-le text (omega arith)

-- the first piece and the named ones of what follows
pub named_parts-pieces : (text : List ℕ) → named_parts (pieces text) ≡ named_parts (before_first (λ b. b == slash) text ∷ pieces (after_first (λ b. b == slash) text))
named_parts-pieces text = elim (cases_lt (position_or_len (λ b. b == slash) text) (length text)) [
  | inl found ↦ ap named_parts (slice_split_first (λ b. b == slash) text 0 found)
  | inr none ↦ rw (whole_piece text none, nothing_after text none)
]

-- a first piece that is not empty is a part
front_piece : (piece : List ℕ) (more : List (List ℕ)) → 0 < length piece → front_part (piece ∷ more) ++ named_parts (drop 1 (piece ∷ more)) ≡ piece ∷ named_parts more
front_piece [] more some = absurd (omega arith)
front_piece (b ∷ bs) more some = refl

starts_later : (text : List ℕ) → 0 < length text → slice_index text 0 ≢ slash → 0 < position_or_len (λ b. b == slash) text
starts_later [] some relative = absurd (omega arith)
starts_later (b ∷ bs) some relative = grind arith

-- a text that does not begin with a slash has its first piece as a part
pub parts-relative : (text : List ℕ) → 0 < length text → slice_index text 0 ≢ slash → parts text ≡ before_first (λ b. b == slash) text ∷ named_parts (pieces (after_first (λ b. b == slash) text))
parts-relative text some relative =
    let later : 0 < length (before_first (λ b. b == slash) text) = rw (length-take (position_or_len (λ b. b == slash) text) text) (omega (arith, starts_later text some relative)) in
    elim (cases_lt (position_or_len (λ b. b == slash) text) (length text)) [
      | inl found ↦ ap (λ ps. front_part ps ++ named_parts (drop 1 ps)) (slice_split_first (λ b. b == slash) text 0 found) ∙ front_piece _ _ later
      | inr none ↦ ap (λ ps. front_part ps ++ named_parts (drop 1 ps)) (whole_piece text none) ∙ front_piece _ _ later ∙ rw (nothing_after text none)
    ]

-- the same, by the text's first byte
pub parts-by_piece : (text : List ℕ) (first : ℕ) (others : List ℕ) → text ≡ first ∷ others → first ≢ slash → parts text ≡ before_first (λ b. b == slash) text ∷ named_parts (pieces (after_first (λ b. b == slash) text))
parts-by_piece text first others is relative =
    parts-relative text (omega (arith, ap length is)) (λ slashed. relative (sym (ap (λ t. slice_index t 0) is) ∙ slashed))

-- a slash at the front is a part of its own
absolute_front : (ps : List (List ℕ)) → 0 < length ps → front_part ([] ∷ ps) ++ named_parts (drop 1 ([] ∷ ps)) ≡ codes "/" ∷ named_parts ps
absolute_front [] some = absurd (omega arith)
absolute_front (p ∷ ps) some = refl

pub parts-by_slash : (text others : List ℕ) → text ≡ slash ∷ others → parts text ≡ codes "/" ∷ named_parts (pieces others)
parts-by_slash text others is = ap parts is ∙ absolute_front (pieces others) (omega (arith, length-slice_split (λ b. b == slash) others))
