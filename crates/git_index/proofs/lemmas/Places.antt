-- Entries whose paths are told by places in a text, which grows.
use Rattle.std.proofs.Common.{◌≡◌, ℕ, ◌-◌, ◌≤◌, List, [], ◌∷◌, ◌++◌, length, take, drop, map, refl, sym, ap, ◌∙◌, arith, subst}
use Rattle.std.specs.Prelude.{slice_range}
use Rattle.std.specs.List.{AllByRecursion}
use Rattle.std.proofs.lemmas.List.{drop-append-le, drop_at, length-append, length-drop, length-take, map_push, take-append-le, take_all}
use Rattle.git_index.specs.declared.place.Place.{Place}
use Rattle.git_index.specs.Entries.{Tracked}
use Rattle.git_index.specs.Private.Places.{GoesOnBy, LiesWithin, placed}

-- a part of a text is one of a longer text
part_stays : (text more : List ℕ) (i j : ℕ) → i ≤ j → j ≤ length text → slice_range (text ++ more) i j ≡ slice_range text i j
part_stays text more i j le within =
    ap (take (j - i)) (drop-append-le i text more (omega arith)) ∙ take-append-le (j - i) (drop i text) more (omega (arith, length-drop i text))

all_stay : (text more : List ℕ) (ps : List Place) → AllByRecursion (LiesWithin text) ps → map (placed (text ++ more)) ps ≡ map (placed text) ps
all_stay text more [] all = refl
all_stay text more (p ∷ ps) all = rw (part_stays text more p.start p.end all.0.0 all.0.1, all_stay text more ps all.1) refl

lie_within : (text more : List ℕ) (ps : List Place) → AllByRecursion (LiesWithin text) ps → AllByRecursion (LiesWithin (text ++ more)) ps
lie_within text more [] all = tt
lie_within text more (p ∷ ps) all = ((all.0.0, omega (arith, all.0.1, length-append text more)), lie_within text more ps all.1)

one_more : (text : List ℕ) (ps : List Place) (p : Place) → AllByRecursion (LiesWithin text) ps → LiesWithin text p → AllByRecursion (LiesWithin text) (ps ++ p ∷ [])
one_more text [] p all one = (one, tt)
one_more text (q ∷ ps) p all one = (all.0, one_more text ps p all.1 one)

pub record Grows (before after : List ℕ) (ps : List Place) (p : Place) : Type 0 where
  pub entries : map (placed after) (ps ++ p ∷ []) ≡ map (placed before) ps ++ placed after p ∷ []
  pub within : AllByRecursion (LiesWithin after) (ps ++ p ∷ [])
  pub last : drop p.start after ≡ (placed after p).path
  pub starts : p.start ≤ length after
  pub len : length (placed after p).path ≡ p.end - p.start

-- where a text goes on by a path, what was told by places stays
pub grows : (before after : List ℕ) (ps : List Place) (p : Place) → AllByRecursion (LiesWithin before) ps → GoesOnBy before after p → Grows before after ps p
grows before after ps p all goes =
    let path = slice_range after p.start p.end in
    let is : after ≡ before ++ path = goes.2 in
    let longer : length before ≤ length after = omega (arith, ap length is, length-append before path) in
    let lies : LiesWithin after p = (omega (arith, goes.0, goes.1, longer), omega (arith, goes.1)) in
    let old : AllByRecursion (LiesWithin after) ps = subst (λ (w : List ℕ). AllByRecursion (LiesWithin w) ps) (sym is) (lie_within before path ps all) in
    let same : map (placed after) ps ≡ map (placed before) ps = ap (λ (w : List ℕ). map (placed w) ps) is ∙ all_stay before path ps all in
    record {
      entries = map_push (placed after) ps p ∙ ap (λ (w : List Tracked). w ++ placed after p ∷ []) same;
      within = one_more after ps p old lies;
      last = sym (take_all (p.end - p.start) (drop p.start after) (omega (arith, length-drop p.start after, goes.1)));
      starts = omega (arith, lies.0, lies.1);
      len = omega (arith, length-take (p.end - p.start) (drop p.start after), length-drop p.start after, lies.0, lies.1);
    }

-- what was added to a text, as a part of it
pub part_added : (before after path : List ℕ) (start end : ℕ) → after ≡ before ++ path → start ≡ length before → end ≡ length after → slice_range after start end ≡ path
part_added before after path start end is starts ends =
    let rest : drop start after ≡ path = ap (drop start) is ∙ drop_at before path start (sym starts) in
    take_all (end - start) (drop start after) (omega (arith, length-drop start after, ends)) ∙ rest
