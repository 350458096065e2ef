-- Entries that lie in a text, which grows.
use Rattle.std.proofs.Common.{◌≡◌, ◌<◌, ℕ, ◌+◌, ◌-◌, ◌≤◌, Bool, true, false, cond, List, [], ◌∷◌, ◌++◌, length, take, drop, map, Option, None, Some, refl, sym, ap, ◌∙◌, arith, append_assoc, eq-eqb, get_or}
use Rattle.std.specs.Prelude.{◌==◌, slice_range}
use Rattle.std.specs.List.{AllByRecursion}
use Rattle.std.proofs.lemmas.Bool.{eqb-false, ne_eqb}
use Rattle.std.proofs.lemmas.List.{drop-append-le, drop-map, drop_at, drop_more, length-append, length-drop, length-map, map_push, take-append-le, take_all, take_at}
use Rattle.git_config.specs.declared.entry_place.EntryPlace.{EntryPlace}
use Rattle.git_config.specs.declared.section.Section.{Section}
use Rattle.git_config.specs.Configuration.{Seen}
use Rattle.git_config.specs.Private.Sections.{LiesIn, file_seen, placed, value_placed}
use Rattle.git_config.specs.Shown.{behind_key}

-- a part of a text is one of a longer text
part_stays : (text more : List ℕ) (i j : ℕ) → i ≤ j → j ≤ length text → slice_range (text ++ more) i j ≡ slice_range text i j
part_stays text more i j le within =
    ap (take (j - i)) (drop-append-le i text more (omega arith)) ∙ take-append-le (j - i) (drop i text) more (omega (arith, length-drop i text))

by_value : (b : Bool) (x y : List ℕ) → (b ≡ false → x ≡ y) → cond b None (Some x) ≡ cond b None (Some y)
by_value true x y f = refl
by_value false x y f = ap (λ (l : List ℕ). let o : Option (List ℕ) = Some l in o) (f refl)

value_stays : (text more : List ℕ) (n e : ℕ) → n ≤ e → e ≤ length text → value_placed (text ++ more) n e ≡ value_placed text n e
value_stays text more n e le within =
    by_value (n == e) (slice_range (text ++ more) (n + 1) e) (slice_range text (n + 1) e)
    (λ other. let ne : n ≡ e → ⊥ = eqb-false n e other in part_stays text more (n + 1) e (omega (arith, ne, le)) within)

placed_stays : (text more : List ℕ) (p : EntryPlace) → LiesIn text p → placed (text ++ more) p ≡ placed text p
placed_stays text more p lies = rw (part_stays text more p.start p.name_end lies.0 (omega (arith, lies.1, lies.2)), value_stays text more p.name_end p.end lies.1 lies.2) refl

all_stay : (text more : List ℕ) (ps : List EntryPlace) → AllByRecursion (LiesIn text) ps → map (placed (text ++ more)) ps ≡ map (placed text) ps
all_stay text more [] all = refl
all_stay text more (p ∷ ps) all = rw (placed_stays text more p all.0, all_stay text more ps all.1) refl

lie_in : (text more : List ℕ) (ps : List EntryPlace) → AllByRecursion (LiesIn text) ps → AllByRecursion (LiesIn (text ++ more)) ps
lie_in text more [] all = tt
lie_in text more (p ∷ ps) all = ((all.0.0, all.0.1, omega (arith, all.0.2, length-append text more)), lie_in text more ps all.1)

one_more : (text : List ℕ) (ps : List EntryPlace) (p : EntryPlace) → AllByRecursion (LiesIn text) ps → LiesIn text p → AllByRecursion (LiesIn text) (ps ++ p ∷ [])
one_more text [] p all one = (one, tt)
one_more text (q ∷ ps) p all one = (all.0, one_more text ps p all.1 one)

-- a text goes on by what is written of an entry
pub record Goes (text : List ℕ) (name : List ℕ) (value : Option (List ℕ)) (p : EntryPlace) : Type 0 where
  pub start : p.start ≡ length text
  pub name_end : p.name_end ≡ length text + length name
  pub end : p.end ≡ length text + length (name ++ behind_key false value)

lies_there : (text name : List ℕ) (value : Option (List ℕ)) (p : EntryPlace) → Goes text name value p → LiesIn (text ++ (name ++ behind_key false value)) p
lies_there text name value p g =
    let written = name ++ behind_key false value in
    (omega (arith, g.start, g.name_end), omega (arith, g.name_end, g.end, length-append name (behind_key false value)), omega (arith, g.end, length-append text written))

-- those that lay there, and one more, lie in the longer text
pub lie_all : (text name : List ℕ) (value : Option (List ℕ)) (ps : List EntryPlace) (p : EntryPlace) → AllByRecursion (LiesIn text) ps → Goes text name value p
    → AllByRecursion (LiesIn (text ++ (name ++ behind_key false value))) (ps ++ p ∷ [])
lie_all text name value ps p all g =
    let written = name ++ behind_key false value in one_more (text ++ written) ps p (lie_in text written ps all) (lies_there text name value p g)

name_there : (text name back : List ℕ) → slice_range (text ++ (name ++ back)) (length text) (length text + length name) ≡ name
name_there text name back =
    ap (take ((length text + length name) - length text)) (drop_at text (name ++ back) (length text) refl) ∙ take_at name back ((length text + length name) - length text) (omega arith)

no_value : (n e : ℕ) (x : List ℕ) → n ≡ e → cond (n == e) None (Some x) ≡ None
no_value n e x same = ap (λ (b : Bool). let o : Option (List ℕ) = cond b None (Some x) in o) (eq-eqb n e same)

some_value : (n e : ℕ) (x : List ℕ) → n < e → cond (n == e) None (Some x) ≡ Some x
some_value n e x less = ap (λ (b : Bool). let o : Option (List ℕ) = cond b None (Some x) in o) (ne_eqb n e (λ same. omega (arith, same, less)))

value_there : (text name : List ℕ) (value : Option (List ℕ)) → value_placed (text ++ (name ++ behind_key false value)) (length text + length name) (length text + length (name ++ behind_key false value)) ≡ value
value_there text name None =
    let n = length text + length name in let e = length text + length (name ++ []) in
    no_value n e (slice_range (text ++ (name ++ [])) (n + 1) e) (omega (arith, length-append name []))
value_there text name (Some v) =
    let n = length text + length name in let e = length text + length (name ++ 61 ∷ v) in
    let long : e ≡ (n + 1) + length v = omega (arith, length-append name (61 ∷ v)) in
    let whole : text ++ (name ++ 61 ∷ v) ≡ (text ++ (name ++ 61 ∷ [])) ++ v =
    ap (λ (w : List ℕ). text ++ w) (sym (append_assoc name (61 ∷ []) v)) ∙ sym (append_assoc text (name ++ 61 ∷ []) v) in
    let front : length (text ++ (name ++ 61 ∷ [])) ≡ n + 1 = omega (arith, length-append text (name ++ 61 ∷ []), length-append name (61 ∷ [])) in
    let back : drop (n + 1) (text ++ (name ++ 61 ∷ v)) ≡ v = ap (drop (n + 1)) whole ∙ drop_at (text ++ (name ++ 61 ∷ [])) v (n + 1) front in
    some_value n e (slice_range (text ++ (name ++ 61 ∷ v)) (n + 1) e) (omega (arith, long))
    ∙ ap (λ (w : List ℕ). let o : Option (List ℕ) = Some w in o) (ap (take (e - (n + 1))) back ∙ take_all (e - (n + 1)) v (omega (arith, long)))

-- what is written of an entry lies there
pub seen_there : (text name : List ℕ) (value : Option (List ℕ)) (p : EntryPlace) (section : Section) (line : ℕ) → Goes text name value p → p.section.value ≡ section → p.line ≡ line
    → ◌≡◌ {A = Seen} (placed (text ++ (name ++ behind_key false value)) p) (record { file = file_seen section; section = section.keys.items; entry = record { name = name; value = value; line = line } })
seen_there text name value p section line g section_is line_is =
    rw (g.start, g.name_end, g.end, name_there text name (behind_key false value), value_there text name value, line_is)
    (ap (λ (x : Section). let r : Seen = record { file = file_seen x; section = x.keys.items; entry = record { name = name; value = value; line = line } } in r) section_is)

-- the entries that lie there then
pub placed_more : (text name : List ℕ) (value : Option (List ℕ)) (ps : List EntryPlace) (p : EntryPlace) → AllByRecursion (LiesIn text) ps
    → map (placed (text ++ (name ++ behind_key false value))) (ps ++ p ∷ []) ≡ map (placed text) ps ++ placed (text ++ (name ++ behind_key false value)) p ∷ []
placed_more text name value ps p all =
    let more = text ++ (name ++ behind_key false value) in
    map_push (placed more) ps p ∙ ap (λ (l : List Seen). l ++ placed more p ∷ []) (all_stay text (name ++ behind_key false value) ps all)

-- the entry at a place
pub entry_there : (text : List ℕ) (ps : List EntryPlace) (place : ℕ) (p : EntryPlace) → place < length (map (placed text) ps) → p ≡ get_or ps place p
    → drop place (map (placed text) ps) ≡ placed text p ∷ drop (place + 1) (map (placed text) ps)
entry_there text ps place p within is =
    let below : place < length ps = omega (arith, within, length-map ps (placed text)) in
    drop-map (placed text) place ps ∙ ap (map (placed text)) (drop_more ps place p below)
    ∙ ap (λ (q : EntryPlace). placed text q ∷ map (placed text) (drop (place + 1) ps)) (sym is)
    ∙ ap (λ (l : List Seen). placed text p ∷ l) (sym (drop-map (placed text) (place + 1) ps))
