-- The last value of a key counts, and a wrong one is told.
use Rattle.std.proofs.Common.{◌≡◌, ◌<◌, ◌≤◌, ℕ, ◌+◌, ◌-◌, Bool, true, cond, List, [], ◌∷◌, ◌++◌, drop, take, length, arith, Option, None, Some, Result, Ok, Err, refl, sym, ap, ◌∙◌}
use Rattle.std.specs.Str.{bytes_eq}
use Rattle.std.proofs.lemmas.List.{take-append-drop}
use Rattle.std.proofs.lemmas.List.Elements.{filter-append}
use Rattle.git_config.specs.Configuration.{Seen, key_of, last_said, settings_of}
use Rattle.git_config.specs.Numbers.{boolean_of}
use Rattle.git_config.specs.Private.Answering.{IsLast}

abbrev Said : Type 0
Said = Result (Option Bool) Seen

-- what an entry that says this leaves
abbrev said : Option Bool → Seen → (Option Bool → Said) → Said
said None s rest = Err s
said (Some b) s rest = rest (Some b)

said_one : (o : Option Bool) (s : Seen) (b : Bool) → o ≡ Some b → said o s (λ last. Ok last) ≡ Ok (Some b)
said_one o s b e = ap (λ (x : Option Bool). said x s (λ last. Ok last)) e

said_fine : (o : Option Bool) (s : Seen) (x y : Option Bool) (front back : Option Bool → Said) → ((last : Option Bool) → front last ≡ Ok x → back last ≡ Ok y) → said o s front ≡ Ok x → said o s back ≡ Ok y
said_fine None s x y front back f h = absurd (cc)
said_fine (Some b) s x y front back f h = f (Some b) h

said_wrong : (o : Option Bool) (s w : Seen) (front back : Option Bool → Said) → ((last : Option Bool) → front last ≡ Err w → back last ≡ Err w) → said o s front ≡ Err w → said o s back ≡ Err w
said_wrong None s w front back f h = h
said_wrong (Some b) s w front back f h = f (Some b) h

by_cases : (o : Option Bool) (s : Seen) (rest : Option Bool → Said) → elim o as (λ _. Said) [ None ↦ Err s | Some b ↦ rest (Some b) ] ≡ said o s rest
by_cases None s rest = refl
by_cases (Some b) s rest = refl

said-step : (last : Option Bool) (s : Seen) (settings : List Seen) → last_said last (s ∷ settings) ≡ said (boolean_of s.entry.value) s (λ next. last_said next settings)
said-step last s settings = by_cases (boolean_of s.entry.value) s (λ next. last_said next settings)

pub last_counts : (last x : Option Bool) (front : List Seen) (s : Seen) (b : Bool) → last_said last front ≡ Ok x → boolean_of s.entry.value ≡ Some b → last_said last (front ++ s ∷ []) ≡ Ok (Some b)
last_counts last x [] s b h e = said-step last s [] ∙ said_one (boolean_of s.entry.value) s b e
last_counts last x (t ∷ front) s b h e =
    said-step last t (front ++ s ∷ [])
    ∙ said_fine (boolean_of t.entry.value) t x (Some b) (λ next. last_said next front) (λ next. last_said next (front ++ s ∷ [])) (λ next k. last_counts next x front s b k e) (sym (said-step last t front) ∙ h)

pub wrong_told : (last : Option Bool) (front more : List Seen) (w : Seen) → last_said last front ≡ Err w → last_said last (front ++ more) ≡ Err w
wrong_told last [] more w h = absurd (cc)
wrong_told last (t ∷ front) more w h =
    said-step last t (front ++ more) ∙ said_wrong (boolean_of t.entry.value) t w (λ next. last_said next front) (λ next. last_said next (front ++ more)) (λ next k. wrong_told next front more w k) (sym (said-step last t front) ∙ h)

-- the last entry of a key: it has the key, and none behind it
pub last_at : (key : List ℕ) (all : List Seen) (left : ℕ) (s : Seen) → 0 < left → left ≤ length all → drop (left - 1) all ≡ s ∷ drop ((left - 1) + 1) all
    → settings_of key (drop left all) ≡ [] → bytes_eq (key_of s) key ≡ true → IsLast key all (left - 1)
last_at key all left s some within at none is =
    let p = left - 1 in
    let next : p + 1 ≡ left = omega (arith, some) in
    let only : settings_of key (drop p all) ≡ s ∷ [] =
    ap (settings_of key) at ∙ ap (λ (b : Bool). let rest = settings_of key (drop (p + 1) all) in cond b (s ∷ rest) rest) is ∙ ap (λ (n : ℕ). s ∷ settings_of key (drop n all)) next ∙ ap (λ (l : List Seen). s ∷ l) none in
    record {
      front = settings_of key (take p all);
      last = s;
      rest = drop (p + 1) all;
      within = omega (arith, some, within);
      at = at;
      only = only;
      all = ap (settings_of key) (sym (take-append-drop p all)) ∙ filter-append (λ (x : Seen). bytes_eq (key_of x) key) (take p all) (drop p all) ∙ ap (λ (l : List Seen). settings_of key (take p all) ++ l) only;
    }
