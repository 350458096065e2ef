-- What leads to a path from a folder of names leads where the path does.
use Rattle.std.proofs.Common.{◌≡◌, ⊎_elim, ℕ, Bool, true, false, List, [], ◌∷◌, ◌++◌, length, drop, ap, sym, ◌∙◌, refl, append_assoc}
use Rattle.std.specs.Prelude.{◌||◌, not, if◌then◌else◌, nat_eq, Option, None, Some, codes}
use Rattle.std.specs.List.{AllByRecursion, join_with_byte, list_any, onto_first, starts_with}
use Rattle.std.specs.Option.{option_and_then, option_map, unwrap_or}
use Rattle.std.specs.Str.{byte}
use Rattle.std.proofs.lemmas.Bool.{cases_Bool, eqb-false, eqb-true, false≢true}
use Rattle.std.proofs.lemmas.Bool.Decides.{Decides-eqb}
use Rattle.std.proofs.lemmas.List.{append-nil}
use Rattle.std.proofs.lemmas.List.Splits.{join_with_byte-slice_split}
use Rattle.std.proofs.lemmas.Slice.Eq.{starts_is}
use Rattle.git_paths.specs.Paths.{AreNames, above, after_slash, below, folder_of, folder_parts, goes_up, is_name, is_slash, left_below, parts_of, seen_from, stays, step, steps_up, walk}
use Rattle.git_paths.proofs.lemmas.PathLemmas.{HasNoSlash, eqb_false, split_cut, split_none}

-- no part has a slash
abbrev pub HaveNoSlash : List (List ℕ) → Type 0
HaveNoSlash parts = AllByRecursion (λ part. HasNoSlash part) parts

onto_first-none : (b : ℕ) (parts : List (List ℕ)) → is_slash b ≡ false → HaveNoSlash parts → HaveNoSlash (onto_first b parts)
onto_first-none b [] other none = ((eqb-false b (byte "/") other, tt), tt)
onto_first-none b (part ∷ parts) other none = ((eqb-false b (byte "/") other, none.0), none.1)

pub parts_have_no_slash : (text : List ℕ) → HaveNoSlash (parts_of text)
parts_have_no_slash [] = (tt, tt)
parts_have_no_slash (b ∷ text) =
    let later = parts_have_no_slash text in
    ⊎_elim
    (λ (slash : is_slash b ≡ true). rw slash (tt, later))
    (λ (other : is_slash b ≡ false). rw other (onto_first-none b (parts_of text) other later))
    (cases_Bool (is_slash b))

folder_parts_have_no_slash : (folder : List ℕ) → HaveNoSlash (folder_parts folder)
folder_parts_have_no_slash [] = tt
folder_parts_have_no_slash (b ∷ folder) = parts_have_no_slash (b ∷ folder)

-- a name leads below
step_by : (stay up : Bool) (path name : List ℕ) → not (stay || up) ≡ true → (if stay then Some path else (if up then above path else Some (below path name))) ≡ Some (below path name)
step_by true up path name is = absurd (false≢true is)
step_by false true path name is = absurd (false≢true is)
step_by false false path name is = refl

step_name : (path name : List ℕ) → is_name name ≡ true → step path name ≡ Some (below path name)
step_name path name is = step_by (stays name) (goes_up name) path name is

walk_name : (path name : List ℕ) (parts : List (List ℕ)) → is_name name ≡ true → walk path (name ∷ parts) ≡ walk (below path name) parts
walk_name path name parts is = ap (λ o. option_and_then (λ next. walk next parts) o) (step_name path name is)

-- and from there one step up leads back
none_any : (name : List ℕ) → HasNoSlash name → list_any is_slash name ≡ false
none_any [] none = refl
none_any (b ∷ name) none = let later = none_any name none.1 in rw (eqb_false b none.0) later

pub folder_of_name : (name : List ℕ) → HasNoSlash name → folder_of name ≡ []
folder_of_name [] none = refl
folder_of_name (b ∷ name) none = rw (none_any name none.1) refl

any_cut : (front name : List ℕ) → list_any is_slash (front ++ byte "/" ∷ name) ≡ true
any_cut [] name = refl
any_cut (b ∷ front) name = ⊎_elim
    (λ (slash : is_slash b ≡ true). rw slash refl)
    (λ (other : is_slash b ≡ false). rw other (any_cut front name))
    (cases_Bool (is_slash b))

pub folder_of_below : (front name : List ℕ) → HasNoSlash name → folder_of (front ++ byte "/" ∷ name) ≡ front
folder_of_below [] name none = rw (none_any name none) refl
folder_of_below (b ∷ front) name none = rw (any_cut front name) (ap (λ path. b ∷ path) (folder_of_below front name none))

pub above_below : (path name : List ℕ) → is_name name ≡ true → HasNoSlash name → above (below path name) ≡ Some path
above_below path [] is none = absurd (false≢true is)
above_below [] (b ∷ name) is none = ap Some (folder_of_name (b ∷ name) none)
above_below (p ∷ path) (b ∷ name) is none = ap Some (folder_of_below (p ∷ path) (b ∷ name) none)

-- where names lead, one below the other
abbrev enter_all : List ℕ → List (List ℕ) → List ℕ
enter_all path [] = path
enter_all path (name ∷ names) = enter_all (below path name) names

-- as many steps up, and then other parts
abbrev ups : List (List ℕ) → List (List ℕ) → List (List ℕ)
ups [] more = more
ups (name ∷ names) more = codes ".." ∷ ups names more

ups_shift : (names more : List (List ℕ)) → ups names (codes ".." ∷ more) ≡ codes ".." ∷ ups names more
ups_shift [] more = refl
ups_shift (name ∷ names) more = ap (λ parts. codes ".." ∷ parts) (ups_shift names more)

walk_up : (path name : List ℕ) (more : List (List ℕ)) → is_name name ≡ true → HasNoSlash name → walk (below path name) (codes ".." ∷ more) ≡ walk path more
walk_up path name more is none = ap (λ o. option_and_then (λ next. walk next more) o) (above_below path name is none)

walk_ups : (names : List (List ℕ)) (path : List ℕ) (more : List (List ℕ)) → AreNames names → HaveNoSlash names → walk (enter_all path names) (ups names more) ≡ walk path more
walk_ups [] path more are none = refl
walk_ups (name ∷ names) path more are none =
    ap (λ parts. walk (enter_all (below path name) names) parts) (sym (ups_shift names more))
    ∙ walk_ups names (below path name) (codes ".." ∷ more) are.1 none.1
    ∙ walk_up path name more are.0 none.0

parts_of_ups : (names : List (List ℕ)) (path : List ℕ) → parts_of (steps_up names ++ path) ≡ ups names (parts_of path)
parts_of_ups [] path = refl
parts_of_ups (name ∷ names) path = ap (λ parts. codes ".." ∷ parts) (parts_of_ups names path)

-- what is left of a path below a name leads on from there
record IsLeft (name path left : List ℕ) : Type 0 where
  pub leads : (from : List ℕ) → walk from (parts_of path) ≡ walk (below from name) (parts_of left)

left_of : (name path rest left : List ℕ) → is_name name ≡ true → HasNoSlash name → path ≡ name ++ rest → after_slash rest ≡ Some left → IsLeft name path left
left_of name path [] left is none joined found = record {
  leads = λ from. ap (λ text. walk from (parts_of text)) (joined ∙ append-nil name)
      ∙ ap (walk from) (split_none name none)
      ∙ walk_name from name [] is
      ∙ ap (λ o. walk (below from name) (parts_of (unwrap_or o []))) found;
}
left_of name path (c ∷ rest) left is none joined found = ⊎_elim
    (λ (slash : is_slash c ≡ true).
    let same : rest ≡ left = ap (λ o. unwrap_or o []) (rw slash at found) in
    record {
      leads = λ from. ap (λ text. walk from (parts_of text)) (joined ∙ ap (λ (b : ℕ). name ++ b ∷ rest) (eqb-true c (byte "/") slash))
          ∙ ap (walk from) (split_cut name rest none)
          ∙ walk_name from name (parts_of rest) is
          ∙ ap (λ text. walk (below from name) (parts_of text)) same;
    })
    (λ (other : is_slash c ≡ false). let no : None ≡ Some left = rw other at found in absurd (cc))
    (cases_Bool (is_slash c))

left_by : (b : ℕ) (name path left : List ℕ) (starts : Bool) → starts ≡ starts_with nat_eq path (b ∷ name) → is_name (b ∷ name) ≡ true → HasNoSlash (b ∷ name)
    → (if starts then after_slash (drop (length (b ∷ name)) path) else None) ≡ Some left → IsLeft (b ∷ name) path left
left_by b name path left false e is none found = let no : None ≡ Some left = found in absurd (cc)
left_by b name path left true e is none found =
    left_of (b ∷ name) path (drop (length (b ∷ name)) path) left is none ((starts_is Decides-eqb path (b ∷ name) true e).0 refl) found

left_leads : (name path left : List ℕ) → is_name name ≡ true → HasNoSlash name → left_below name path ≡ Some left → IsLeft name path left
left_leads [] path left is none found = absurd (false≢true is)
left_leads (b ∷ name) path left is none found = left_by b name path left (starts_with nat_eq path (b ∷ name)) refl is none found

-- what leads to a path from where names lead
abbrev Leads : List (List ℕ) → List ℕ → List ℕ → List ℕ → Type 0
Leads names from path seen = walk (enter_all from names) (parts_of seen) ≡ walk from (parts_of path)

leads_up : (names : List (List ℕ)) (from path : List ℕ) → AreNames names → HaveNoSlash names → Leads names from path (steps_up names ++ path)
leads_up names from path are none = ap (walk (enter_all from names)) (parts_of_ups names path) ∙ walk_ups names from (parts_of path) are none

seen_by : (name : List ℕ) (names : List (List ℕ)) (from path : List ℕ) (found : Option (List ℕ)) → found ≡ left_below name path → AreNames (name ∷ names) → HaveNoSlash (name ∷ names)
    → ((place left : List ℕ) → Leads names place left (seen_from names left))
    → Leads (name ∷ names) from path (unwrap_or (option_map (λ left. seen_from names left) found) (steps_up (name ∷ names) ++ path))
seen_by name names from path None e are none later = leads_up (name ∷ names) from path are none
seen_by name names from path (Some left) e are none later =
    let is = left_leads name path left are.0 none.0 (sym e) in
    later (below from name) left ∙ sym (is.leads from)

seen_leads : (names : List (List ℕ)) (from path : List ℕ) → AreNames names → HaveNoSlash names → Leads names from path (seen_from names path)
seen_leads [] from [] are none = refl
seen_leads [] from (b ∷ path) are none = refl
seen_leads (name ∷ names) from path are none =
    seen_by name names from path (left_below name path) refl are none (λ place left. seen_leads names place left are.1 none.1)

-- a folder of names is where they lead
abbrev tails : List (List ℕ) → List ℕ
tails [] = []
tails (name ∷ names) = byte "/" ∷ (name ++ tails names)

enter_below : (names : List (List ℕ)) (b : ℕ) (path : List ℕ) → enter_all (b ∷ path) names ≡ (b ∷ path) ++ tails names
enter_below [] b path = sym (append-nil (b ∷ path))
enter_below (name ∷ names) b path = enter_below names b (path ++ byte "/" ∷ name) ∙ append_assoc (b ∷ path) (byte "/" ∷ name) (tails names)

join_tails : (name : List ℕ) (names : List (List ℕ)) → join_with_byte (byte "/") (name ∷ names) ≡ name ++ tails names
join_tails name [] = sym (append-nil name)
join_tails name (next ∷ names) = ap (λ rest. name ++ byte "/" ∷ rest) (join_tails next names)

enter_joined : (names : List (List ℕ)) → AreNames names → enter_all [] names ≡ join_with_byte (byte "/") names
enter_joined [] are = refl
enter_joined ([] ∷ names) are = absurd (false≢true are.0)
enter_joined ((b ∷ name) ∷ names) are = enter_below names b name ∙ sym (join_tails (b ∷ name) names)

folder_entered : (folder : List ℕ) → AreNames (folder_parts folder) → enter_all [] (folder_parts folder) ≡ folder
folder_entered [] are = refl
folder_entered (b ∷ folder) are = enter_joined (parts_of (b ∷ folder)) are ∙ join_with_byte-slice_split (byte "/") (b ∷ folder)

pub seen_leads_back : (folder path : List ℕ) → AreNames (folder_parts folder) → walk folder (parts_of (seen_from (folder_parts folder) path)) ≡ walk [] (parts_of path)
seen_leads_back folder path are =
    ap (λ place. walk place (parts_of (seen_from (folder_parts folder) path))) (sym (folder_entered folder are))
    ∙ seen_leads (folder_parts folder) [] path are (folder_parts_have_no_slash folder)
