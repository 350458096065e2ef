-- What stays of the current folder's path isn't longer than the text of an element.
use Rattle.std.proofs.Common.{◌≡◌, ℕ, ◌≤◌, min, Bool, true, false, List, [], ◌∷◌, length, length-append, Option, None, Some, codes, refl, sym, ap, arith}
use Rattle.std.specs.Prelude.{◌==◌, ◌&&◌, not, if◌then◌else◌}
use Rattle.std.specs.Option.{option_and_then, option_map, unwrap_or}
use Rattle.git_paths.specs.declared.standpoint.Standpoint.{Standpoint}
use Rattle.git_paths.specs.Paths.{left_below, names_folder, parts_of, step, walk}
use Rattle.git_paths.specs.Standpoints.{front_left, is_absolute, led, literal_front}
use Rattle.pathspecs.specs.Leading.{front_of}
use Rattle.pathspecs.specs.Reading.{text_of, with_slash}
use Rattle.pathspecs.specs.Spelling.{Spelt}

some_is : (xs ys : List ℕ) → Some xs ≡ Some ys → xs ≡ ys
some_is xs ys same = ap (λ o. unwrap_or o []) same

after_step : (parts : List (List ℕ)) (later : (least : ℕ) (from path : List ℕ) → least ≤ length from → walk from parts ≡ Some path → front_left least from parts ≤ length path)
    → (least : ℕ) (path : List ℕ) (found : Option (List ℕ)) → option_and_then (λ next. walk next parts) found ≡ Some path
    → unwrap_or (option_map (λ next. front_left (min least (length next)) next parts) found) least ≤ length path
after_step parts later least path None led = absurd (cc)
after_step parts later least path (Some next) led = later (min least (length next)) next path (omega arith) led

front_fits : (parts : List (List ℕ)) (least : ℕ) (from path : List ℕ) → least ≤ length from → walk from parts ≡ Some path → front_left least from parts ≤ length path
front_fits [] least from path short led = omega (arith, short, ap length (some_is from path led))
front_fits (part ∷ parts) least from path short led = after_step parts (λ l f p. front_fits parts l f p) least path (step from part) led

led_so : (found : Option (List ℕ)) (path : List ℕ) → option_and_then (λ p. Some p) found ≡ Some path → found ≡ Some path
led_so None path led = led
led_so (Some p) path led = led

kept_by : (inside absolute : Bool) (top here : List ℕ) (parts : List (List ℕ)) (path : List ℕ)
    → option_and_then (λ p. if inside && not absolute then Some p else left_below top p) (walk (if absolute then [] else here) parts) ≡ Some path
    → (if inside && not absolute then front_left (length here) here parts else 0) ≤ length path
kept_by true false top here parts path led = front_fits parts (length here) here path (omega arith) (led_so (walk here parts) path led)
kept_by true true top here parts path led = omega arith
kept_by false absolute top here parts path led = omega arith

no_shorter : (is_folder : Bool) (path : List ℕ) → length path ≤ length (with_slash is_folder path)
no_shorter is_folder path = omega (arith, length-append path (if is_folder && not (length path == 0) then codes "/" else []))

text_by : (is_folder : Bool) (kept : ℕ) (text : List ℕ) (found : Option (List ℕ)) → ((path : List ℕ) → found ≡ Some path → kept ≤ length path) → option_map (with_slash is_folder) found ≡ Some text → kept ≤ length text
text_by is_folder kept text None fits is = absurd (cc)
text_by is_folder kept text (Some path) fits is = omega (arith, fits path refl, no_shorter is_folder path, ap length (some_is (with_slash is_folder path) text is))

within_by : (top : Bool) (standpoint : Standpoint) (told text : List ℕ)
    → (if top then Some told else option_map (with_slash (names_folder false (parts_of told))) (led standpoint told)) ≡ Some text
    → (if top then 0 else literal_front standpoint told) ≤ length text
within_by true standpoint told text is = omega arith
within_by false standpoint told text is =
    text_by (names_folder false (parts_of told)) (literal_front standpoint told) text (led standpoint told)
    (λ path led_to. kept_by standpoint.is_inside (is_absolute told) standpoint.top.items standpoint.here.items (parts_of told) path led_to) is

pub kept_within : (standpoint : Standpoint) (spelt : Spelt) (text : List ℕ) → text_of standpoint spelt ≡ Some text → front_of standpoint spelt ≤ length text
kept_within standpoint spelt text is = within_by spelt.is_from_top standpoint spelt.path text is

pub kept_under : (standpoint : Standpoint) (spelt : Spelt) (text : List ℕ) (kept : ℕ) → Some text ≡ text_of standpoint spelt → kept ≡ front_of standpoint spelt → kept ≤ length text
kept_under standpoint spelt text kept is same = omega (arith, kept_within standpoint spelt text (sym is), same)
