-- A text that is compared alike with one that ends in a slash ends in one.
use Rattle.std.proofs.Common.{◌≡◌, ℕ, ◌+◌, ◌-◌, Bool, true, false, List, [], ◌∷◌, length, drop, codes, nat_eq, nat_lt, refl, sym, ap, ◌∙◌, arith, length-append}
use Rattle.std.specs.Prelude.{if◌then◌else◌, slice_index}
use Rattle.std.specs.Char.{to_ascii_lowercase}
use Rattle.std.specs.List.{ends_with}
use Rattle.std.proofs.lemmas.Bool.{false≢true}
use Rattle.std.proofs.lemmas.List.{drop_at, drop-map}
use Rattle.std.proofs.lemmas.Slice.Eq.{bytes_eq-Decides}
use Rattle.glob_matcher.specs.Bytes.{EndsInSlash, slash}
use Rattle.pathspecs.specs.Elements.{compared}
use Rattle.pathspecs.proofs.lemmas.CutLemmas.{compared_length}

lower_by : (b : ℕ) (small capital : Bool) → nat_lt b 65 ≡ small → nat_lt b 91 ≡ capital → to_ascii_lowercase b ≡ slash → b ≡ slash
lower_by b true capital below upper same = sym (ap (λ w. if w then b else (if nat_lt b 91 then b + 32 else b)) below) ∙ same
lower_by b false true below upper same =
    let moved : b + 32 ≡ slash = sym (ap (λ w. if w then b else (if nat_lt b 91 then b + 32 else b)) below ∙ ap (λ w. if w then b + 32 else b) upper) ∙ same in
    let least : b ≡ 15 = omega (arith, moved) in
    absurd (false≢true (sym below ∙ ap (λ n. nat_lt n 65) least))
lower_by b false false below upper same = sym (ap (λ w. if w then b else (if nat_lt b 91 then b + 32 else b)) below ∙ ap (λ w. if w then b + 32 else b) upper) ∙ same

-- no letter becomes a slash
lower_slash : (b : ℕ) → to_ascii_lowercase b ≡ slash → b ≡ slash
lower_slash b same = lower_by b (nat_lt b 65) (nat_lt b 91) refl refl same

one_slash : (icase : Bool) (bytes : List ℕ) → compared icase bytes ≡ compared icase (slash ∷ []) → bytes ≡ slash ∷ []
one_slash false bytes same = same
one_slash true [] same = absurd (let e = ap length same in omega (arith, e))
one_slash true (b ∷ []) same = ap (λ n. n ∷ []) (lower_slash b (ap (λ l. slice_index l 0) same))
one_slash true (b ∷ c ∷ bytes) same = absurd (let e = ap length same in omega (arith, e))

compared_drop : (icase : Bool) (n : ℕ) (bytes : List ℕ) → compared icase (drop n bytes) ≡ drop n (compared icase bytes)
compared_drop false n bytes = refl
compared_drop true n bytes = sym (drop-map to_ascii_lowercase n bytes)

pub ends_alike : (icase : Bool) (folder text : List ℕ) → EndsInSlash folder → compared icase folder ≡ compared icase text → ends_with nat_eq text (codes "/") ≡ true
ends_alike icase folder text ends same =
    let n = length ends.front in
    let last : drop n text ≡ slash ∷ [] = one_slash icase (drop n text)
    (compared_drop icase n text ∙ ap (drop n) (sym same) ∙ sym (compared_drop icase n folder) ∙ ap (compared icase) (ap (drop n) ends.joined ∙ drop_at ends.front (slash ∷ []) n refl)) in
    let place : length text - 1 ≡ n = omega (arith, compared_length icase folder text same, ap length ends.joined, length-append ends.front (slash ∷ [])) in
    (bytes_eq-Decides (codes "/") (drop (length text - 1) text)).1 (sym (ap (λ k. drop k text) place ∙ last))
