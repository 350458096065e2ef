-- What may be written for a record.
use Rattle.std.proofs.Common.{◌≡◌, inl, ⊎_elim, ℕ, Bool, true, false, List, [], ◌∷◌, sym, refl, ap, ◌∙◌, codes, nat_eq}
use Rattle.std.specs.Prelude.{◌||◌}
use Rattle.std.specs.List.{before_first, list_any, starts_with}
use Rattle.std.proofs.lemmas.Bool.{cases_Bool, false≢true}
use Rattle.std.proofs.lemmas.Bool.Decides.{Decides-eqb}
use Rattle.std.proofs.lemmas.Slice.Eq.{starts_is}
use Rattle.byte_streams.specs.Records.{HasNo}
use Rattle.git_paths.specs.declared.quoting.Quoting.TheVariants.{Full}
use Rattle.git_paths.specs.Quoting.{is_unusual}
use Rattle.tree_answers.specs.declared.form.Form.{Form}
use Rattle.tree_answers.specs.declared.form.Form.TheVariants.{Lines, Records}
use Rattle.tree_answers.specs.Records.{NamesPath, begins_with_quote, is_zero}
use Rattle.glob_attributes.proofs.lemmas.ZeroLemmas.{before_none}

neither : (a b : Bool) → (a || b) ≡ false → (a ≡ false) × (b ≡ false)
neither true b h = absurd (false≢true (sym h))
neither false b h = (refl, h)

no_zero : (bytes : List ℕ) → list_any (is_unusual Full) bytes ≡ false → HasNo 0 bytes
no_zero [] usual = tt
no_zero (b ∷ bytes) usual =
    let each = neither (is_unusual Full b) (list_any (is_unusual Full) bytes) usual in
    ((λ (zero : b ≡ 0). false≢true (sym each.0 ∙ ap (is_unusual Full) zero)), no_zero bytes each.1)

no_quote : (bytes : List ℕ) → list_any (is_unusual Full) bytes ≡ false → starts_with nat_eq bytes (codes "\"") ≡ false
no_quote bytes usual = ⊎_elim
    (λ (yes : starts_with nat_eq bytes (codes "\"") ≡ true).
    absurd (false≢true (sym usual ∙ ap (list_any (is_unusual Full)) ((starts_is Decides-eqb bytes (codes "\"") _ refl).0 yes))))
    (λ (no : starts_with nat_eq bytes (codes "\"") ≡ false). no)
    (cases_Bool (starts_with nat_eq bytes (codes "\"")))

unquoted : (form : Form) (bytes : List ℕ) → list_any (is_unusual Full) bytes ≡ false → begins_with_quote form bytes ≡ false
unquoted (Lines quoting) bytes usual = no_quote bytes usual
unquoted Records bytes usual = refl

pub names_usual : (form : Form) (bytes : List ℕ) → list_any (is_unusual Full) bytes ≡ false → NamesPath form bytes bytes
names_usual form bytes usual =
    let whole : before_first is_zero bytes ≡ bytes = before_none bytes (no_zero bytes usual) in
    inl (ap (begins_with_quote form) whole ∙ unquoted form bytes usual, sym whole)
