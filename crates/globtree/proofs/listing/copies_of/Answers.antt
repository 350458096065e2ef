use Rattle.std.proofs.Common.{◌≡◌, ◌∷◌, [], Bool, List, true, ap, length, refl, suc, subst, sym, take, ◌+◌, ◌∙◌}
use Rattle.std.proofs.lemmas.Bool.{and_parts}
use Rattle.std.proofs.lemmas.List.Elements.{all_zip_more}
use Rattle.std.specs.Cmp.Lexicographic.{pointwise}
use Rattle.std.specs.List.{AllZip}
use Rattle.gix_glob.specs.declared.search.pattern.list.List as patterns
use Rattle.glob_lines.specs.declared.ignore.GitIgnoreLines.{GitIgnoreLines}
use Rattle.globtree.proofs.listing.copies_of.Goals as goal

-- lists that are equal at each place are as long
equal_lengths : {A : Type 0} (E : A → A → Bool) (xs ys : List A) → pointwise E xs ys ≡ true → length ys ≡ length xs
equal_lengths E [] [] same = refl
equal_lengths E [] (y ∷ ys) same = absurd (cc)
equal_lengths E (x ∷ xs) [] same = absurd (cc)
equal_lengths E (x ∷ xs) (y ∷ ys) same = ap (λ n. suc n) (equal_lengths E xs ys (and_parts (E x y) (pointwise E xs ys) same).1)

pub lists-preserved : goal.lists-preserved
lists-preserved c =
    let size = λ (list : patterns.List GitIgnoreLines (Unit {0})). length list.patterns.items in
    let equal : size c.in_ok-clone.field-0 ≡ size c.list.result.now = equal_lengths _ _ _ (and_parts _ _ c.in_ok-clone.ensures).0 in
    let same : size c.new.result ≡ size c.list-item.result = ap size c.new.ensures ∙ (equal ∙ ap size c.list.ensures) in
    subst (AllZip (λ list copy. size copy ≡ size list) (take (c.lists.list-index + 1) c.args.lists.now)) (sym c.in_ok-push.ensures.items)
    (all_zip_more (λ list copy. size copy ≡ size list) c.args.lists.now c.lists.copies.items c.lists.list-index c.list-item.result c.new.result c.lists-test.true c.list-item.is c.lists.invariant same)
