-- What is cut behind a front: one rest alone.
use Rattle.std.proofs.Common.{◌≡◌, ℕ, Bool, true, false, List, length, take, drop, refl, sym, ap, ◌∙◌}
use Rattle.std.specs.Char.{to_ascii_lowercase}
use Rattle.std.proofs.lemmas.List.{drop_at, length-map, take-append-drop, take-map, take_at}
use Rattle.pathspecs.specs.Elements.{IsCut, compared}

pub compared_length : (icase : Bool) (xs ys : List ℕ) → compared icase xs ≡ compared icase ys → length xs ≡ length ys
compared_length false xs ys same = ap length same
compared_length true xs ys same = sym (length-map xs to_ascii_lowercase) ∙ ap length same ∙ length-map ys to_ascii_lowercase

pub compared_take : (icase : Bool) (n : ℕ) (xs : List ℕ) → compared icase (take n xs) ≡ take n (compared icase xs)
compared_take false n xs = refl
compared_take true n xs = sym (take-map to_ascii_lowercase n xs)

module _ (icase : Bool) (path front rest : List ℕ) (cut : IsCut icase path front rest) where
  pub head_length : length cut.head ≡ length front
  head_length = compared_length icase cut.head front cut.alike

  pub head_is : take (length front) path ≡ cut.head
  head_is = ap (take (length front)) cut.joined ∙ take_at cut.head rest (length front) head_length

  pub rest_is : rest ≡ drop (length front) path
  rest_is = sym (ap (drop (length front)) cut.joined ∙ drop_at cut.head rest (length front) head_length)

  pub alike_is : compared icase (take (length front) path) ≡ compared icase front
  alike_is = ap (compared icase) head_is ∙ cut.alike

-- so what begins alike is cut
pub cut_at : (icase : Bool) (path front : List ℕ) → compared icase (take (length front) path) ≡ compared icase front → IsCut icase path front (drop (length front) path)
cut_at icase path front same = record { head = take (length front) path; joined = sym (take-append-drop (length front) path); alike = same }
