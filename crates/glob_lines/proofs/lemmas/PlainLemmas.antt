-- A plain line gives itself.
use Rattle.std.proofs.Common.{◌≡◌, List, ℕ, Some, sym, ap}
use Rattle.glob_lines.specs.Equations.Entries.{LineContent}
use Rattle.glob_lines.specs.Plain.{GivesItself}
use Rattle.glob_lines.specs.Equations.Plain.{plain_content}
use Rattle.glob_lines.proofs.lemmas.EntriesLemmas.{Tells}

pub Tells-plain_content : Tells GivesItself plain_content
Tells-plain_content = record {
  found = λ line text value is. let it : List ℕ → LineContent (Unit {0}) = λ l. record { text = l; value = tt } in ap (λ l. Some (it l)) (sym is);
  gives = λ line it is. let this : LineContent (Unit {0}) = record { text = line; value = tt } in let same : this ≡ it = cc in sym (ap (λ (x : LineContent (Unit {0})). x.text) same);
}
