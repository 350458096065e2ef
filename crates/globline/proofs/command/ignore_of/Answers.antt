use Rattle.std.proofs.Common.{◌≡◌, ◌-◌, length, map, take, drop, true, subst, rules}
use Rattle.std.specs.Prelude.{codes}
use Rattle.std.specs.String.{string_bytes}
use Rattle.globline.specs.Words.{NamesCase, are_files}
use Rattle.globline.proofs.lemmas.WordsLemmas.{map-of_three_and_more}
use Rattle.globline.proofs.command.ignore_of.Goals as goal

pub returns-in_err-case : goal.returns-in_err-case
returns-in_err-case c =
    let are = map-of_three_and_more string_bytes c.args.words.now _ _ _ c.in-len3-up.len_at_least c.command-item.is c.case-item.is c.root-item.is in
    let unnamed = c.in_err-case.ensures in
    rw c.from_residual.ensures
    (λ case root files ask. let same : ask.case_word ≡ c.as_str-2.result.now = cc in unnamed case (subst (λ word. NamesCase word case) same ask.cased))

pub returns : goal.returns
returns c =
    let are = map-of_three_and_more string_bytes c.args.words.now _ _ _ c.in-len3-up.len_at_least c.command-item.is c.case-item.is c.root-item.is in
    let ignore : c.as_str.result.now ≡ codes "ignore" = search rules in
    let filed : are_files (map string_bytes (take (length c.args.words.now - 3) (drop 3 c.args.words.now))) ≡ true = cc in
    record {
      case_word = c.as_str-2.result.now;
      root_word = c.as_str-3.result.now;
      are = cc;
      cased = c.in_ok-case.ensures;
      rooted = c.root_of-root.ensures;
      filed = filed;
    }
