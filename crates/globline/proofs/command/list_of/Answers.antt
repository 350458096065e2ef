use Rattle.std.proofs.Common.{◌≡◌, true, subst, rules}
use Rattle.std.specs.Prelude.{codes}
use Rattle.std.specs.String.{string_bytes}
use Rattle.gix_glob.specs.Paths.{has_file_part}
use Rattle.globline.specs.Words.{NamesCase}
use Rattle.globline.proofs.lemmas.WordsLemmas.{map-of_four}
use Rattle.globline.proofs.command.list_of.Goals as goal

pub returns-in_err-case : goal.returns-in_err-case
returns-in_err-case c =
    let are = map-of_four string_bytes c.args.words.now _ _ _ _ c.in-len4.len_at_least c.in-len4.len_below c.command-item.is c.case-item.is c.file-item.is c.root-item.is in
    let unnamed = c.in_err-case.ensures in
    rw c.from_residual.ensures
    (λ case file root ask. let same : ask.case_word ≡ c.as_str-2.result.now = cc in unnamed case (subst (λ word. NamesCase word case) same ask.cased))

pub returns : goal.returns
returns c =
    let are = map-of_four string_bytes c.args.words.now _ _ _ _ c.in-len4.len_at_least c.in-len4.len_below c.command-item.is c.case-item.is c.file-item.is c.root-item.is in
    let list : c.as_str.result.now ≡ codes "list" = search rules in
    let filed : has_file_part c.as_str-file.result.now ≡ true = cc in
    record {
      case_word = c.as_str-2.result.now;
      root_word = c.as_str-3.result.now;
      are = cc;
      cased = c.in_ok-case.ensures;
      filed = filed;
      rooted = c.root_of-root.ensures;
    }
