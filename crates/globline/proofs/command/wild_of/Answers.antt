use Rattle.std.proofs.Common.{◌≡◌, subst, rules}
use Rattle.std.specs.Prelude.{codes}
use Rattle.std.specs.String.{string_bytes}
use Rattle.globline.specs.Words.{NamesMode}
use Rattle.globline.proofs.lemmas.WordsLemmas.{map-of_three}
use Rattle.globline.proofs.command.wild_of.Goals as goal

pub returns-in_err-mode : goal.returns-in_err-mode
returns-in_err-mode c =
    let are = map-of_three string_bytes c.args.words.now _ _ _ c.in-len3.len_at_least c.in-len3.len_below c.command-item.is c.mode-item.is c.pattern-item.is in
    let unnamed = c.in_err-mode.ensures in
    rw c.from_residual.ensures
    (λ mode pattern ask. let same : ask.mode_word ≡ c.as_str-2.result.now = cc in unnamed mode (subst (λ word. NamesMode word mode) same ask.moded))

pub returns : goal.returns
returns c =
    let are = map-of_three string_bytes c.args.words.now _ _ _ c.in-len3.len_at_least c.in-len3.len_below c.command-item.is c.mode-item.is c.pattern-item.is in
    let wild : c.as_str.result.now ≡ codes "wild" = search rules in
    record { mode_word = c.as_str-2.result.now; are = cc; moded = c.in_ok-mode.ensures }
