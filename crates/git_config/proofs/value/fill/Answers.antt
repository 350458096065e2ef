use Rattle.std.proofs.Common.{vec_len, ℕ, ◌+◌, List, ap}
use Rattle.git_config.proofs.lemmas.PartLemmas.{filled_up, part_with}
use Rattle.git_config.proofs.value.fill.Goals as goal

pub returns : goal.returns
returns c =
    let part = c.args.part.now in
    part_with (λ (bytes : List ℕ). record { quoted = part.quoted; blanks = 0; bytes = bytes })
    (filled_up part.bytes.items c.resize.new.self.items (vec_len part.bytes) (c.len.result + part.blanks) part.blanks part.bytes.ok.0 (ap (λ (n : ℕ). n + part.blanks) c.len.ensures) c.in_ok-resize.ensures.items)
