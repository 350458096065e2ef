use Rattle.git_paths.proofs.lemmas.FrontLemmas.{front_of_front, front_of_joined}
use Rattle.git_paths.proofs.quoting.append_escaped_bytes.Goals as goal

pub returns-in_err-append_escaped-clause-kept : goal.returns-in_err-append_escaped-clause-kept
returns-in_err-append_escaped-clause-kept c =
    front_of_front c.args.text.now.items c.bytes.text.items c.append_escaped.new.text.items
    (front_of_joined c.args.text.now.items _ c.bytes.text.items c.bytes.invariant) c.append_escaped.ensures.kept
