-- An item more is read.
use Rattle.std.proofs.Common.{◌++◌, ◌∙◌, option_map, ap}
use Rattle.std.specs.Vec.{vec_items}
use Rattle.std.proofs.lemmas.List.{append-nil}
use Rattle.std.proofs.lemmas.Result.{err_from_is_err_and}
use Rattle.git_config.specs.Alone.{alone_from}
use Rattle.git_config.specs.Grammar.{Reading, between, read, text_of}
use Rattle.git_config.specs.Items.{item_with}
use Rattle.git_config.specs.Private.Taking.{before_some}
use Rattle.git_config.proofs.lemmas.AloneLemmas.{fault_of_all}
use Rattle.git_config.proofs.alone.add_items.Goals as goal

pub returns-in_err-item : goal.returns-in_err-item
returns-in_err-item c =
    let p = err_from_is_err_and c.from_residual-in_err-item.result c.from_residual-in_err-item.ensures.1 in
    rw (p.1, p.2) (fault_of_all c.in_err-item.field-0.0 _ _ c.items.invariant.fault c.in_err-item.ensures.reads)

pub items-preserved : goal.items-preserved
items-preserved c =
    let rest = read (text_of c.next_item.new.text.rest.now) c.next_item.new.text.line between in
    let one = c.in_ok-item.ensures.reads ∙ ap (λ found. before_some (option_map (item_with vec_items) found) rest) c.in-Some.is in
    record {
      file = c.in_ok-section.ensures.file;
      fault = c.items.invariant.fault ∙ ap (λ (r : Reading). r.1) one;
      entries = c.items.invariant.entries
          ∙ ap (λ (r : Reading). c.items.out ++ alone_from c.args.path.now.value.items c.items.section.value.keys.items r.0) one
          ∙ c.in_ok-section.ensures.entries rest.0;
    }

pub returns : goal.returns
returns c =
    let rest = read (text_of c.next_item.new.text.rest.now) c.next_item.new.text.line between in
    let none = c.in_ok-item.ensures.reads ∙ ap (λ found. before_some (option_map (item_with vec_items) found) rest) c.in_default.is in
    let out = c.items.out in
    (c.items.invariant.entries ∙ ap (λ (r : Reading). out ++ alone_from c.args.path.now.value.items c.items.section.value.keys.items r.0) none ∙ append-nil out, c.items.invariant.fault ∙ ap (λ (r : Reading). r.1) none)
