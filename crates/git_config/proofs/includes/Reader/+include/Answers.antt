-- What the parts of a file come to.
use Rattle.std.proofs.Common.{ℕ, ◌-◌, [], ◌∷◌, Option, Some, None, Err, Vec, Global, option_map, sym, ap, subst, ◌∙◌}
use Rattle.std.specs.Option.{option_copied}
use Rattle.std.specs.Vec.{vec_items}
use Rattle.git_config.specs.declared.item.Item.{Item}
use Rattle.git_config.specs.declared.setting.WrongSetting.TheVariants.{TooDeep}
use Rattle.git_config.specs.Configuration.{FromEntry, FromFile, FromInclude, FromPath, Then, Within}
use Rattle.git_config.specs.Grammar.{between, front, read, text_of}
use Rattle.git_config.specs.Items.{entry_with, found_with, item_with}
use Rattle.git_config.specs.Private.Sections.{seen_in}
use Rattle.git_config.specs.Private.Settings.{Adds, Asks}
use Rattle.git_config.specs.Private.Taking.{before_some}
use Rattle.git_config.proofs.lemmas.EntryLemmas.{Is, asks_file, asks_nothing, asks_wrong, behind_entry, entry_alone, entry_wrong, path_deep, path_file, path_none, tells, told, within_more}
use Rattle.git_config.proofs.lemmas.ItemLemmas.{entry_fails, entry_more, file_begins, items_end, items_stop, told_as}
use Rattle.git_config.proofs.lemmas.SettingLemmas.{adds_as, passed}
use Rattle.git_config.proofs.includes.Reader.+include.Goals as goal

pub add_entry-returns-in_ok-push-in-Nothing : goal.add_entry-returns-in_ok-push-in-Nothing
add_entry-returns-in_ok-push-in-Nothing g t c =
    let Shows = g.F.ConfigFiles.shows c.args.self.now.files.now in let around = c.args.self.now.around.now in let s = seen_in c.args.scope.now.section.value c.args.entry in
    let asks = subst (λ x. Asks around (option_copied c.args.real) s x) c.in-Nothing.is c.in_ok-asked_for.ensures in
    entry_alone s (FromInclude Shows around (Within Shows around c.args.left) (option_copied c.args.real) s) _ _ c.in_ok-push-in-Nothing.ensures (asks_nothing Shows around (Within Shows around c.args.left) (option_copied c.args.real) s asks)

pub add_entry-returns-in-Wrong : goal.add_entry-returns-in-Wrong
add_entry-returns-in-Wrong g t c =
    let Shows = g.F.ConfigFiles.shows c.args.self.now.files.now in let around = c.args.self.now.around.now in let s = seen_in c.args.scope.now.section.value c.args.entry in
    let asks = subst (λ x. Asks around (option_copied c.args.real) s x) c.in-Wrong.is c.in_ok-asked_for.ensures in
    told (FromEntry Shows around (Within Shows around c.args.left) (option_copied c.args.real) s) c.args.out.now c.args.out.now _ _ (tells c.deref.result.now _ c.deref.ensures c.args.entry.line c.in-Wrong.what None _ c.wrong_at.ensures)
    (entry_wrong s (FromInclude Shows around (Within Shows around c.args.left) (option_copied c.args.real) s) c.in-Wrong.what None
    (asks_wrong Shows around (Within Shows around c.args.left) (option_copied c.args.real) s c.in-Wrong.what asks))

pub add_entry-returns-in-File : goal.add_entry-returns-in-File
add_entry-returns-in-File g t c =
    let Shows = g.F.ConfigFiles.shows c.args.self.now.files.now in let around = c.args.self.now.around.now in let s = seen_in c.args.scope.now.section.value c.args.entry in
    let asks = subst (λ x. Asks around (option_copied c.args.real) s x) c.in-File.is c.in_ok-asked_for.ensures in
    asks_file Shows around (Within Shows around c.args.left) (option_copied c.args.real) s c.in-File.path _ _ c.add_included.result asks c.add_included.ensures

pub add_file-items-init : goal.add_file-items-init
add_file-items-init g t c =
    let Shows = g.F.ConfigFiles.shows c.args.self.now.files.now in let around = c.args.self.now.around.now in
    let line = ap (λ n. read (text_of c.args.found.bytes.items) n front) (sym c.new-text.ensures.line) in
    let bytes = ap (λ l. read (text_of l) c.new-text.result.line front) (sym (c.new-text.ensures.rest ∙ c.deref.ensures.value)) in
    record {
      scope = c.in_ok-scope.ensures.scope;
      file = c.in_ok-scope.ensures.file;
      rest = file_begins Shows around (Within Shows around c.args.left) c.args.path c.deref-real.result.now (found_with vec_items c.args.found) _ (read (text_of c.skip_mark.new.text.rest.now) c.skip_mark.new.text.line between) _ (line ∙ bytes ∙ c.in_default.ensures) (c.in_ok-scope.ensures.keys ∙ c.new.ensures.items) c.deref-real.ensures.value;
    }

pub add_file-items-preserved : goal.add_file-items-preserved
add_file-items-preserved g t c =
    let Shows = g.F.ConfigFiles.shows c.args.self.now.files.now in let around = c.args.self.now.around.now in
    let s = seen_in c.items.scope.section.value c.in-Ok-Some-Sets.entry in
    let rest = read (text_of c.next_item.new.text.rest.now) c.next_item.new.text.line between in
    let item = c.in-Ok-Some-Sets.ensures.reads
    ∙ ap (λ it. before_some (option_map (item_with vec_items) it) rest) (c.in-Ok-Some-Sets.field-0-is ∙ ap (λ it. let o : Option (Item (Vec ℕ Global)) = Some it in o) c.in-Ok-Some-Sets.field-0-0-is) in
    let is = told_as c.items.scope.section.value c.args.path.value.items c.in-Ok-Some-Sets.entry c.items.invariant.file in
    record {
      scope = c.items.invariant.scope;
      file = c.items.invariant.file;
      rest = entry_more Shows around (Within Shows around c.args.left) c.args.path c.deref-real.result.now _ _ _ _ _ (entry_with vec_items c.in-Ok-Some-Sets.entry) _ (read (text_of c.items.text.rest.now) c.items.text.line between) rest c.add_entry.result item is
          c.in_ok-add_entry-in-Ok-Some-Sets.was c.add_entry.ensures c.items.invariant.rest;
    }

pub add_file-returns-in_err-add_entry-in-Ok-Some-Sets : goal.add_file-returns-in_err-add_entry-in-Ok-Some-Sets
add_file-returns-in_err-add_entry-in-Ok-Some-Sets g t c =
    let Shows = g.F.ConfigFiles.shows c.args.self.now.files.now in let around = c.args.self.now.around.now in
    let s = seen_in c.items.scope.section.value c.in-Ok-Some-Sets.entry in
    let rest = read (text_of c.next_item.new.text.rest.now) c.next_item.new.text.line between in
    let item = c.in-Ok-Some-Sets.ensures.reads
    ∙ ap (λ it. before_some (option_map (item_with vec_items) it) rest) (c.in-Ok-Some-Sets.field-0-is ∙ ap (λ it. let o : Option (Item (Vec ℕ Global)) = Some it in o) c.in-Ok-Some-Sets.field-0-0-is) in
    let is = told_as c.items.scope.section.value c.args.path.value.items c.in-Ok-Some-Sets.entry c.items.invariant.file in
    let Whole = FromFile Shows around (Within Shows around c.args.left) c.args.path.value.items (found_with vec_items c.args.found) in
    let old = c.args.out.now in let now = c.items.out in let new = c.add_entry.new.out in
    let fault = c.in_err-add_entry-in-Ok-Some-Sets.field-0.0 in
    let adds = subst (λ r. Adds (FromEntry Shows around (Within Shows around c.args.left) (Some c.deref-real.result.now) s) now new r) c.in_err-add_entry-in-Ok-Some-Sets.was c.add_entry.ensures in
    passed Whole old new fault _ c.from_residual-in_err-add_entry-in-Ok-Some-Sets.ensures.1
    (entry_fails Shows around (Within Shows around c.args.left) c.args.path c.deref-real.result.now Whole old now new c.items.scope.section.value.keys.items (entry_with vec_items c.in-Ok-Some-Sets.entry) s
    (read (text_of c.items.text.rest.now) c.items.text.line between) rest fault item is adds c.items.invariant.rest)

pub add_file-returns-in-Ok-None : goal.add_file-returns-in-Ok-None
add_file-returns-in-Ok-None g t c =
    let Shows = g.F.ConfigFiles.shows c.args.self.now.files.now in let around = c.args.self.now.around.now in
    let rest = read (text_of c.next_item.new.text.rest.now) c.next_item.new.text.line between in
    let none = c.in-Ok-None.ensures.reads ∙ ap (λ it. before_some (option_map (item_with vec_items) it) rest) c.in-Ok-None.field-0-is in
    items_end Shows around (Within Shows around c.args.left) c.args.path c.deref-real.result.now
    (FromFile Shows around (Within Shows around c.args.left) c.args.path.value.items (found_with vec_items c.args.found)) _ _ c.items.scope.section.value.keys.items (read (text_of c.items.text.rest.now) c.items.text.line between) none
    c.items.invariant.rest

pub add_file-returns-in-Err-next_item : goal.add_file-returns-in-Err-next_item
add_file-returns-in-Err-next_item g t c =
    let Shows = g.F.ConfigFiles.shows c.args.self.now.files.now in let around = c.args.self.now.around.now in
    let Whole = FromFile Shows around (Within Shows around c.args.left) c.args.path.value.items (found_with vec_items c.args.found) in
    let old = c.args.out.now in let now = c.items.out in
    subst (λ f. Adds Whole old now (Err f)) (sym c.fault_in-in-Err-next_item.ensures)
    (items_stop Shows around (Within Shows around c.args.left) c.args.path c.deref-real.result.now _ Whole old now c.items.scope.section.value.keys.items (read (text_of c.items.text.rest.now) c.items.text.line between) c.in-Err-next_item.fault
    c.in-Err-next_item.ensures.reads c.items.invariant.rest)

pub add_included-returns-in-Ok-None : goal.add_included-returns-in-Ok-None
add_included-returns-in-Ok-None g t c =
    let Shows = g.F.ConfigFiles.shows c.args.self.now.files.now in let around = c.args.self.now.around.now in let s = seen_in c.args.section.now.value c.args.entry in let path = c.args.path.items in
    let shows = subst (λ p. Shows p None) c.deref.ensures.value (subst (λ o. Shows c.deref.result.now (option_map (λ f. found_with vec_items f) o)) c.in-Ok-None.field-0-is c.in-Ok-None.ensures) in
    entry_alone s (FromPath Shows around (Within Shows around c.args.left s path) path) _ _ c.in_ok-push-in-Ok-None.ensures (path_none Shows around (Within Shows around c.args.left s path) path shows)

pub add_included-returns-then-left-eq0 : goal.add_included-returns-then-left-eq0
add_included-returns-then-left-eq0 g t c =
    let Shows = g.F.ConfigFiles.shows c.args.self.now.files.now in let around = c.args.self.now.around.now in let s = seen_in c.args.section.now.value c.args.entry in let path = c.args.path.items in
    let file = found_with vec_items c.in-Ok-Some.found in
    let shows = subst (λ p. Shows p (Some file)) c.deref.ensures.value (subst (λ o. Shows c.deref.result.now (option_map (λ f. found_with vec_items f) o)) c.in-Ok-Some.field-0-is c.in-Ok-Some.ensures) in
    let Next = FromPath Shows around (Within Shows around c.args.left s path) path in
    told (Then (Is s) Next) c.args.out.now c.args.out.now _ _ (tells c.deref-then-left-eq0.result.now _ c.deref-then-left-eq0.ensures c.args.entry.line TooDeep (Some path) _ c.wrong_at.ensures) (entry_wrong s Next TooDeep (Some path) (path_deep Shows around c.args.left s path file c.if-left-eq0.true shows))

pub add_included-returns : goal.add_included-returns
add_included-returns g t c =
    let Shows = g.F.ConfigFiles.shows c.args.self.now.files.now in let around = c.args.self.now.around.now in let s = seen_in c.args.section.now.value c.args.entry in let path = c.args.path.items in
    let file = found_with vec_items c.in-Ok-Some.found in
    let shows = subst (λ p. Shows p (Some file)) c.deref.ensures.value (subst (λ o. Shows c.deref.result.now (option_map (λ f. found_with vec_items f) o)) c.in-Ok-Some.field-0-is c.in-Ok-Some.ensures) in
    let adds = subst (λ v. Adds (FromFile Shows around (Within Shows around (c.args.left - 1)) v.items file) c.push-2.new.self c.add_file.new.out c.add_file.result) c.in_ok-new.ensures.ok c.add_file.ensures in
    behind_entry s (FromPath Shows around (Within Shows around c.args.left s path) path) _ _ _ c.add_file.result c.in_ok-push.ensures
    (path_file Shows around (Within Shows around c.args.left s path) path file _ _ c.add_file.result shows
    (adds_as (FromFile Shows around (Within Shows around (c.args.left - 1)) path file) (Within Shows around c.args.left s path file) _ _ c.add_file.result (λ out h. within_more Shows around c.args.left s path file out c.if-left-eq0.false h) adds))
