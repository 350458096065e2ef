-- A word becomes the element that its head and its path make.
use Rattle.std.proofs.Common.{◌≡◌, ℕ, Bool, true, List, None, Some, sym, ap, ◌∙◌}
use Rattle.std.specs.Prelude.{if◌then◌else◌}
use Rattle.std.specs.Option.{option_and_then, option_map}
use Rattle.git_paths.specs.declared.standpoint.Standpoint.{Standpoint}
use Rattle.pathspecs.specs.declared.magic.Magic.{Magic}
use Rattle.pathspecs.specs.declared.settings.Settings.{Settings}
use Rattle.pathspecs.specs.Elements.{PathspecItem, item_of_text}
use Rattle.pathspecs.specs.Leading.{front_of}
use Rattle.pathspecs.specs.Reading.{agree, item_by, item_of, marked, text_of}
use Rattle.pathspecs.specs.Spelling.{Head, Spelt, head_of, path_of}

pub read_by : (standpoint : Standpoint) (settings : Settings) (word : List ℕ) (head : Head) (spelt : Spelt) (text : List ℕ) (kept : ℕ) (magic : Magic) (item : PathspecItem)
    → Some head ≡ head_of settings.literal word → agree settings ≡ true → spelt ≡ path_of head → Some text ≡ text_of standpoint spelt → kept ≡ front_of standpoint spelt → magic ≡ marked settings head.magic → item ≡ item_of_text magic text kept
    → Some item ≡ item_of standpoint settings word
read_by standpoint settings word head spelt text kept magic item spells fit path led front marks made =
    let make : List ℕ → PathspecItem = λ t. item_of_text (marked settings head.magic) t (front_of standpoint (path_of head)) in
    let item_is : item ≡ make text = made ∙ ap (λ m. item_of_text m text kept) marks ∙ ap (λ k. item_of_text (marked settings head.magic) text k) (front ∙ ap (front_of standpoint) path) in
    ap Some item_is ∙ ap (option_map make) (led ∙ ap (text_of standpoint) path) ∙ sym (ap (λ (b : Bool). if b then option_map make (text_of standpoint (path_of head)) else None) fit) ∙ ap (option_and_then (item_by standpoint settings)) spells
