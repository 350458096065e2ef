-- What was looked up before holds, and in a section that ends in a full stop another name includes nothing.
use Rattle.std.proofs.Common.{◌≡◌, true, false, sym, ap, subst, ◌∙◌}
use Rattle.std.specs.Prelude.{◌==◌, codes, nat_eq}
use Rattle.std.specs.List.{ends_with, list_any}
use Rattle.std.proofs.lemmas.Bool.{false≢true}
use Rattle.std.specs.Option.{option_copied}
use Rattle.git_config.proofs.lemmas.ScopeLemmas.{as_key, cut_same, named_same, other_name}
use Rattle.git_config.proofs.scope.Scope.has_include.Goals as goal

pub returns-then-self : goal.returns-then-self
returns-then-self c =
    let s = c.args.self.now in
    as_key c.args.around.now (option_copied c.args.real) s.includes _ _ (cut_same s.section.value.keys.items c.args.name.now (sym c.requires.cut ∙ c.if-self.true)) c.requires.includes

pub returns-then-is_same : goal.returns-then-is_same
returns-then-is_same c =
    let s = c.args.self.now in
    as_key c.args.around.now (option_copied c.args.real) s.includes _ _
    (named_same s.section.value.keys.items c.args.name.now (sym c.requires.cut ∙ c.if-self.false) (sym c.until_zero-told.ensures ∙ c.is_same.ensures.0 c.if-is_same.true)) c.requires.includes

pub returns-then-ends_section : goal.returns-then-ends_section
returns-then-ends_section c =
    let s = c.args.self.now in
    let parts = c.ends_section.ensures.0 c.if-ends_section.true in
    let ends = subst (λ l. ends_with nat_eq l (codes ".") ≡ true) (c.deref-2.ensures.value ∙ ap (λ v. v.keys.items) c.deref.ensures) parts.0 in
    let stops = subst (λ l. list_any (λ b. b == 46) l ≡ false) c.until_zero-told.ensures parts.1 in (
      λ t. absurd (false≢true t),
      λ h. absurd (other_name c.args.around.now (option_copied c.args.real) s.section.value.keys.items c.args.name.now (sym c.requires.cut ∙ c.if-self.false) ends stops
          (λ e. false≢true (sym c.if-is_same.false ∙ c.is_same.ensures.1 (c.until_zero-told.ensures ∙ e))) h),
    )
