-- Parts that make a pattern make it as Rust keeps them, too.
use Rattle.std.proofs.Common.{◌≡◌, ℕ, List, Option, sym, subst}
use Rattle.gix_glob.specs.declared.pattern.Mode as pattern
use Rattle.gix_glob.specs.Patterns.{IsPattern}
use Rattle.gix_glob_c.specs.declared.parsed.GlobPattern.{GlobPattern}
use Rattle.gix_glob_c.specs.Parsed.{IsLawful, first_of, mode_of}

pub view_is_lawful : (parts : GlobPattern) (text : List ℕ) (mode : pattern.Mode) (place : Option ℕ) → text ≡ parts.text.now → mode ≡ mode_of parts → place ≡ first_of parts
    → IsLawful parts → IsPattern text mode place
view_is_lawful parts text mode place same_text same_mode same_place lawful =
    subst (λ (t : List ℕ). IsPattern t mode place) (sym same_text)
    (subst (λ (m : pattern.Mode). IsPattern parts.text.now m place) (sym same_mode)
    (subst (λ (p : Option ℕ). IsPattern parts.text.now (mode_of parts) p) (sym same_place) lawful))
