use Rattle.std.proofs.Common.{Some, ap, sym, ◌∙◌, subst, option_map}
use Rattle.std.specs.Vec.{vec_items}
use Rattle.gix_glob.specs.Stripping.{IsPlaced}
use Rattle.gix_glob.proofs.search.pattern.list.List.strip_base_with_counts.Goals as goal

pub strip_base_with_counts-requires : goal.strip_base_with_counts-requires
strip_base_with_counts-requires g c =
    subst (λ base. IsPlaced c.args.case base c.args.relative_path.now c.args.basename_pos) (ap (option_map vec_items) c.in-Some.is ∙ ap Some (sym c.deref.ensures.value)) c.requires
