-- The order of mappings and of lists.
use Rattle.std.specs.Prelude.{string_cmp}
use Rattle.std.specs.Cmp.Lexicographic.{slice_cmp}
use Rattle.std.specs.Option.{option_cmp}
use Rattle.std.specs.Ordering.{nat_cmp, ordering_then}
use Rattle.std.specs.declared.cmp.Ordering.{Ordering}
use Rattle.gix_glob.specs.declared.search.pattern.list.List.{List}
use Rattle.gix_glob.specs.declared.search.pattern.mapping.Mapping.{Mapping}
use Rattle.glob_patterns.specs.PatternParts.{pattern_cmp}

-- the order of mappings: by pattern, then by value, then by number
abbrev pub mapping_cmp : {V : Type 0} → (V → V → Ordering) → Mapping V → Mapping V → Ordering
mapping_cmp value_cmp a b =
    ordering_then (pattern_cmp a.pattern b.pattern)
    (ordering_then (value_cmp a.value b.value) (nat_cmp a.sequence_number b.sequence_number))

-- the order of lists: by their mappings, the first that differ, then by source, then by base, where `None` comes first
abbrev pub list_cmp : {T V : Type 0} → (V → V → Ordering) → List T V → List T V → Ordering
list_cmp value_cmp a b =
    ordering_then (slice_cmp (mapping_cmp value_cmp) a.patterns.items b.patterns.items)
    (ordering_then (option_cmp string_cmp a.source b.source)
    (option_cmp (λ x y. slice_cmp nat_cmp x.items y.items) a.base b.base))
