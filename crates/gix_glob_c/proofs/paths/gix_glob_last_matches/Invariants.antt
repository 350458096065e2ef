use Rattle.std.proofs.Common.{◌≡◌, drop, length, take}
use Rattle.std.specs.List.{AllZip}
use Rattle.gix_glob_c.specs.Lists.{IsToldOf}
use Rattle.gix_glob_c.proofs.paths.gix_glob_last_matches.Given as goal

-- the paths so far are told
abbrev pub invariant-paths : goal.invariant-paths
invariant-paths l = record {
  long : length l.places ≡ length l.fn.places;
  rest : drop (length l.paths) l.places ≡ drop (length l.paths) l.fn.places;
  told : AllZip (IsToldOf l.list l.fold) (take l.i l.paths) (take l.i l.places);
}
