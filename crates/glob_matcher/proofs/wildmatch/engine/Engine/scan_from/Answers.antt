use Rattle.glob_matcher.proofs.lemmas.two_marks.Scans.{scan_for}
use Rattle.glob_matcher.proofs.wildmatch.engine.Engine.scan_from.Goals as goal

pub returns-in-Some-Byte : goal.returns-in-Some-Byte
returns-in-Some-Byte g c =
    scan_for c.in-Some-Byte.field-0-is c.follow_at.ensures.count c.scan.ensures c.place.ensures c.in-Some-Byte.ensures.follows

pub returns-in-Some-Folded : goal.returns-in-Some-Folded
returns-in-Some-Folded g c =
    scan_for c.in-Some-Folded.field-0-is c.follow_at.ensures.count c.scan-in-Some-Folded.ensures c.place.ensures c.in-Some-Folded.ensures.follows

pub returns-in-Some-End : goal.returns-in-Some-End
returns-in-Some-End g c =
    scan_for c.in-Some-End.field-0-is c.follow_at.ensures.count c.scan-in-Some-End.ensures c.place.ensures c.in-Some-End.ensures.follows
