-- What a verdict of the program says, and a place that it tells.
use Rattle.std.specs.Prelude.{Some, None}
use Rattle.bep_audit.specs.declared.verdict.Verdict as program
use Rattle.bep_audit.specs.declared.verdict.Verdict.TheVariants as lends
use Rattle.bep_audit.specs.declared.spot.Spot.{Spot}
use Rattle.bep_model.specs.declared.row.Row.{Row}
use Rattle.bep_model.specs.Tables.{Device}
use Rattle.bep_model.specs.Reasons.{Place}
use Rattle.bep_model.specs.Verdict.{Verdict, Settled, Not}

-- the verdict whose names are lent
abbrev pub verdict_shown : program.Verdict → Verdict
verdict_shown lends.Settled = Settled
verdict_shown (lends.Not reason folder name device) = Not reason folder.now name.now device

-- the place whose names are lent
abbrev pub place_shown : Spot → Place
place_shown spot = record { folder = spot.folder.now; name = spot.name.now; device = spot.device }

-- the name that a row is about, as a whole
abbrev pub name_of : Row → Place
name_of row = record { folder = row.folder; name = row.entry.name; device = None }

-- a device's part of it
abbrev pub part_of : Row → Device → Place
part_of row device = record { folder = row.folder; name = row.entry.name; device = Some device }
