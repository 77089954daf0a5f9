use Rattle.std.proofs.Common.{◌≡◌, Err, None, ap, sym, subst, rules}
use Rattle.std.specs.FinMap.{get}
use Rattle.bep_folder.specs.inner.Found.{IsNotPut}
use Rattle.bep_folder.specs.ScanResult.{Scanned}
use Rattle.bep_folder.proofs.ScanFacts.{no_room}
use Rattle.bep_folder.proofs.scan.whole.new_must_have_room.Goals as goal

pub returns-in-Err : goal.returns-in-Err
returns-in-Err c = λ kind device.
    let scan : Scanned = record { name = c.args.name.now; node = None } in
    let none : get c.args.index.now.records c.args.name.now ≡ None = search rules in
    subst (IsNotPut kind device scan c.args.index.now) (sym c.index_error.ensures)
    (no_room kind device scan c.args.index.now c.in-Err.error none
    (λ is. c.in-Err.ensures.sequence_full.0 (ap Err is)) (λ is. c.in-Err.ensures.index_full.0 (ap Err is)) c.in-Err.ensures.only)
