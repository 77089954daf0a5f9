use Rattle.std.proofs.Common.{◌↔◌, [], ◌∷◌, IsTrue, option_map, subst, sym}
use Rattle.bep_record.specs.declared.entry.Entry.{Entry}
use Rattle.bep_model.specs.Foreign.{IsKnown}
use Rattle.bep_tables.specs.Cut.{tables_of}
use Rattle.bep_audit.specs.inner.Search.{FindsFailing}
use Rattle.bep_audit.specs.Shown.{place_shown}
use Rattle.bep_audit.proofs.AskedAtRow.{of_devices_else}
use Rattle.bep_audit.proofs.FailingRow.{finds_unknown, finds_loser}
use Rattle.bep_audit.proofs.failing.failing_at.Goals as goal

pub failing_device-requires : goal.failing_device-requires
failing_device-requires c = of_devices_else c.args.reason c.requires c.in_default.not-NameUnknown c.in_default.not-NotWinner

pub returns-in-NameUnknown : goal.returns-in-NameUnknown
returns-in-NameUnknown c =
    let t = tables_of c.args.cut.now in
    let row = c.args.row.now in
    let found = option_map place_shown c.unless.result in
    let known = subst (λ (e : Entry). IsTrue c.is_known.result ↔ IsKnown t row.folder e.name) c.entry.ensures.value c.is_known.ensures in
    subst (λ reason. FindsFailing t (row ∷ []) reason found) (sym c.in-NameUnknown.is) (finds_unknown t row c.is_known.result found known c.unless.ensures)

pub returns-in-NotWinner : goal.returns-in-NotWinner
returns-in-NotWinner c =
    let t = tables_of c.args.cut.now in
    let row = c.args.row.now in
    let found = option_map place_shown c.unless-in-NotWinner.result in
    subst (λ reason. FindsFailing t (row ∷ []) reason found) (sym c.in-NotWinner.is)
    (finds_loser t row c.is_winner.result found c.is_winner.ensures c.unless-in-NotWinner.ensures)
