use Rattle.std.proofs.Common.{◌↔◌, IsTrue, map, option_map, subst, sym, arith}
use Rattle.bep_model.specs.declared.reason.Reason.TheVariants.{NameUnknown, NotWinner}
use Rattle.bep_model.specs.Foreign.{IsKnown}
use Rattle.bep_model.specs.Settled.{key_of}
use Rattle.bep_tables.specs.Cut.{tables_of}
use Rattle.bep_tables.specs.Listed.{listed}
use Rattle.bep_audit.specs.Shown.{place_shown}
use Rattle.bep_audit.specs.inner.Walk.{FindsHere}
use Rattle.bep_audit.proofs.AskedAtRow.{of_rows_else}
use Rattle.bep_audit.proofs.FailingRow.{finds_unknown, finds_loser}
use Rattle.bep_audit.proofs.GroupFacts.{known_by_group}
use Rattle.bep_audit.proofs.GroupRow.{finds_here}
use Rattle.bep_audit.proofs.group_row.failing_in.Goals as goal

pub returns-in-NameUnknown : goal.returns-in-NameUnknown
returns-in-NameUnknown c =
    let t = tables_of c.args.cut.now in
    let row = c.args.row.now in
    let found = option_map place_shown c.unless.result in
    let by_group = known_by_group c.entries_are_held.ensures.held c.args.cut.now c.is_a_cut.ensures (key_of row) (map listed c.args.group.now) c.requires c.entries_are_held.ensures.shares in
    let known : IsTrue c.has_known.result ↔ IsKnown t row.folder row.entry.name = (λ is. by_group.0 (c.has_known.ensures.0 is), λ is. c.has_known.ensures.1 (by_group.1 is)) in
    subst (λ reason. FindsHere t row reason found) (sym c.in-NameUnknown.is)
    (finds_here t row NameUnknown (omega arith) found (finds_unknown t row c.has_known.result found known c.unless.ensures))

pub returns-in-NotWinner : goal.returns-in-NotWinner
returns-in-NotWinner c =
    let t = tables_of c.args.cut.now in
    let row = c.args.row.now in
    let found = option_map place_shown c.unless-in-NotWinner.result in
    subst (λ reason. FindsHere t row reason found) (sym c.in-NotWinner.is)
    (finds_here t row NotWinner (omega arith) found (finds_loser t row c.is_winner_in.result found c.is_winner_in.ensures c.unless-in-NotWinner.ensures))

pub returns-in_default : goal.returns-in_default
returns-in_default c =
    finds_here (tables_of c.args.cut.now) c.args.row.now c.args.reason (of_rows_else c.args.reason c.in_default.not-CertificateOrder c.in_default.not-NameMissing)
    (option_map place_shown c.failing_device_in.result) c.failing_device_in.ensures
