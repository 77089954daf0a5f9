use Rattle.std.proofs.Common.{◌≡◌, ◌↔◌, None, IsTrue, map}
use Rattle.std.specs.Option.{option_copied}
use Rattle.bep_model.specs.declared.reason.Reason.TheVariants.{NameUnknown, NotWinner}
use Rattle.bep_model.specs.Foreign.{IsKnown}
use Rattle.bep_model.specs.Settled.{key_of}
use Rattle.bep_tables.specs.Cut.{tables_of, shares_of}
use Rattle.bep_tables.specs.Listed.{listed}
use Rattle.bep_audit.specs.Walk.{Failure, failure_shown}
use Rattle.bep_gather.specs.Adding.{Each}
use Rattle.bep_explain.specs.inner.Rows.{row_shown}
use Rattle.bep_explain.specs.inner.Says.{failure_at, AreWon, SaysKnown, SaysBoth, SaysAtRow}
use Rattle.bep_gather.specs.AddFacts.{adds_both, adds_as}
use Rattle.bep_explain.proofs.NameSays.{name_says, is_other, other_is_about}
use Rattle.bep_explain.proofs.OneFact.{adds_at}
use Rattle.bep_explain.proofs.collect.add_name.Goals as goal

pub add_devices-requires-clause-other : goal.add_devices-requires-clause-other
add_devices-requires-clause-other c =
    other_is_about (map row_shown c.args.rows.now) c.args.row.now c.other_content-other.result c.requires.about c.other_content-other.ensures.some

pub returns : goal.returns
returns c =
    let cut = c.args.cut.now in
    let t = tables_of cut in
    let row = c.args.row.now in
    let rows = map row_shown c.args.rows.now in
    let group = map listed c.args.group.now in
    let shares = shares_of row.folder cut.folders in
    let other = option_copied c.other_content-other.result in
    let old = map failure_shown c.args.found.now.items in
    let first = map failure_shown c.add_unless.new.found.items in
    let second = map failure_shown c.add_unless-2.new.found.items in
    let new = map failure_shown c.add_devices.new.found.items in
    let by_group = c.group_says.ensures.known cut (key_of row) group c.is_a_cut.ensures c.requires.group in
    let known : IsTrue c.has_known.result ↔ IsKnown t row.folder row.entry.name = (λ is. by_group.0 (c.has_known.ensures.0 is), λ is. c.has_known.ensures.1 (by_group.1 is)) in
    let by_known = adds_at c.reasons_are_numbered.ensures.different (failure_shown c.at_row.result) (failure_at NameUnknown (key_of row) None) c.at_row.ensures
    (IsKnown t row.folder row.entry.name) c.has_known.result old first known c.in_ok-add_unless.ensures in
    let by_winner = adds_at c.reasons_are_numbered.ensures.different (failure_shown c.at_row-2.result) (failure_at NotWinner (key_of row) None) c.at_row-2.ensures
    (AreWon t (key_of row) rows) c.are_won-won.result first second c.are_won-won.ensures c.in_ok-add_unless-2.ensures in
    let is = is_other rows row c.other_content-other.result c.other_content-other.ensures.some c.other_content-other.ensures.none in
    let Won = λ (one : Failure). one ≡ failure_at NotWinner (key_of row) None → AreWon t (key_of row) rows in
    adds_as (λ (one : Failure). (SaysKnown t row one × Won one) × Each (SaysBoth t row other) shares one) (Each (SaysAtRow cut) rows) old new
    (λ one.
    let exactly = name_says cut rows row c.requires.about c.requires.row other is one in (
      λ all. exactly.0 (record { known = all.0.0; winner = all.0.1; devices = all.1 }),
      λ each. let says = exactly.1 each in ((says.known, says.winner), says.devices),
    ))
    (adds_both (λ (one : Failure). SaysKnown t row one × Won one) (Each (SaysBoth t row other) shares) old second new
    (adds_both (SaysKnown t row) Won old first second by_known by_winner) c.in_ok-add_devices.ensures)
