use Rattle.std.proofs.Common.{true≢false, option_map, refl, sym, ◌∙◌}
use Rattle.bep_choice.specs.Choice.{candidate_of}
use Rattle.bep_facts.specs.Members.{Contains-image}
use Rattle.bep_model.specs.declared.row.Row.{Row}
use Rattle.bep_model.specs.Winner.{IsWinner}
use Rattle.bep_tables.specs.Cut.{tables_of}
use Rattle.bep_explain.specs.inner.Rows.{row_shown}
use Rattle.bep_explain.specs.declared.rows.NamedRow.{NamedRow}
use Rattle.bep_explain.proofs.NameSays.{won_exactly}
use Rattle.bep_explain.proofs.RowLists.{item_is_there, so_far_goes_on, so_far_ends, of_each_row}
use Rattle.bep_explain.proofs.collect.are_won.Goals as goal

pub loop-one-preserved : goal.loop-one-preserved
loop-one-preserved c =
    let t = tables_of c.args.cut.now in
    let row = c.args.row.now in
    let rows = c.args.rows.now in
    let one = row_shown c.one-item.result in
    let there = item_is_there rows c.loop-one.one-index c.one-item.result c.loop-one-test.true c.one-item.is in
    let exactly = won_exactly t row one (option_map candidate_of c.winner_in-winner.result) c.holds_winner.result (c.requires.about one (Contains-image row_shown rows c.one-item.result there))
    (c.winner_in-winner.ensures row.entry.name c.requires.group) (c.holds_winner.ensures t) in
    so_far_goes_on (λ (lent : NamedRow). IsWinner t row.folder row.entry.name ((row_shown lent).device, (row_shown lent).entry)) rows c.loop-one.one-index c.one-item.result
    c.loop-one-test.true c.one-item.is c.loop-one.invariant (exactly.0 c.if-not-holds_winner.false)

pub returns-then-not-holds_winner : goal.returns-then-not-holds_winner
returns-then-not-holds_winner c =
    let t = tables_of c.args.cut.now in
    let row = c.args.row.now in
    let rows = c.args.rows.now in
    let one = row_shown c.one-item.result in
    let there = Contains-image row_shown rows c.one-item.result (item_is_there rows c.loop-one.one-index c.one-item.result c.loop-one-test.true c.one-item.is) in
    let exactly = won_exactly t row one (option_map candidate_of c.winner_in-winner.result) c.holds_winner.result (c.requires.about one there)
    (c.winner_in-winner.ensures row.entry.name c.requires.group) (c.holds_winner.ensures t) in
    (λ e. absurd (true≢false (sym e)), λ won. absurd (true≢false (sym (exactly.1 (won one there)) ∙ c.if-not-holds_winner.true)))

pub returns : goal.returns
returns c =
    let t = tables_of c.args.cut.now in
    let row = c.args.row.now in
    let all = of_each_row (λ (other : Row). IsWinner t row.folder row.entry.name (other.device, other.entry)) c.args.rows.now
    (so_far_ends (λ (lent : NamedRow). IsWinner t row.folder row.entry.name ((row_shown lent).device, (row_shown lent).entry)) c.args.rows.now c.loop-one.one-index c.loop-one-test.false c.loop-one.invariant) in
    (λ _. all, λ _. refl)
