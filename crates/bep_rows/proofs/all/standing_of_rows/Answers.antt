use Rattle.std.proofs.Common.{◌≡◌, ◌∙◌, ◌∷◌, ◌++◌, [], List, Some, take, sym, ap, subst}
use Rattle.std.proofs.lemmas.List.{take_all, take_more}
use Rattle.bep_parts.specs.Parts.{only}
use Rattle.bep_row.specs.declared.row.NameRow.{NameRow}
use Rattle.bep_tables.specs.Cut.{tables_of}
use Rattle.bep_rows.specs.AllRows.{cut_by, key_of_row}
use Rattle.bep_rows.specs.Names.{IsAbove, Key, is_name}
use Rattle.bep_rows.specs.Standing.{IsStanding}
use Rattle.bep_rows.specs.Stream.{IsReadTo}
use Rattle.bep_rows.specs.ListRead.{IsListRead}
use Rattle.bep_rows.proofs.ListRead.{none_is_read, one_more_is_read, whole_list_is_read}
use Rattle.bep_rows.proofs.all.standing_of_rows.Goals as goal

pub loop-row-init : goal.loop-row-init
loop-row-init c = none_is_read c.args.aim c.args.header.now c.new-stream.result (c.new-stream.ensures.read c.args.aim)

pub loop-row-preserved : goal.loop-row-preserved
loop-row-preserved c =
    let rows = c.args.rows.now in
    let i = c.loop-row.row-index in
    let row = c.row-item.result in
    let key : (c.in_ok-folder.folder, c.in_ok-name.name) ≡ key_of_row c.row-item.result = λ j. (c.in_ok-folder.ensures j, c.in_ok-name.ensures j) in
    subst (λ (front : List NameRow). IsListRead c.args.aim c.args.header.now front c.take.new.self)
    (sym (take_more rows i row c.loop-row-test.true ∙ ap (λ (one : NameRow). take i rows ++ one ∷ []) (sym c.row-item.is)))
    (one_more_is_read c.args.aim c.args.header.now (take i rows) row c.loop-row.stream c.take.new.self c.loop-row.invariant
    (subst (λ (k : Key). IsAbove k c.loop-row.stream.last) key c.in_ok-take.ensures.above)
    (c.in_ok-take.ensures.last ∙ ap (λ (k : Key). Some k) key)
    (λ whole of keys read.
    subst (λ (k : Key). IsReadTo c.args.aim (tables_of whole) (k ∷ keys) c.take.new.self) key
    (c.in_ok-take.ensures.read c.args.aim (tables_of whole) keys read
    (subst (λ (k : Key). IsStanding c.args.aim (only (is_name k) (tables_of whole)) c.in_ok-here.here) (sym key) (c.in_ok-here.ensures.stands whole of)))))

pub returns : goal.returns
returns c =
    subst (IsStanding c.args.aim (tables_of (cut_by c.args.header.now c.args.rows.now))) (sym c.into_standing.ensures)
    (whole_list_is_read c.args.aim c.args.header.now (record { settled = c.verdict_by_parts.ensures.settled; firm = c.verdict_by_parts.ensures.firm }) c.rows_make_a_cut.ensures.rows c.rows_make_a_cut.ensures.names (c.header_fits.ensures.0 c.if-not-header_fits.false) c.args.rows.now c.loop-row.stream
    (subst (λ (front : List NameRow). IsListRead c.args.aim c.args.header.now front c.loop-row.stream) (take_all c.loop-row.row-index c.args.rows.now c.loop-row-test.false) c.loop-row.invariant))
