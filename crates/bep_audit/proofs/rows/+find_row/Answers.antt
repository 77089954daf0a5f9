use Rattle.std.proofs.Common.{◌/◌, ◌∙◌, sym, refl, arith, length}
use Rattle.bep_audit.proofs.RowSearch.{found_among, go_right, go_left, found_here, has_exactly, middle_is_within, right_is_shorter, left_is_shorter, through}
use Rattle.bep_audit.proofs.rows.+find_row.Goals as goal

pub find_row-requires : goal.find_row-requires
find_row-requires t c =
    let rows = c.args.rows.now in
    let within = middle_is_within (length rows) c.is_empty.result c.is_empty.ensures c.if-is_empty.false in
    let shorter = right_is_shorter rows (length rows / 2) within in
    let searched = go_right rows (length rows / 2) c.index-rows-middle.result c.args.folder.now c.args.name.now c.requires within c.index-rows-middle.is (sym c.compare_row.ensures ∙ c.in-Less.is) in
    (omega (arith, shorter, c.decreases), searched.rise)

pub find_row-requires-in-Greater : goal.find_row-requires-in-Greater
find_row-requires-in-Greater t c =
    let rows = c.args.rows.now in
    let within = middle_is_within (length rows) c.is_empty.result c.is_empty.ensures c.if-is_empty.false in
    let shorter = left_is_shorter rows (length rows / 2) within in
    let searched = go_left rows (length rows / 2) c.index-rows-middle.result c.args.folder.now c.args.name.now c.requires within c.index-rows-middle.is (sym c.compare_row.ensures ∙ c.in-Greater.is) in
    (omega (arith, shorter, c.decreases), searched.rise)

pub returns-in-Less-clause-has : goal.returns-in-Less-clause-has
returns-in-Less-clause-has t c =
    let rows = c.args.rows.now in
    let within = middle_is_within (length rows) c.is_empty.result c.is_empty.ensures c.if-is_empty.false in
    let searched = go_right rows (length rows / 2) c.index-rows-middle.result c.args.folder.now c.args.name.now c.requires within c.index-rows-middle.is (sym c.compare_row.ensures ∙ c.in-Less.is) in
    through c.find_row.ensures.has (has_exactly rows _ c.args.folder.now c.args.name.now searched)

pub returns-in-Less-clause-found : goal.returns-in-Less-clause-found
returns-in-Less-clause-found t c =
    let rows = c.args.rows.now in
    let within = middle_is_within (length rows) c.is_empty.result c.is_empty.ensures c.if-is_empty.false in
    let searched = go_right rows (length rows / 2) c.index-rows-middle.result c.args.folder.now c.args.name.now c.requires within c.index-rows-middle.is (sym c.compare_row.ensures ∙ c.in-Less.is) in
    found_among rows _ c.args.folder.now c.args.name.now searched c.find_row.result c.find_row.ensures.found

pub returns-in-Greater-clause-has : goal.returns-in-Greater-clause-has
returns-in-Greater-clause-has t c =
    let rows = c.args.rows.now in
    let within = middle_is_within (length rows) c.is_empty.result c.is_empty.ensures c.if-is_empty.false in
    let searched = go_left rows (length rows / 2) c.index-rows-middle.result c.args.folder.now c.args.name.now c.requires within c.index-rows-middle.is (sym c.compare_row.ensures ∙ c.in-Greater.is) in
    through c.find_row-in-Greater.ensures.has (has_exactly rows _ c.args.folder.now c.args.name.now searched)

pub returns-in-Greater-clause-found : goal.returns-in-Greater-clause-found
returns-in-Greater-clause-found t c =
    let rows = c.args.rows.now in
    let within = middle_is_within (length rows) c.is_empty.result c.is_empty.ensures c.if-is_empty.false in
    let searched = go_left rows (length rows / 2) c.index-rows-middle.result c.args.folder.now c.args.name.now c.requires within c.index-rows-middle.is (sym c.compare_row.ensures ∙ c.in-Greater.is) in
    found_among rows _ c.args.folder.now c.args.name.now searched c.find_row-in-Greater.result c.find_row-in-Greater.ensures.found

pub returns-in-Equal-clause-has : goal.returns-in-Equal-clause-has
returns-in-Equal-clause-has t c =
    let rows = c.args.rows.now in
    let within = middle_is_within (length rows) c.is_empty.result c.is_empty.ensures c.if-is_empty.false in
    let found = found_here rows (length rows / 2) c.index-rows-middle.result c.args.folder.now c.args.name.now within c.index-rows-middle.is (sym c.compare_row.ensures ∙ c.in-Equal.is) in
    (λ _. (c.index-rows-middle.result, found.0, found.1), λ _. refl)

pub returns-in-Equal-clause-found : goal.returns-in-Equal-clause-found
returns-in-Equal-clause-found t c =
    let rows = c.args.rows.now in
    let within = middle_is_within (length rows) c.is_empty.result c.is_empty.ensures c.if-is_empty.false in
    found_here rows (length rows / 2) c.index-rows-middle.result c.args.folder.now c.args.name.now within c.index-rows-middle.is (sym c.compare_row.ensures ∙ c.in-Equal.is)
