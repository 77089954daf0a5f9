use Rattle.std.proofs.Common.{ℕ, List, true, ◌≡◌, sym, ap, subst, ◌∙◌}
use Rattle.std.specs.Str.{is_utf8}
use Rattle.std.specs.String.{string_bytes}
use Rattle.std.proofs.lemmas.Str.{IsUtf8-string_bytes, is_utf8-from_IsUtf8}
use Rattle.serde_json.specs.Read.{read}
use Rattle.bep_cut_document.specs.Trees.{check_document_text, check_tree}
use Rattle.bep_cut_document.proofs.ReadAgain.{read_again}
use Rattle.bep_cut_document.proofs.Shallow.{check_shallow}
use Rattle.bep_cut_document.proofs.whole.check_document.Goals as goal

pub returns-clause-text : goal.returns-clause-text
unfolding check_document_text
returns-clause-text c = (c.text_of-text.ensures (check_tree c.args.version c.args.cut.now c.args.rows.now) _ c.new-out.ensures.tokens c.in_ok-write_check.ensures.value).compact

pub returns-clause-read_back : goal.returns-clause-read_back
unfolding check_document_text
returns-clause-read_back c = λ room rows_room few in_range.
    let tree = check_tree c.args.version c.args.cut.now c.args.rows.now in
    let text = c.text_of-text.result in
    let is = c.text_of-text.ensures tree _ c.new-out.ensures.tokens c.in_ok-write_check.ensures.value in
    let utf8 = subst (λ (bytes : List ℕ). is_utf8 bytes ≡ true) is.compact (is_utf8-from_IsUtf8 (string_bytes text) (IsUtf8-string_bytes text)) in
    let reads = ap read (sym is.compact) ∙ is.reads (check_shallow c.args.version c.args.cut.now c.args.rows.now) in
    read_again (check_document_text c.args.version c.args.cut.now c.args.rows.now) tree c.args.cut.now c.args.rows.now utf8 reads few (c.in_ok-write_check.ensures.read_back room rows_room in_range)
