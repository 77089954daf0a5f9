use Rattle.std.proofs.Common.{◌≡◌, ◌≤◌, Some, sym, ap, subst, ◌∙◌}
use Rattle.serde_json.specs.Data.{Data, depth}
use Rattle.serde_json.specs.Read.{read, max_depth}
use Rattle.serde_json.specs.View.{view}
use Rattle.bep_cut_document.specs.Trees.{cut_tree}
use Rattle.bep_cut_document.proofs.Shallow.{cut_alone_shallow}
use Rattle.bep_cut_document.proofs.ShortFacts.{short_where_room}
use Rattle.bep_cut_document.proofs.back.ReadBack.{cut_read}
use Rattle.bep_cut_document.proofs.value.CutCutValue.to_value.Goals as goal

pub returns-clause-value : goal.returns-clause-value
returns-clause-value c =
    let is = c.text_of-text.ensures (cut_tree c.args.self.now) _ c.new-out.ensures.tokens c.in_ok-write_cut.ensures.value in
    let reads = ap read c.as_str.ensures.value ∙ is.reads (cut_alone_shallow c.args.self.now) in
    let found = sym c.in_ok-tree.ensures ∙ reads in
    cc

pub returns-clause-read_back : goal.returns-clause-read_back
returns-clause-read_back c = λ version room.
    let told = c.in_ok-write_cut.ensures.told in
    cut_read c.faultless_parts_are_read.ensures.no_fault version c.args.self.now told (short_where_room version c.args.self.now told room)

pub returns-clause-shallow : goal.returns-clause-shallow
returns-clause-shallow c = subst (λ (d : Data). depth d ≤ max_depth) (sym (returns-clause-value c)) (cut_alone_shallow c.args.self.now)
