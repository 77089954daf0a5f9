use Rattle.std.proofs.Common.{◌≡◌, ℕ, List, Bor, length, sym, ap, subst, ◌∙◌}
use Rattle.std.specs.FinMap.{entries, keys, len, len-entries}
use Rattle.std.proofs.lemmas.List.{length-map}
use Rattle.bep_lines.specs.Lines.{folder_line}
use Rattle.bep_lines.specs.Text.{AppendsWhole}
use Rattle.bep_model.specs.Tables.{FileName}
use Rattle.bep_tables.specs.declared.cut.CutParts.{CutParts}
use Rattle.bep_tables.specs.declared.share.Share.{Share}
use Rattle.bep_tables.specs.declared.share.SharedFolder.{SharedFolder}
use Rattle.bep_tables.specs.Names.{known_names}
use Rattle.bep_report.specs.Report.{count_deleted, folder_text}
use Rattle.bep_report.specs.inner.Known.{names_lent}
use Rattle.bep_report.proofs.reporting.push_held.Goals as goal

folder_said : (cut : CutParts) (held : SharedFolder) (shares : List Share) (names : List (Bor FileName)) (count deleted : ℕ) → shares ≡ held.shares → names_lent names ≡ keys (known_names cut held.folder) → count ≡ length names → deleted ≡ count_deleted shares (names_lent names) → folder_line held.folder count deleted (length shares) ≡ folder_text cut held
unfolding folder_text
folder_said cut held shares names count deleted same known counted told =
    let size : count ≡ len (known_names cut held.folder) = counted ∙ sym (length-map names (λ name. name.now)) ∙ ap length known ∙ length-map (entries (known_names cut held.folder)) (λ e. e.0) ∙ sym (len-entries (known_names cut held.folder)) in
    let gone : deleted ≡ count_deleted held.shares (keys (known_names cut held.folder)) = told ∙ (λ i. count_deleted (same i) (known i)) in
    λ i. folder_line held.folder (size i) (gone i) (length (same i))

pub returns : goal.returns
returns c =
    let names = c.as_slice.result.now in
    let known = ap names_lent c.as_slice.ensures.value ∙ c.in_ok-names.ensures in
    let line = folder_said c.args.cut.now c.args.held.now c.as_slice-shares.result.now names c.len.result c.count_deleted-deleted.result c.as_slice-shares.ensures known (c.len.ensures ∙ sym c.as_slice.ensures.len) c.count_deleted-deleted.ensures in
    subst (AppendsWhole c.push_folder.result c.args.text.now.items c.push_folder.new.text.items) line c.push_folder.ensures
