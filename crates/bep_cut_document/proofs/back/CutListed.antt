-- A cut, listed as a document has it, is without faults.
use Rattle.std.proofs.Common.{[], map, arith}
use Rattle.std.specs.Cmp.Lexicographic.{nat_list_cmp_total}
use Rattle.std.specs.List.{AllByRecursion}
use Rattle.std.proofs.lemmas.List.{length-map}
use Rattle.std.proofs.lemmas.List.Elements.{All-contains}
use Rattle.bep_facts.specs.Members.{holds_of_member}
use Rattle.bep_json.specs.declared.version.DocVersion.{DocVersion}
use Rattle.bep_document.specs.declared.parts.FolderParts.{FolderParts}
use Rattle.bep_document.specs.Faultless.{ends_of, IsFaultlessFolder, IsFaultlessLink, IsFaultless}
use Rattle.bep_tables.specs.declared.share.SharedFolder.{SharedFolder}
use Rattle.bep_tables.specs.declared.cut.CutParts.{CutParts}
use Rattle.bep_tables.specs.Cut.{IsLink, IsCut}
use Rattle.bep_tables.specs.Cut as cuts
use Rattle.bep_cut_document.specs.inner.Sound.{IsFolderSound, IsLinkSound}
use Rattle.bep_cut_document.specs.inner.Told.{folder_parts, link_parts, parts_of}
use Rattle.bep_tables.proofs.Tables.{ends_total}
use Rattle.bep_cut_document.proofs.WrittenFacts.{differ_written}
use Rattle.bep_cut_document.proofs.back.FewDevices.{few_devices}
use Rattle.bep_cut_document.proofs.back.FoldersListed.{folder_listed}
use Rattle.bep_cut_document.proofs.back.InOrder.{differ_where_rising}
use Rattle.bep_cut_document.proofs.back.LinksListed.{link_listed}
use Rattle.bep_cut_document.proofs.back.Parts.{each_part}

pub cut_listed : (version : DocVersion) (cut : CutParts) → IsCut cut → AllByRecursion IsFolderSound cut.folders → AllByRecursion IsLinkSound cut.links → IsFaultless (parts_of version cut [])
cut_listed version cut is folders_sound links_sound = record {
  few_folders = let same = length-map cut.folders folder_parts in let most = is.few_folders in omega arith;
  few_devices = few_devices cut is;
  different = differ_written (λ (folder : FolderParts). folder.folder) folder_parts cut.folders
      (differ_where_rising nat_list_cmp_total (λ (shared : SharedFolder). shared.folder) cut.folders is.rise);
  each_folder = each_part IsFaultlessFolder folder_parts cut.folders (λ shared h.
      folder_listed cut shared is h (holds_of_member IsFolderSound cut.folders shared folders_sound h));
  different_links = differ_written ends_of link_parts cut.links (differ_where_rising ends_total cuts.ends_of cut.links is.links_rise);
  each_link = each_part (IsFaultlessLink (map folder_parts cut.folders)) link_parts cut.links (λ link h.
      link_listed cut link is (All-contains (IsLink cut.folders) cut.links link is.links h) (holds_of_member IsLinkSound cut.links link links_sound h));
  rows = tt;
}
