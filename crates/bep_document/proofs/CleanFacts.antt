-- What follows where one kind of fault isn't found, for the proofs of other crates too.
use Rattle.std.proofs.Common.{◌≡◌, ◌<◌, List, Option, None, if◌then◌else◌, Some}
use Rattle.std.specs.List.{AllByRecursion}
use Rattle.bep_record.specs.Node.{IsNode}
use Rattle.bep_record.specs.declared.node.NodeParts.{NodeParts}
use Rattle.bep_document.specs.declared.fault.DocFault.{DocFault}
use Rattle.bep_document.specs.declared.parts.CheckParts.{CheckParts}
use Rattle.bep_document.specs.faults.Judge.{◌else_at◌, first_in}
use Rattle.bep_document.specs.faults.Twice.{first_twice}
use Rattle.bep_document.specs.faults.Records.{is_node}
use Rattle.bep_document.specs.faults.Links.{first_bad_link}
use Rattle.bep_document.specs.Faultless.{KeysDiffer, IsDeviceOf, ends_of}
use Rattle.bep_document.proofs.faults.NoFault.{neither, passes_where_none, all_map, all_where_none}
use Rattle.bep_document.proofs.faults.RecordTests.{node_decides}
use Rattle.bep_document.proofs.faults.TwiceFacts.{nothing_twice}
use Rattle.bep_document.proofs.faults.LinksFacts.{all_links}

pub neither_fault : (a b : Option DocFault) → (a else_at b) ≡ None → (a ≡ None) × (b ≡ None)
neither_fault a b e = neither a b e

pub each_without_fault : {A : Type 0} (f : List A → A → Option DocFault) (P : A → Type 0) → ((earlier : List A) (x : A) → f earlier x ≡ None → P x) → (earlier xs : List A) → first_in f earlier xs ≡ None → AllByRecursion P xs
each_without_fault f P each earlier xs none = all_where_none f P each earlier xs none

pub node_without_fault : (parts : NodeParts) (fault : DocFault) → (if is_node parts then None else Some fault) ≡ None → IsNode parts
node_without_fault parts fault none = (node_decides parts).0 (passes_where_none (is_node parts) fault none)

pub folders_differ : (parts : CheckParts) → first_twice parts ≡ None → KeysDiffer (λ folder. folder.folder) parts.folders
folders_differ parts none = (nothing_twice parts none).different_folders

pub devices_differ : (parts : CheckParts) → first_twice parts ≡ None → AllByRecursion (λ folder. KeysDiffer (λ share. share.device) folder.devices) parts.folders
devices_differ parts none = all_map (λ _ folder. folder.different) parts.folders (nothing_twice parts none).each_folder

pub links_differ : (parts : CheckParts) → first_twice parts ≡ None → KeysDiffer ends_of parts.links
links_differ parts none = (nothing_twice parts none).different_links

pub links_join : (parts : CheckParts) → first_bad_link parts ≡ None → AllByRecursion (λ link. (link.a < link.b) × IsDeviceOf parts.folders link.a × IsDeviceOf parts.folders link.b) parts.links
links_join parts none = all_map (λ _ link. (link.ends, link.a_device, link.b_device)) parts.links (all_links parts none)
