-- No fault is found where each link joins two devices, and is empty while it is down.
use Rattle.std.proofs.Common.{◌≡◌, ◌||◌, Bool, true, false, List, [], None, refl}
use Rattle.std.specs.List.{AllByRecursion}
use Rattle.std.proofs.lemmas.Bool.{lt-ltb}
use Rattle.bep_json.specs.Says.{both_are}
use Rattle.bep_document.specs.declared.fault.Fault.TheVariants.{LinkBad}
use Rattle.bep_document.specs.declared.parts.FolderParts.{FolderParts}
use Rattle.bep_document.specs.declared.parts.LinkParts.{LinkParts}
use Rattle.bep_document.specs.declared.parts.CheckParts.{CheckParts}
use Rattle.bep_document.specs.Fault.{at_link}
use Rattle.bep_document.specs.faults.Links.{is_quiet, is_link_of, bad_link, first_bad_link}
use Rattle.bep_document.proofs.faults.LinksFacts.{IsLinkOf}
use Rattle.bep_document.proofs.faults.RecordTests.{empty_decides}
use Rattle.bep_document.proofs.faultless.NoneFound.{none_where_passes, none_in_all}
use Rattle.bep_document.proofs.faultless.Shared.{some_device_found}

up_or_quiet : (up quiet : Bool) → (up ≡ false → quiet ≡ true) → (up || quiet) ≡ true
up_or_quiet true quiet holds = refl
up_or_quiet false quiet holds = holds refl

none_at_link : (folders : List FolderParts) (earlier : List LinkParts) (link : LinkParts) → IsLinkOf folders link → bad_link folders earlier link ≡ None
none_at_link folders earlier link good =
    none_where_passes (is_link_of folders link) (at_link LinkBad link.a)
    (both_are (lt-ltb link.a link.b good.ends)
    (both_are (some_device_found folders link.a good.a_device)
    (both_are (some_device_found folders link.b good.b_device)
    (up_or_quiet link.up (is_quiet link) (λ down.
    let quiet = good.quiet down in
    both_are ((empty_decides link.to_a).1 quiet.0) ((empty_decides link.to_b).1 quiet.1))))))

pub none_unlinked : (parts : CheckParts) → AllByRecursion (IsLinkOf parts.folders) parts.links → first_bad_link parts ≡ None
unfolding first_bad_link
none_unlinked parts good = none_in_all (bad_link parts.folders) (IsLinkOf parts.folders) (none_at_link parts.folders) [] parts.links good
