-- What follows where no link is bad.
use Rattle.std.proofs.Common.{◌≡◌, ◌<◌, ◌||◌, ltb, Bool, true, false, List, [], None, ltb-true}
use Rattle.std.specs.List.{AllByRecursion}
use Rattle.bep_document.specs.declared.fault.Fault.TheVariants.{LinkBad}
use Rattle.bep_document.specs.declared.parts.FolderParts.{FolderParts}
use Rattle.bep_document.specs.declared.parts.LinkParts.{LinkParts}
use Rattle.bep_document.specs.declared.parts.CheckParts.{CheckParts}
use Rattle.bep_document.specs.Fault.{at_link}
use Rattle.bep_document.specs.faults.Records.{is_empty}
use Rattle.bep_document.specs.faults.Links.{is_device, is_quiet, is_link_of, bad_link, first_bad_link}
use Rattle.bep_document.specs.Faultless.{IsDeviceOf}
use Rattle.bep_document.proofs.BoolFacts.{both_true}
use Rattle.bep_document.proofs.faults.NoFault.{passes_where_none, all_where_none}
use Rattle.bep_document.proofs.faults.RecordTests.{empty_decides}
use Rattle.bep_document.proofs.faults.UnsharedFacts.{has_some_device}

-- a link that isn't bad
pub record IsLinkOf (folders : List FolderParts) (link : LinkParts) : Type 0 where
  pub ends : link.a < link.b
  pub a_device : IsDeviceOf folders link.a
  pub b_device : IsDeviceOf folders link.b
  pub quiet : link.up ≡ false → (link.to_a ≡ []) × (link.to_b ≡ [])

quiet_while_down : (up quiet : Bool) → (up || quiet) ≡ true → up ≡ false → quiet ≡ true
quiet_while_down true quiet e down = cc
quiet_while_down false quiet e down = e

good_link : (folders : List FolderParts) (earlier : List LinkParts) (link : LinkParts) → bad_link folders earlier link ≡ None → IsLinkOf folders link
good_link folders earlier link none =
    let ends = both_true (ltb link.a link.b) _ (passes_where_none (is_link_of folders link) (at_link LinkBad link.a) none) in
    let first = both_true (is_device folders link.a) _ ends.1 in
    let second = both_true (is_device folders link.b) (link.up || is_quiet link) first.1 in
    record {
      ends = ltb-true link.a link.b ends.0;
      a_device = has_some_device folders link.a first.0;
      b_device = has_some_device folders link.b second.0;
      quiet = λ down.
          let both = both_true (is_empty link.to_a) (is_empty link.to_b) (quiet_while_down link.up (is_quiet link) second.1 down) in
          ((empty_decides link.to_a).0 both.0, (empty_decides link.to_b).0 both.1);
    }

pub all_links : (parts : CheckParts) → first_bad_link parts ≡ None → AllByRecursion (IsLinkOf parts.folders) parts.links
unfolding first_bad_link
all_links parts none = all_where_none (bad_link parts.folders) (IsLinkOf parts.folders) (good_link parts.folders) [] parts.links none
