-- What holds of parts in which no fault is found, by the five searches for one.
use Rattle.std.proofs.Common.{◌≡◌, None}
use Rattle.std.specs.List.{AllByRecursion}
use Rattle.bep_document.specs.declared.parts.CheckParts.{CheckParts}
use Rattle.bep_document.specs.faults.Twice.{first_twice}
use Rattle.bep_document.specs.faults.Unshared.{first_unshared}
use Rattle.bep_document.specs.faults.Records.{first_bad}
use Rattle.bep_document.specs.faults.Sequences.{first_bad_sequence}
use Rattle.bep_document.specs.faults.Links.{first_bad_link}
use Rattle.bep_document.specs.Reading.{first_fault}
use Rattle.bep_document.proofs.faults.NoFault.{neither}
use Rattle.bep_document.proofs.faults.TwiceFacts.{HasNothingTwice, nothing_twice}
use Rattle.bep_document.proofs.faults.UnsharedFacts.{HasAllShared, all_shared}
use Rattle.bep_document.proofs.faults.RecordsFacts.{HasAllGood, all_good}
use Rattle.bep_document.proofs.faults.SequencesFacts.{HasAllNumbered, all_numbered}
use Rattle.bep_document.proofs.faults.LinksFacts.{IsLinkOf, all_links}

pub record HasNoFault (parts : CheckParts) : Type 0 where
  pub once : HasNothingTwice parts
  pub shared : HasAllShared parts
  pub good : HasAllGood parts
  pub numbered : HasAllNumbered parts
  pub links : AllByRecursion (IsLinkOf parts.folders) parts.links

pub has_no_fault : (parts : CheckParts) → first_fault parts ≡ None → HasNoFault parts
unfolding first_fault
has_no_fault parts none =
    let twice = neither (first_twice parts) _ none in
    let unshared = neither (first_unshared parts) _ twice.1 in
    let bad = neither (first_bad parts) _ unshared.1 in
    let rest = neither (first_bad_sequence parts) (first_bad_link parts) bad.1 in
    record {
      once = nothing_twice parts twice.0;
      shared = all_shared parts unshared.0;
      good = all_good parts bad.0;
      numbered = all_numbered parts rest.0;
      links = all_links parts rest.1;
    }
