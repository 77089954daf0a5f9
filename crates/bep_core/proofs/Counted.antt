-- A step changes what the stores of its own device count, and no other device.
use Rattle.std.proofs.Common.{◌≡◌, ◌≢◌, ◌<◌, ◌==◌, ℕ, Bool, true, false, if◌then◌else◌, List, set, Option, Some, None, option_map, Result, refl, sym, ap, subst, ◌∙◌, arith}
use Rattle.std.specs.FinMap.{get}
use Rattle.std.proofs.lemmas.Option.{same_Some}
use Rattle.bep_map.specs.NameMap.{ByName}
use Rattle.bep_model.specs.Tables.{Device}
use Rattle.bep_machine.specs.declared.moved.Moved.{Moved}
use Rattle.bep_machine.specs.declared.step.Step.{Step}
use Rattle.bep_folder.specs.Held.{Held}
use Rattle.bep_links.specs.Link.{LinkBetween}
use Rattle.bep_peer.specs.Member.{HasFailed, Member, Remains, untold}
use Rattle.bep_core.specs.Applying.{failed_in, maker_of}
use Rattle.bep_core.specs.Counts.{IsCounted, TellsFault}
use Rattle.bep_core.specs.declared.why.Why.{Why}
use Rattle.bep_peer.specs.network.Network.{Network, cluster_of, failed_of, member_at}
use Rattle.bep_peer.proofs.Numbers.{same_number}
use Rattle.bep_core.proofs.OneDevice.{Replaces, at, at_itself, failed_now}

-- ---- the device itself

-- where the folders are the same, no count rose
pub none_failed : (old new : Member) → new.folders ≡ old.folders → ¬ HasFailed old new
none_failed old new same failed =
    let found : Some failed.was ≡ Some failed.now = sym failed.before ∙ ap (λ (folders : ByName Held). get folders failed.folder) (sym same) ∙ failed.after in
    let one : failed.was ≡ failed.now = same_Some failed.was failed.now found in
    let rose : failed.now.faults < failed.now.faults = subst (λ (h : Held). h.faults < failed.now.faults) one failed.rose in
    absurd (omega arith)

-- a device of which nothing is told any more
pub untold_remains : (member : Member) → Remains member (untold member)
untold_remains member = record {
  number = refl;
  linked = refl;
  failed = (λ some. absurd (cc), λ failed. absurd (none_failed member (untold member) refl failed));
}

-- ---- the whole cluster

module _ (step : Step) (device : Device) (makes : maker_of step ≡ Some device) (network : Network) (result : Result Moved Why) where
  -- the device at this place did
  module _ (place : ℕ) (was after : Member) (r : Replaces network.members device place was after) (links : List LinkBetween) where
    pub counted_at : Remains was after → TellsFault step (cluster_of network) after.trace.failed result → IsCounted step network (record { members = set network.members place after; links = links }) result
    counted_at rest told = record {
      others = λ other apart. at network device place was after r other ∙ aside other apart (other == device) refl;
      counted = λ one before now maker had has.
          let same : one ≡ device = same_Some one device (sym maker ∙ makes) in
          subst (λ (m : Member). Remains m now) (same_Some was before (sym r.found ∙ ap (member_at network.members) (sym same) ∙ had))
          (subst (Remains was) (same_Some after now (sym (at_itself network device place was after r) ∙ ap (member_at (set network.members place after)) (sym same) ∙ has)) rest);
      told = subst (λ (failed : Option ℕ). TellsFault step (cluster_of network) failed result)
          (sym (ap (λ (maker : Option Device). failed_in maker (set network.members place after)) makes ∙ failed_now network device place was after r)) told;
    }
      where
        aside : (other : Device) → maker_of step ≢ Some other → (b : Bool) → (other == device) ≡ b → (if b then Some after else member_at network.members other) ≡ member_at network.members other
        aside other apart true tied = absurd (apart (makes ∙ ap Some (sym (same_number other device tied))))
        aside other apart false _ = refl

  -- the device isn't there, or nothing is told of it any more
  pub counted_none : (new : Network) → member_at new.members device ≡ option_map untold (member_at network.members device) → ((other : Device) → other ≢ device → member_at new.members other ≡ member_at network.members other) →
      TellsFault step (cluster_of network) None result → IsCounted step network new result
  counted_none new here others told = record {
    others = λ other apart. others other (λ same. apart (makes ∙ ap Some (sym same)));
    counted = λ one before now maker had has.
        let same : one ≡ device = same_Some one device (sym maker ∙ makes) in
        subst (Remains before)
        (same_Some (untold before) now (sym (here ∙ ap (option_map untold) (ap (member_at network.members) (sym same) ∙ had)) ∙ ap (member_at new.members) (sym same) ∙ has))
        (untold_remains before);
    told = subst (λ (failed : Option ℕ). TellsFault step (cluster_of network) failed result)
        (sym (ap (λ (maker : Option Device). failed_in maker new.members) makes ∙ ap failed_of here ∙ silent (member_at network.members device))) told;
  }
    where
      silent : (found : Option Member) → failed_of (option_map untold found) ≡ None
      silent None = refl
      silent (Some member) = refl

-- no device did
pub counted_links : (step : Step) → maker_of step ≡ None → (network : Network) (links : List LinkBetween) (result : Result Moved Why) → TellsFault step (cluster_of network) None result →
    IsCounted step network (record { members = network.members; links = links }) result
counted_links step makes network links result told = record {
  others = λ other apart. refl;
  counted = λ one before now maker had has. let none = sym makes ∙ maker in absurd (cc);
  told = subst (λ (failed : Option ℕ). TellsFault step (cluster_of network) failed result) (sym (ap (λ (maker : Option Device). failed_in maker network.members) makes)) told;
}
