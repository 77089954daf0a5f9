-- A device of which nothing is told any more: the cluster's tables are as before.
use Rattle.std.proofs.Common.{◌≡◌, ◌≢◌, ◌==◌, ℕ, Bool, true, false, if◌then◌else◌, List, set, get_or, Option, Some, None, option_map, refl, sym, ap, ◌∙◌}
use Rattle.std.specs.List.{position}
use Rattle.bep_model.specs.Tables.{Device}
use Rattle.bep_peer.specs.Member.{Member, tables_of, untold}
use Rattle.bep_peer.specs.network.Network.{Network, IsNetwork, is_number, cluster_of, member_at}
use Rattle.bep_peer.proofs.Numbers.{same_number}
use Rattle.bep_core.proofs.AtLinks.{none_found}
use Rattle.bep_core.proofs.OneDevice.{Replaces, at, at_itself, network_after, nothing_changed, with_member}
use Rattle.bep_core.proofs.SameFolders.{equal_folders}
use Rattle.bep_core.proofs.Within.{replaces}

-- the device isn't there
pub none_untold : (members : List Member) (device : Device) → position (is_number device) members ≡ None → member_at members device ≡ option_map untold (member_at members device)
none_untold members device none = let absent = none_found (is_number device) members none in absent ∙ sym (ap (option_map untold) absent)

module _ (self network : Network) (seen : network ≡ self) (rules : IsNetwork network) (device : Device) (place : ℕ) (was after : Member)
    (found : position (is_number device) self.members ≡ Some place) (value : was ≡ get_or network.members place was) (taken : after ≡ untold was) where
  replaced : Replaces network.members device place was after
  replaced =
      replaces network.members device place was after (ap (λ (n : Network). position (is_number device) n.members) seen ∙ found) value
      (ap (λ (m : Member). m.number) taken) (ap (λ (m : Member). m.linked) taken) (equal_folders _ _ (ap (λ (m : Member). (tables_of m).replicas) taken))

  pub untold_rules : IsNetwork (with_member network place after)
  untold_rules = network_after network device place was after replaced rules

  pub untold_same : cluster_of (with_member network place after) ≡ cluster_of self
  untold_same = nothing_changed network device place was after replaced (ap tables_of taken) ∙ ap cluster_of seen

  pub untold_here : member_at (set network.members place after) device ≡ option_map untold (member_at self.members device)
  untold_here =
      at_itself network device place was after replaced
      ∙ ap Some taken
      ∙ ap (option_map untold) (sym replaced.found ∙ ap (λ (n : Network). member_at n.members device) seen)

  pub untold_others : (other : Device) → other ≢ device → member_at (set network.members place after) other ≡ member_at self.members other
  untold_others other apart = at network device place was after replaced other ∙ aside (other == device) refl ∙ ap (λ (n : Network). member_at n.members other) seen
    where
      aside : (b : Bool) → (other == device) ≡ b → (if b then Some after else member_at network.members other) ≡ member_at network.members other
      aside true tied = absurd (apart (same_number other device tied))
      aside false _ = refl
