-- What became of a link, as the cluster answers it.
use Rattle.std.proofs.Common.{◌≡◌, ℕ, List, get_or, Some, None, Result, Contains, refl, ap, subst, ◌∙◌}
use Rattle.std.specs.List.{position}
use Rattle.bep_model.specs.Tables.{Device}
use Rattle.bep_machine.specs.declared.moved.Moved.{Moved}
use Rattle.bep_machine.specs.declared.refusal.Refusal.TheVariants.{NotShared}
use Rattle.bep_machine.specs.Answer.{Answer, Refused as Refuses}
use Rattle.bep_machine.specs.Cluster.{Cluster}
use Rattle.bep_machine.specs.Steps.{AtLink, IsStep}
use Rattle.bep_links.specs.Link.{LinkBetween}
use Rattle.bep_core.specs.declared.why.Why.{Why}
use Rattle.bep_core.specs.declared.link_steps.Between.{Between}
use Rattle.bep_core.specs.declared.link_steps.Between.TheVariants.{Connect, Lose}
use Rattle.bep_core.specs.Applying.{maker_of}
use Rattle.bep_core.specs.inner.Between.{row_of, step_of}
use Rattle.bep_core.specs.Counts.{IsCounted, TellsFault}
use Rattle.bep_peer.specs.network.Network.{Network, IsNetwork, is_between, cluster_of}
use Rattle.bep_core.specs.Why.{Gives}
use Rattle.bep_core.proofs.Counted.{counted_links}
use Rattle.bep_core.proofs.AtLinks.{FirmStepOf, at_link, no_link, none_found, passed, replaces_link}
use Rattle.bep_core.proofs.Lift.{ReplacesLink, network_after_link, with_between}

-- the cluster's step is the row at the link
is_step : (what : Between) (lower upper : Device) (old new : Cluster) (answer : Answer) →
    FirmStepOf (Contains old.config.links (lower, upper)) (AtLink lower upper (row_of what) old) old new answer → IsStep (step_of what lower upper) None old new answer
is_step Connect lower upper old new answer made = made
is_step Lose lower upper old new answer made = made

-- no device makes the step, so no store is called
none_makes : (what : Between) (lower upper : Device) → maker_of (step_of what lower upper) ≡ None
none_makes Connect lower upper = refl
none_makes Lose lower upper = refl

silent_between : (what : Between) (lower upper : Device) (old : Cluster) (result : Result Moved Why) → TellsFault (step_of what lower upper) old None result
silent_between Connect lower upper old result = refl
silent_between Lose lower upper old result = refl

pub between_counts : (what : Between) (lower upper : Device) (self network : Network) → network ≡ self → (links : List LinkBetween) (result : Result Moved Why) → IsCounted (step_of what lower upper) self (record network { links = links }) result
between_counts what lower upper self network seen links result =
    subst (λ (n : Network). IsCounted (step_of what lower upper) n (record network { links = links }) result) seen
    (counted_links (step_of what lower upper) (none_makes what lower upper) network links result (silent_between what lower upper (cluster_of network) result))

module _ (what : Between) (lower upper : Device) (self : Network) where
  -- there is no such link
  pub none_between : position (is_between lower upper) self.links ≡ None → IsStep (step_of what lower upper) None (cluster_of self) (cluster_of self) (Refuses NotShared)
  none_between none =
      is_step what lower upper (cluster_of self) (cluster_of self) (Refuses NotShared) (no_link self lower upper (row_of what) (none_found (is_between lower upper) self.links none))

  -- the link at this place became another one
  module _ (network : Network) (seen : network ≡ self) (place : ℕ) (was after : LinkBetween)
      (found : position (is_between lower upper) self.links ≡ Some place) (value : was ≡ get_or network.links place was) (same : after.ends ≡ was.ends) where
    replaced : ReplacesLink network.links lower upper place was after
    replaced = replaces_link network.links lower upper place was after (ap (λ (n : Network). position (is_between lower upper) n.links) seen ∙ found) value same

    -- the cluster is a network still
    pub between_rules : IsNetwork network → IsNetwork (with_between network place after)
    between_rules = network_after_link network lower upper place was after replaced

    -- and it made the step
    pub between_made : (result : Result Moved Why) → Gives (row_of what was.link) after.link result → Gives (IsStep (step_of what lower upper) None (cluster_of self)) (cluster_of (with_between network place after)) result
    between_made result given =
        subst (λ (n : Network). Gives (IsStep (step_of what lower upper) None (cluster_of n)) (cluster_of (with_between network place after)) result) seen
        (passed (row_of what was.link) after.link (IsStep (step_of what lower upper) None (cluster_of network)) (cluster_of (with_between network place after))
        (λ answer made. is_step what lower upper (cluster_of network) (cluster_of (with_between network place after)) answer (at_link network lower upper (row_of what) place was after replaced answer made))
        result given)
