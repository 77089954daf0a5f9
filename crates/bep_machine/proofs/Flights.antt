-- What is on its way after a step over a link was so before, or is what the sender may send.
use Rattle.std.proofs.Common.{◌⊎◌, Bool, true, false, [], Contains, inl, inr, ⊎_elim, subst, if◌then◌else◌}
use Rattle.std.specs.List.{flat_map}
use Rattle.bep_facts.specs.Members.{Contains-flat_map, Contains-from_flat_map, not_in_none}
use Rattle.bep_model.specs.declared.flight.Flight.{Flight}
use Rattle.bep_model.specs.Tables.{Device}
use Rattle.bep_machine.specs.declared.message.Message.{Message}
use Rattle.bep_machine.specs.Link.{Link}
use Rattle.bep_machine.specs.Cluster.{Cluster}
use Rattle.bep_machine.specs.Said.{flights_of, are_linked, on_its_way}
use Rattle.bep_machine.proofs.LinkQueues.{queue_between, LinkGoesOn, queues_go_on}
use Rattle.bep_machine.proofs.ReadingSteps.{SendsOwn, IsReadingStep}

module _ (cluster : Cluster) (MayFly : Device → Flight → Type 0)
    (sent : (sender receiver : Device) (message : Message) → SendsOwn cluster sender receiver message → (flight : Flight) → Contains (flights_of cluster.config sender receiver message) flight → MayFly sender flight) where
  flies_on : (links : Device → Device → Link) (sender receiver : Device) (flight : Flight) → ((lower upper : Device) → LinkGoesOn (SendsOwn cluster) lower upper (cluster.link lower upper) (links lower upper)) → (linked : Bool) →
      Contains (if linked then flat_map (flights_of cluster.config sender receiver) (queue_between links sender receiver) else []) flight →
      Contains (if linked then flat_map (flights_of cluster.config sender receiver) (queue_between cluster.link sender receiver) else []) flight ⊎ MayFly sender flight
  flies_on links sender receiver flight go false flies = absurd (not_in_none flight flies)
  flies_on links sender receiver flight go true flies =
      let carried = Contains-from_flat_map (flights_of cluster.config sender receiver) (queue_between links sender receiver) flight flies in
      ⊎_elim
      (λ was. inl (Contains-flat_map (flights_of cluster.config sender receiver) (queue_between cluster.link sender receiver) carried.0 flight was carried.2))
      (λ own. inr (sent sender receiver carried.0 own flight carried.2))
      (queues_go_on (SendsOwn cluster) cluster.link links go sender receiver carried.0 carried.1)

  pub flights_go_on : (new : Cluster) → IsReadingStep cluster new → (sender receiver : Device) (flight : Flight) → Contains (on_its_way new sender receiver) flight → Contains (on_its_way cluster sender receiver) flight ⊎ MayFly sender flight
  flights_go_on new step sender receiver flight flies =
      flies_on new.link sender receiver flight step.links (are_linked cluster.config sender receiver)
      (subst (λ config. Contains (if are_linked config sender receiver then flat_map (flights_of config sender receiver) (queue_between new.link sender receiver) else []) flight) step.config flies)
