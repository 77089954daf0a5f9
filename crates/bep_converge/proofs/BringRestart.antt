-- Two devices are restarted, and their link comes up: nothing is on its way, neither has a session, and indexes, views and stores
-- are as they were.
use Rattle.std.proofs.Common.{◌≡◌, ◌≢◌, ◌∙◌, ◌+◌, ◌≤◌, ℕ, Bool, true, false, nat_lt, [], ◌∷◌, map, Option, option_map, Some, None, Contains, refl, sym, ap, inr, ⊎_elim, if◌then◌else◌, arith}
use Rattle.std.proofs.lemmas.Bool.{ltb-true, ltb-false}
use Rattle.std.proofs.lemmas.Cmp.{nat_list_cmp_total}
use Rattle.std.specs.FinMap.{get}
use Rattle.bep_model.specs.Tables.{Device, Folder, FileName}
use Rattle.bep_record.specs.declared.entry.Entry.{Entry}
use Rattle.bep_machine.specs.declared.limits.TheConstants.{MAX_EPOCH}
use Rattle.bep_machine.specs.declared.moved.Moved.TheVariants.{Changed}
use Rattle.bep_machine.specs.declared.step.Step.TheVariants.{Connect, Restart}
use Rattle.bep_machine.specs.Answer.{Done}
use Rattle.bep_machine.specs.Replica.{Replica}
use Rattle.bep_machine.specs.Link.{Link, connected, lost}
use Rattle.bep_machine.specs.Peer.{Peer}
use Rattle.bep_machine.specs.Cluster.{Cluster, link_between, with_peer, with_link_between, without_links}
use Rattle.bep_machine.specs.Steps.{AreLinked, IsStep, IsRun, ConnectRow, without_pulls, restarted}
use Rattle.bep_machine.specs.Sound.{IsSound}
use Rattle.bep_converge.specs.Bring.{done, connect}
use Rattle.bep_converge.proofs.BringSteps.{connect_is_calm}
use Rattle.bep_converge.proofs.BringLinks.{link_by, with_link_by, peer_here, peer_apart, peers_stay, config_stays, link_lost_here, link_lost_there, IsUp, comes_up}
use Rattle.bep_converge.proofs.BringStage.{StepLaws, Stage, stage_on, step_made}
use Rattle.bep_converge.proofs.OverLinks.{get-each}

-- ---- one device is restarted

abbrev pub after_restart : Cluster → Device → Cluster
after_restart c one = without_links (with_peer c one (restarted (c.peer one))) one

-- its replica of a folder has lost its pulls alone
pub without_pulls_there : (peer : Peer) (folder : Folder) (replica : Replica) → get peer.replicas folder ≡ Some replica → get (restarted peer).replicas folder ≡ Some (without_pulls replica)
without_pulls_there peer folder replica there = get-each nat_list_cmp_total without_pulls peer.replicas folder ∙ ap (λ (o : Option Replica). option_map without_pulls o) there

-- ---- the link comes up

pub connect_made : (c : Cluster) (device owner : Device) → IsSound c → AreLinked c.config device owner → (link_between c device owner).up ≡ false → (link_between c device owner).epoch ≢ MAX_EPOCH →
    IsStep (connect device owner) None c (with_link_between c device owner (connected (link_between c device owner))) (Done Changed)
connect_made c device owner sound linked down early = by_test (nat_lt device owner) refl down early
  where
    row : (link : Link) → link.up ≡ false → link.epoch ≢ MAX_EPOCH → ConnectRow link (connected link) (Done Changed)
    row link down early = inr ((λ up. let never : true ≡ false = sym up ∙ down in absurd (cc)), inr (early, (refl, refl)))

    by_test : (b : Bool) → nat_lt device owner ≡ b → (link_by b c device owner).up ≡ false → (link_by b c device owner).epoch ≢ MAX_EPOCH →
        IsStep (if b then Connect device owner else Connect owner device) None c (with_link_by b c device owner (connected (link_by b c device owner))) (Done Changed)
    by_test true is down early =
        let there : Contains c.config.links (device, owner) =
        ⊎_elim
        (λ first. first)
        (λ second. absurd (let one = (sound.config.links owner device second).0 in let two = ltb-true device owner is in omega arith))
        linked in
        step_made (Connect device owner) c _ there (connected (c.link device owner), row (c.link device owner) down early, refl)
    by_test false is down early =
        let there : Contains c.config.links (owner, device) =
        ⊎_elim
        (λ first. absurd (let one = (sound.config.links device owner first).0 in let two = ltb-false device owner is in omega arith))
        (λ second. second)
        linked in
        step_made (Connect owner device) c _ there (connected (c.link owner device), row (c.link owner device) down early, refl)

-- ---- the whole

pub record IsFresh (device owner : Device) (folder : Folder) (name : FileName) (top : Entry) (c next : Cluster) (epoch : ℕ) : Type 0 where
  pub stage : Stage device owner folder name top next
  pub run : IsRun c (map done (Restart device ∷ Restart owner ∷ connect device owner ∷ [])) next
  pub config : next.config ≡ c.config
  pub link : IsUp next device owner epoch [] []
  pub near : next.peer device ≡ restarted (c.peer device)
  pub far : next.peer owner ≡ restarted (c.peer owner)

module _ (laws : StepLaws) (device owner : Device) (folder : Folder) (name : FileName) (top : Entry) (apart : device ≢ owner) where
  pub fresh : (c : Cluster) → Stage device owner folder name top c → (link_between c device owner).epoch + 1 ≤ MAX_EPOCH → (next : Cluster) × (epoch : ℕ) × IsFresh device owner folder name top c next epoch
  fresh c stage early =
      let c1 : Cluster = after_restart c device in
      let c2 : Cluster = after_restart c1 owner in
      let c3 : Cluster = with_link_between c2 device owner (connected (link_between c2 device owner)) in
      let made1 : IsStep (Restart device) None c c1 (Done Changed) = step_made (Restart device) c c1 (stage.sound.config.sharing folder device stage.near_shares) (refl, refl) in
      let stage1 : Stage device owner folder name top c1 = stage_on laws device owner folder name top c c1 (Restart device) stage (record { quiet = tt; unreset = refl; sound = tt }) made1 refl in
      let made2 : IsStep (Restart owner) None c1 c2 (Done Changed) = step_made (Restart owner) c1 c2 (stage.sound.config.sharing folder owner stage.far_shares) (refl, refl) in
      let stage2 : Stage device owner folder name top c2 = stage_on laws device owner folder name top c1 c2 (Restart owner) stage1 (record { quiet = tt; unreset = refl; sound = tt }) made2 refl in
      let is_lost : link_between c2 device owner ≡ lost (lost (link_between c device owner)) =
      link_lost_there (with_peer c1 owner (restarted (c1.peer owner))) device owner ∙ ap lost (link_lost_here (with_peer c device (restarted (c.peer device))) device owner) in
      let low : (link_between c2 device owner).epoch ≡ (link_between c device owner).epoch = ap (λ (l : Link). l.epoch) is_lost in
      let made3 : IsStep (connect device owner) None c2 c3 (Done Changed) =
      connect_made c2 device owner stage2.sound (stage.joined.linked device owner folder apart stage.near_shares stage.far_shares) (ap (λ (l : Link). l.up) is_lost) (λ last. absurd (omega arith)) in
      let same : c3.config ≡ c.config = config_stays c2 device owner (connected (link_between c2 device owner)) in
      let stage3 : Stage device owner folder name top c3 = stage_on laws device owner folder name top c2 c3 (connect device owner) stage2 (connect_is_calm device owner) made3 same in (
        c3,
        (link_between c2 device owner).epoch + 1,
        record {
          stage = stage3;
          run = (c1, made1, (c2, made2, (c3, made3, refl)));
          config = same;
          link = comes_up c2 device owner;
          near = peers_stay c2 device owner (connected (link_between c2 device owner)) device ∙ peer_apart c1 owner device (restarted (c1.peer owner)) apart ∙ peer_here c device (restarted (c.peer device));
          far = peers_stay c2 device owner (connected (link_between c2 device owner)) owner ∙ peer_here c1 owner (restarted (c1.peer owner)) ∙ ap restarted (peer_apart c device owner (restarted (c.peer device)) (λ e. apart (sym e)));
        },
      )
