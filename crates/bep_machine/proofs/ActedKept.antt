-- What a device did over a link: it is sound afterwards, and may send what it sends.
use Rattle.std.proofs.Common.{◌≡◌, false, Some, inl, inr, sym, subst}
use Rattle.std.proofs.lemmas.Option.{none-some}
use Rattle.bep_model.specs.Tables.{Device}
use Rattle.bep_machine.specs.declared.message.Message.{Message}
use Rattle.bep_machine.specs.Answer.{Answer, Row}
use Rattle.bep_machine.specs.Link.{Sight, losing, sending}
use Rattle.bep_machine.specs.Peer.{Session, Peer, Acted, idle}
use Rattle.bep_machine.specs.Exchange.{SessionRow, taken_by}
use Rattle.bep_machine.specs.Cluster.{Config}
use Rattle.bep_machine.specs.Sound.{IsSoundMessage, IsSoundSession, IsSoundPeer}
use Rattle.bep_machine.proofs.LinkKept.{MaySend, one_sent}

pub record SoundActed (config : Config) (device : Device) (sight : Sight) (acted : Acted) : Type 0 where
  pub peer : IsSoundPeer config device acted.peer
  pub sends : (message : Message) → acted.deed.sends ≡ Some message → MaySend sight message

-- a row over a link that keeps a device sound, where the message that waits is sound
abbrev pub KeepsPeer : Config → Device → (Sight → Peer → Row Acted) → Type 0
KeepsPeer config device row = (sight : Sight) (old : Peer) (acted : Acted) (answer : Answer) → IsSoundPeer config device old
    → ((message : Message) → sight.waiting ≡ Some message → IsSoundMessage message) → row sight old acted answer → SoundActed config device sight acted

module _ (config : Config) (device : Device) (sight : Sight) where
  pub stayed : (peer : Peer) (acted : Acted) → IsSoundPeer config device peer → acted ≡ idle peer → SoundActed config device sight acted
  stayed peer acted sound is =
      subst (λ a. SoundActed config device sight a) (sym is) (record { peer = sound; sends = λ message none. absurd (none-some message none) })

  pub took : (peer : Peer) (acted : Acted) → IsSoundPeer config device peer → acted ≡ taken_by peer → SoundActed config device sight acted
  took peer acted sound is =
      subst (λ a. SoundActed config device sight a) (sym is) (record { peer = sound; sends = λ message none. absurd (none-some message none) })

  pub gave_up : (peer : Peer) (acted : Acted) → IsSoundPeer config device peer → acted ≡ record { peer = peer; deed = losing } → SoundActed config device sight acted
  gave_up peer acted sound is =
      subst (λ a. SoundActed config device sight a) (sym is) (record { peer = sound; sends = λ message none. absurd (none-some message none) })

  pub sent : (peer : Peer) (message : Message) (acted : Acted) → IsSoundPeer config device peer → MaySend sight message → acted ≡ record { peer = peer; deed = sending message } → SoundActed config device sight acted
  sent peer message acted sound may is =
      subst (λ a. SoundActed config device sight a) (sym is) (record { peer = sound; sends = λ one same. one_sent sight message one may same })

  -- what is done in a session over a link that is up
  pub in_session : (other : Device) (old : Peer) (rest : Session → Row Acted) (acted : Acted) (answer : Answer) → IsSoundPeer config device old
      → ((session : Session) → IsSoundSession other old session → ¬ (sight.up ≡ false) → rest session acted answer → SoundActed config device sight acted)
      → SessionRow other sight old rest acted answer → SoundActed config device sight acted
  in_session other old rest acted answer sound on (inl down) = stayed old acted sound down.1.0
  in_session other old rest acted answer sound on (inr (up, inl none)) = stayed old acted sound none.1.0
  in_session other old rest acted answer sound on (inr (up, inr (has, made))) = on made.0 (sound.sessions other made.0 made.1.0) up made.2
