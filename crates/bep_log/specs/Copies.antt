-- Copies of devices and links with their logs (this project's profile).
use Rattle.std.specs.Prelude.{◌≡◌}
use Rattle.bep_peer.specs.Copied.{member_copied}
use Rattle.bep_log.specs.LoggedPeer.{LoggedMember}

-- the device over stores in memory, as it is and as it was, with the same log
pub record IsCopied (old copy : LoggedMember) : Type 0 where
  pub now : copy.now ≡ member_copied old.now
  pub base : copy.base ≡ member_copied old.base
  pub log : copy.log ≡ old.log
  pub round : copy.round ≡ old.round
  pub last : copy.last ≡ old.last
