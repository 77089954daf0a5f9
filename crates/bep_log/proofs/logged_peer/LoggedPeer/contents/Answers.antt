use Rattle.std.proofs.Common.{ap, subst}
use Rattle.bep_peer.specs.Contents.{ReadsOutIn}
use Rattle.bep_peer.specs.Member.{Member}
use Rattle.bep_log.specs.LoggedPeer.{LoggedMember}
use Rattle.bep_log.proofs.logged_peer.LoggedPeer.contents.Goals as goal

pub returns-clause-read : goal.returns-clause-read
returns-clause-read g c = subst (λ (m : Member). ReadsOutIn c.args.folder.now m c.contents.new.self c.contents.result) (ap (λ (l : LoggedMember). l.now) c.self.view_is) c.contents.ensures.read
