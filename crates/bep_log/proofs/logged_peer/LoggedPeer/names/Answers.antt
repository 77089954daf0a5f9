use Rattle.std.proofs.Common.{ap, subst}
use Rattle.bep_peer.specs.Contents.{NamesIn}
use Rattle.bep_peer.specs.Member.{Member}
use Rattle.bep_log.specs.LoggedPeer.{LoggedMember}
use Rattle.bep_log.proofs.logged_peer.LoggedPeer.names.Goals as goal

pub returns-clause-read : goal.returns-clause-read
returns-clause-read g c = subst (λ (m : Member). NamesIn c.args.folder.now m c.names.new.self c.names.result) (ap (λ (l : LoggedMember). l.now) c.self.view_is) c.names.ensures.read
