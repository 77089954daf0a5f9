use Rattle.bep_peer.proofs.Cursors.{still_unnamed}
use Rattle.bep_peer.proofs.session.Session.advance.Goals as goal

pub invariant_of-self : goal.invariant_of-self
invariant_of-self c =
    let session = c.self.invariant.0 in (
      record {
        few = session.few;
        numbered = session.numbered;
        unnamed = still_unnamed _ _ _ c.args.folder.now c.replace.result session.unnamed c.replace.ensures.old c.replace.ensures.err;
      },
      c.self.invariant.1,
    )
