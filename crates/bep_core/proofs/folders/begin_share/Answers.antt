use Rattle.std.proofs.Common.{◌≡◌, true, false, sym, subst}
use Rattle.bep_folder.specs.Held.{AreOthers}
use Rattle.bep_core.specs.Begin.{is_shared}
use Rattle.bep_core.proofs.OthersThat.{are_others}
use Rattle.bep_core.proofs.folders.begin_share.Goals as goal

pub unreachable-requires : goal.unreachable-requires
unreachable-requires g c =
    let right = subst (AreOthers c.args.device) (sym c.in_ok-others.ensures) (are_others (is_shared c.args.keys.now c.args.folder.now) c.args.devices.now c.args.device c.requires.rising c.requires.few c.requires.there) in
    let both : false ≡ true = c.in-None.ensures.some.1 right in
    absurd (cc)
