use Rattle.std.proofs.Common.{Some, ap, ◌∙◌}
use Rattle.std.specs.FinMap.{get}
use Rattle.bep_machine.specs.Replica.{ByDevice}
use Rattle.bep_index.specs.Listing.{Listing}
use Rattle.bep_folder.proofs.DeviceMapFacts.{device_has}
use Rattle.bep_folder.proofs.ViewFacts.{amended_back, given_back}
use Rattle.bep_folder.proofs.views.amend_in.Goals as goal

pub amend_held-requires : goal.amend_held-requires
amend_held-requires c =
    ap (λ (m : ByDevice Listing). get m c.args.device) c.in-Ok.ensures.ok ∙ device_has c.args.views.now c.args.device c.empty.result ∙ ap Some c.empty.ensures

pub returns-in-Ok-clause-ok : goal.returns-in-Ok-clause-ok
returns-in-Ok-clause-ok c =
    amended_back c.args.views.now c.replace.new.self c.args.device c.empty.result c.in-Ok.view c.in-Ok.ensures.ok c.in-Ok.ensures.old
    c.amend_held.result c.amend_held.new.views c.args.batch c.amend_held.ensures.ok

pub returns-in-Ok-clause-err : goal.returns-in-Ok-clause-err
returns-in-Ok-clause-err c =
    given_back c.args.views.now c.replace.new.self c.args.device c.empty.result c.in-Ok.view c.in-Ok.ensures.ok c.in-Ok.ensures.old
    c.amend_held.result c.amend_held.new.views c.amend_held.ensures.err
