use Rattle.bep_run_cut.proofs.WholeFacts.{whole_is}
use Rattle.bep_run_cut.proofs.whole.are_whole.Goals as goal

pub returns : goal.returns
returns c =
    whole_is c.args.peers.now c.args.links.now _ _ c.in_ok-few.ensures c.few_objects-named.ensures _ _ c.are_in_order-in_order.ensures c.all_agree-agree.ensures _ c.all_hold.ensures
