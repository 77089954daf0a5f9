use Rattle.std.proofs.Common.{◌≡◌, drop}
use Rattle.bep_machine.specs.Exchange.{next_block}
use Rattle.bep_peer.proofs.sending.ask.next_block.Given as goal

-- none of the blocks so far can be asked for
abbrev pub invariant-loop-place : goal.invariant-loop-place
invariant-loop-place l =
    next_block l.session l.folder l.name (drop l.place l.pull.target.blocks) (drop l.place l.pull.received) ≡ next_block l.session l.folder l.name l.pull.target.blocks l.pull.received
