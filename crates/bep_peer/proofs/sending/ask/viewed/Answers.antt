use Rattle.std.proofs.Common.{◌∙◌, sym, ap}
use Rattle.std.specs.Option.{option_copied}
use Rattle.bep_peer.proofs.AskFacts.{nothing_viewed}
use Rattle.bep_peer.proofs.sending.ask.viewed.Goals as goal

pub returns-in-None : goal.returns-in-None
returns-in-None g c =
    sym (nothing_viewed c.args.replica.now.tables c.args.other c.args.name.now (sym c.view.ensures ∙ ap option_copied c.in-None.is))
