-- Devices that meet all that is asked of them meet what each reason asks.
use Rattle.std.proofs.Common.{List, Contains, None}
use Rattle.bep_record.specs.declared.entry.Entry.{Entry}
use Rattle.bep_model.specs.Tables.{FileName}
use Rattle.bep_tables.specs.declared.share.Share.{Share}
use Rattle.bep_converge.specs.declared.converge_reason.ConvergeReason.{ConvergeReason}
use Rattle.bep_converge.specs.declared.converge_reason.ConvergeReason.TheVariants.{LocalOnly, StoreUnclean, StoreDiffers, SendOnly, WouldCopy}
use Rattle.bep_converge_check.specs.inner.Asked.{AsksOfShare, AsksAllOfShare}
use Rattle.bep_converge_check.specs.inner.Unmet.{FindsUnmet}

module _ (top : Entry) (name : FileName) where
  each_reason : (share : Share) → AsksAllOfShare top name share → (reason : ConvergeReason) → AsksOfShare reason top name share
  unfolding AsksAllOfShare
  each_reason share all LocalOnly = all.0
  each_reason share all StoreUnclean = all.1
  each_reason share all StoreDiffers = all.2
  each_reason share all SendOnly = all.3
  each_reason share all WouldCopy = all.4
  each_reason share all _ = tt

  pub all_are_met : (shares : List Share) → ((share : Share) → Contains shares share → AsksAllOfShare top name share) → FindsUnmet top name shares None
  all_are_met shares met reason device share member same = each_reason share (met share member) reason
