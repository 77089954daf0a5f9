use Rattle.bep_tables.proofs.Tables.{folder_is_found, share_has_folder, sharing_is_said, own_is_said, node_is_said, viewed_is_said, target_is_said, flying_is_said, receiver_shares}
use Rattle.bep_tables.proofs.laws.cut_says.Goals as goal

pub returns : goal.returns
returns c = record {
  found = folder_is_found;
  has_folder = share_has_folder;
  sharing = sharing_is_said;
  own = own_is_said;
  node = node_is_said;
  viewed = viewed_is_said;
  target = target_is_said;
  flying = flying_is_said;
  receiver = receiver_shares;
}
