use Rattle.bep_machine.proofs.ActionsTold.{edit_is_told, remove_is_told, scan_is_told, override_is_told, revert_is_told, start_pull_is_told, finish_is_told, begin_is_told, deliver_is_told, announce_is_told, ask_is_told, traffic_is_one, connect_is_told, lose_is_told, restart_is_told, reset_is_told}
use Rattle.bep_machine.proofs.halves.actions_are_told.Goals as goal

pub returns : goal.returns
returns c = record {
  edit = edit_is_told;
  remove = remove_is_told;
  scan = scan_is_told;
  override_one = override_is_told;
  revert = revert_is_told;
  start_pull = start_pull_is_told;
  finish = finish_is_told;
  begin = begin_is_told;
  deliver = deliver_is_told;
  announce = announce_is_told;
  ask = ask_is_told;
  traffic = traffic_is_one;
  connect = connect_is_told;
  lose = lose_is_told;
  restart = restart_is_told;
  reset = reset_is_told;
}
