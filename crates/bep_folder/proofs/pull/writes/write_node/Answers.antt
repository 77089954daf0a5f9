use Rattle.bep_folder.proofs.CallFacts.{last_failed, one_made}
use Rattle.bep_folder.proofs.pull.writes.write_node.Goals as goal

pub returns-clause-made : goal.returns-clause-made
returns-clause-made g c = one_made c.args.store.now c.write.new.self c.write.result c.write.ensures.counted

pub returns-clause-last : goal.returns-clause-last
returns-clause-last g c = last_failed c.args.store.now c.write.new.self c.write.result c.write.ensures.counted
