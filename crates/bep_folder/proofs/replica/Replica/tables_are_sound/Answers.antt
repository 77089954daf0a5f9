use Rattle.std.proofs.Common.{subst}
use Rattle.bep_machine.specs.Replica.{Replica}
use Rattle.bep_machine.specs.Sound.{IsSoundReplica}
use Rattle.bep_folder.specs.Held.{Held}
use Rattle.bep_folder.proofs.SoundFacts.{sound_tables}
use Rattle.bep_folder.proofs.replica.Replica.tables_are_sound.Goals as goal

pub returns : goal.returns
returns g c =
    let tables : Replica = record {
      kind = c.self.inside.kind;
      others = c.self.inside.others;
      index = c.self.inside.index;
      views = c.self.inside.views;
      pulls = c.self.inside.pulls;
      store = c.self.inside.store.contents;
    } in
    subst (λ (held : Held). IsSoundReplica held.device held.tables) c.self.view_is
    (sound_tables c.self.inside.device tables c.self.invariant c.records_are_good.ensures.an_index c.records_are_good.ensures.id c.records_are_good.ensures.good
    c.views_are_sound.ensures c.pulls_are_sound.ensures c.nodes_are_kept.ensures)
