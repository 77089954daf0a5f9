use Rattle.std.proofs.Common.{rules, tests, ◌≡◌, ◌∙◌, nat_le, ap, sym}
use Rattle.std.specs.FinMap.{entries}
use Rattle.std.proofs.lemmas.Iterator.Consumers.{YieldsList-from_rest}
use Rattle.std.proofs.lemmas.Iterator.Search.{any_from_yields_List}
use Rattle.bep_model.specs.Tables.{Folder}
use Rattle.bep_folder.specs.Held.{Held}
use Rattle.bep_peer.specs.Member.{Member}
use Rattle.bep_peer.proofs.ResetFacts.{has_id_from, id_is_old}
use Rattle.bep_peer.proofs.peer.Peer.has_id_from.Goals as goal

pub returns : goal.returns
returns g c =
    let any : c.any.result ≡ has_id_from c.args.id c.args.self.now.folders =
    any_from_yields_List (λ (one : Folder × Held). nat_le c.args.id one.1.tables.index.id) _ _ _ c.any.ensures.ran
    (YieldsList-from_rest (entries c.args.self.now.folders) (c.iter.ensures ∙ ap (λ (m : Member). entries m.folders) c.self.view_is)) (λ x b q k. search (rules, tests)) in
    let old = id_is_old c.args.id c.args.self.now.folders c.args.self.now.sessions in
    (λ is. old.0 (sym any ∙ is), λ has. any ∙ old.1 has)
