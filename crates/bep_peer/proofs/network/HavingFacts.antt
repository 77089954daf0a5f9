-- A device shares a folder exactly where it is there and has it.
use Rattle.std.proofs.Common.{◌≡◌, Option, Some, None, IsSome, Contains, option_map, refl, sym, ap, subst, ◌∙◌}
use Rattle.std.specs.FinMap.{get}
use Rattle.bep_model.specs.Tables.{Device}
use Rattle.bep_machine.specs.Replica.{Replica}
use Rattle.bep_folder.specs.Held.{Held}
use Rattle.bep_peer.specs.network.Network.{config_of}
use Rattle.bep_peer.specs.network.Sharing.{FoundByNumber, SharingIsHaving}
use Rattle.bep_peer.proofs.Changed.{tables_at}
use Rattle.bep_peer.proofs.Members.{found_by_number, has_number, sharing_there}

some_held : (found : Option Held) (replica : Replica) → option_map (λ (held : Held). held.tables) found ≡ Some replica → IsSome found
some_held None replica is = absurd (cc)
some_held (Some held) replica is = refl

held_of : (found : Option Held) → IsSome found → (held : Held) × (found ≡ Some held)
held_of None has = absurd (cc)
held_of (Some held) has = (held, refl)

pub found_each : FoundByNumber
found_each network member rules there = found_by_number network.members member rules.devices there

pub sharing_is_having : SharingIsHaving
sharing_is_having network device folder rules = (
  λ shares.
      let there = sharing_there network device folder rules.devices shares in
      let here = has_number network.members device there.0 there.2 in
      record {
        member = there.0;
        there = here.1;
        number = here.0;
        has = some_held (get there.0.folders folder) there.1 (sym (tables_at there.0.folders folder) ∙ there.3);
      },
  λ having.
      let held = held_of (get having.member.folders folder) having.has in
      let is = tables_at having.member.folders folder ∙ ap (option_map (λ (h : Held). h.tables)) held.1 in
      let joined = rules.joined having.member.number having.member (found_each network having.member rules having.there) in
      (held.0.tables.kind, subst (λ (number : Device). Contains ((config_of network).sharing folder) (number, held.0.tables.kind)) having.number (joined.folders folder held.0.tables is).kind),
)
