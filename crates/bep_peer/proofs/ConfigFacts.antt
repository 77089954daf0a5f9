-- What a session names once its ClusterConfig was taken is shared by both devices.
use Rattle.std.proofs.Common.{◌≡◌, ◌⊎◌, T, Bool, true, false, cond, List, [], ◌∷◌, Option, Some, None, IsSome, IsTrue, Contains, option_map, inl, inr, refl, sym, ap, subst, ◌∙◌}
use Rattle.std.proofs.Math.Facts.{eqb_yes}
use Rattle.std.specs.FinMap.{nat_cmp-IsAntisymmetric, empty, get, insert, get-empty, get-insert}
use Rattle.std.specs.Ordering.{nat_cmp, eq_by_cmp}
use Rattle.std.specs.Cmp.{nat_cmp_total}
use Rattle.std.specs.Cmp.Lexicographic.{slice_cmp, nat_list_cmp_total}
use Rattle.std.specs.Prelude.{◌==◌}
use Rattle.std.proofs.lemmas.Map.Lookups.{exact_bytes}
use Rattle.std.proofs.lemmas.Map.Views.{Contains-from_any}
use Rattle.bep_facts.specs.Maps.{found_after_insert, same_key}
use Rattle.bep_map.specs.NameMap.{ByName}
use Rattle.bep_index.specs.declared.send.Plan.{Plan}
use Rattle.bep_model.specs.Tables.{Device, Folder}
use Rattle.bep_machine.specs.declared.message.Announced.{Announced}
use Rattle.bep_machine.specs.Exchange.{IsNamed, NamesShared, cursor_after, cursors_for, with_cursor}
use Rattle.bep_machine.specs.Peer.{Session, is_shared_with}
use Rattle.bep_machine.specs.Replica.{ByDevice, Replica}
use Rattle.bep_folder.specs.Held.{Held}
use Rattle.bep_peer.specs.Member.{Member, IsMember, tables_in, tables_of}
use Rattle.bep_peer.specs.inner.Renew.{AreFramed, AreSharedBy}
use Rattle.bep_peer.specs.inner.Index.{IsSharedBy}
use Rattle.bep_peer.proofs.MemberFacts.{get-tables}
use Rattle.bep_peer.proofs.RenewFacts.{member_framed, shared_framed}

-- ---- the folders that it names are shared

is_among : (other : Device) (replica : Replica) → IsTrue (is_shared_with other replica) → Contains replica.others other
is_among other replica shares = Contains-from_any (λ (x y : Device) (same : (y == x) ≡ true). sym (eqb_yes (subst T (sym same) tt))) other replica.others shares

shared_by : (folders : ByName Held) (folder : Folder) (other : Device) (replica : Replica) → get (tables_in folders) folder ≡ Some replica → IsTrue (is_shared_with other replica) → IsSharedBy folders folder other
shared_by folders folder other replica at shares = cases (get folders folder) refl (sym (get-tables folders folder) ∙ at)
  where
    cases : (found : Option Held) → get folders folder ≡ found → option_map (λ (held : Held). held.tables) found ≡ Some replica → IsSharedBy folders folder other
    cases None none is = absurd (cc)
    cases (Some held) has is =
        let same : held.tables ≡ replica = cc in
        (held, has, subst (λ (tables : Replica). Contains tables.others other) (sym same) (is_among other replica shares))

pub all_shared_by : (member : Member) (other : Device) (named : List Announced) → NamesShared other (tables_of member) named → AreSharedBy member.folders other named
all_shared_by member other [] all = tt
all_shared_by member other (one ∷ more) all = (shared_by member.folders one.folder other all.0.0 all.0.1 all.0.2, all_shared_by member other more all.1)

-- ---- the session names shared folders

-- each folder with a cursor is shared
abbrev HaveShared : ByName Held → Device → ByName Plan → Type 0
HaveShared folders other cursors = (folder : Folder) → IsSome (get cursors folder) → IsSharedBy folders folder other

cursor_added : (folders : ByName Held) (other : Device) (one : Announced) (found : Option Replica) (cursors : ByName Plan) → IsSharedBy folders one.folder other → HaveShared folders other cursors → HaveShared folders other (with_cursor one found cursors)
cursor_added folders other one None cursors shared all folder some = all folder some
cursor_added folders other one (Some replica) cursors shared all folder some =
    cases (eq_by_cmp (slice_cmp nat_cmp) folder one.folder) refl (subst (λ (found : Option Plan). IsSome found) (get-insert nat_list_cmp_total cursors one.folder plan folder) some)
  where
    plan : Plan
    plan = cursor_after replica.index one.known_id one.known_sequence

    cases : (b : Bool) → eq_by_cmp (slice_cmp nat_cmp) folder one.folder ≡ b → IsSome (cond b (Some plan) (get cursors folder)) → IsSharedBy folders folder other
    cases true tied is = subst (λ (name : Folder). IsSharedBy folders name other) (sym (same_key exact_bytes folder one.folder tied)) shared
    cases false apart is = all folder is

cursors_shared : (folders : ByName Held) (other : Device) (replicas : ByName Replica) (named : List Announced) (cursors : ByName Plan) → AreSharedBy folders other named → HaveShared folders other cursors → HaveShared folders other (cursors_for named replicas cursors)
cursors_shared folders other replicas [] cursors named all = all
cursors_shared folders other replicas (one ∷ more) cursors named all =
    cursors_shared folders other replicas more (with_cursor one (get replicas one.folder) cursors) named.1 (cursor_added folders other one (get replicas one.folder) cursors named.0 all)

none_shared : (folders : ByName Held) (other : Device) → HaveShared folders other empty
none_shared folders other folder some = absurd (let never = subst (λ (found : Option Plan). IsSome found) (get-empty (slice_cmp nat_cmp) folder) some in cc)

-- what holds of every member
pub member_configured : (number : Device) (old new : ByName Held) (sessions : ByDevice Session) (linked : List Device) (other : Device) (session : Session) (named : List Announced) (cursors : ByName Plan) →
    AreFramed old new → AreSharedBy old other named → cursors ≡ cursors_for named (tables_in old) empty → IsMember number old sessions linked →
    IsMember number new (insert sessions other (record session { configured = true; cursors = cursors })) linked
member_configured number old new sessions linked other session named cursors framed shared is member =
    let kept = member_framed number old new sessions linked framed member in
    record { own = kept.own; named = named_by; linked_to = kept.linked_to }
  where
    later : Session
    later = record session { configured = true; cursors = cursors }

    named_by : (device : Device) (found : Session) (folder : Folder) → get (insert sessions other later) device ≡ Some found → IsNamed found folder → IsSharedBy new folder device
    named_by device found folder has named_too = cases (found_after_insert nat_cmp_total nat_cmp-IsAntisymmetric sessions other later device found has)
      where
        cases : ((device ≡ other) × (found ≡ later)) ⊎ ((eq_by_cmp nat_cmp device other ≡ false) × (get sessions device ≡ Some found)) → IsSharedBy new folder device
        cases (inl here) =
            subst (λ (one : Device). IsSharedBy new folder one) (sym here.0)
            (shared_framed old new framed folder other
            (cursors_shared old other (tables_in old) named empty shared (none_shared old other) folder
            (subst (λ (all : ByName Plan). IsSome (get all folder)) (ap (λ (s : Session). s.cursors) here.1 ∙ is) named_too)))
        cases (inr there) = shared_framed old new framed folder device (member.named device found folder there.1 named_too)

-- the session that is there
pub session_of : (found : Option Session) → IsSome found → (session : Session) × (found ≡ Some session)
session_of None none = absurd (cc)
session_of (Some session) some = (session, refl)
