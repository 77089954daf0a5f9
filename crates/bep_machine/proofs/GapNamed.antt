-- What a ClusterConfig that names each folder once does to the replica and to the cursor of one folder.
use Rattle.std.proofs.Common.{◌≡◌, ◌≢◌, List, [], ◌∷◌, Option, Some, None, Contains, refl, sym, ap, subst, ◌∙◌, ⊎_elim}
use Rattle.std.specs.Cmp.Lexicographic.{nat_list_cmp_total}
use Rattle.std.proofs.lemmas.Map.Lookups.{exact_bytes}
use Rattle.std.specs.FinMap.{get, insert}
use Rattle.bep_facts.specs.Maps.{get-insert_here, get-insert_apart}
use Rattle.bep_facts.specs.Members.{not_in_none, Contains-first, Contains-more, Contains-cons_cases}
use Rattle.bep_map.specs.NameMap.{ByName}
use Rattle.bep_index.specs.declared.send.Plan.{Plan}
use Rattle.bep_model.specs.Tables.{Device, Folder}
use Rattle.bep_machine.specs.declared.message.Announced.{Announced}
use Rattle.bep_machine.specs.Replica.{Replica, view_of, with_view}
use Rattle.bep_machine.specs.Peer.{Peer}
use Rattle.bep_machine.specs.Exchange.{SharesWith, NamesNot, NamesOnce, NamesShared, known_under, cursor_after, renewed, all_renewed, with_cursor, cursors_for}
use Rattle.bep_machine.proofs.ReplicaFacts.{same_name_or_not}
use Rattle.bep_machine.proofs.GapFlow.{EachSays}

-- how the folder is named, if it is
pub data Naming (folder : Folder) (named : List Announced) : Type 0 where
  Unnamed : NamesNot folder named → Naming folder named
  NamedBy : (one : Announced) → one.folder ≡ folder → Contains named one →
      ((other : Device) (replicas : ByName Replica) (replica : Replica) → get replicas folder ≡ Some replica → get (all_renewed other named replicas) folder ≡ Some (with_view replica other (known_under one.index_id (view_of replica other)))) →
      ((replicas : ByName Replica) (cursors : ByName Plan) (replica : Replica) → get replicas folder ≡ Some replica → get (cursors_for named replicas cursors) folder ≡ Some (cursor_after replica.index one.known_id one.known_sequence)) →
      Naming folder named

pub named_says : (folder : Folder) (Says : Announced → Type 0) (named : List Announced) (one : Announced) → Contains named one → one.folder ≡ folder → EachSays folder Says named → Says one
named_says folder Says [] one stands here says = absurd (not_in_none one stands)
named_says folder Says (first ∷ more) one stands here says =
    ⊎_elim
    (λ same. subst Says same (says.0 (ap (λ (a : Announced). a.folder) same ∙ here)))
    (λ later. named_says folder Says more one later here says.1)
    (Contains-cons_cases first more one stands)

-- a folder that is named is shared, where all are
pub shared_at : (other : Device) (peer : Peer) (named : List Announced) (one : Announced) → Contains named one → NamesShared other peer named → SharesWith other peer one.folder
shared_at other peer [] one stands shared = absurd (not_in_none one stands)
shared_at other peer (first ∷ more) one stands shared =
    ⊎_elim
    (λ same. subst (λ (a : Announced). SharesWith other peer a.folder) same shared.0)
    (λ later. shared_at other peer more one later shared.1)
    (Contains-cons_cases first more one stands)

-- ---- another folder is named

module _ (folder : Folder) (one : Announced) (apart : folder ≢ one.folder) where
  renewed_apart : (other : Device) (found : Option Replica) (replicas : ByName Replica) → get (renewed other one found replicas) folder ≡ get replicas folder
  renewed_apart other None replicas = refl
  renewed_apart other (Some replica) replicas = get-insert_apart nat_list_cmp_total exact_bytes replicas one.folder (with_view replica other (known_under one.index_id (view_of replica other))) folder apart

  cursor_apart : (found : Option Replica) (cursors : ByName Plan) → get (with_cursor one found cursors) folder ≡ get cursors folder
  cursor_apart None cursors = refl
  cursor_apart (Some replica) cursors = get-insert_apart nat_list_cmp_total exact_bytes cursors one.folder (cursor_after replica.index one.known_id one.known_sequence) folder apart

pub renewed_unnamed : (folder : Folder) (named : List Announced) → NamesNot folder named → (other : Device) (replicas : ByName Replica) → get (all_renewed other named replicas) folder ≡ get replicas folder
renewed_unnamed folder [] not other replicas = refl
renewed_unnamed folder (one ∷ more) not other replicas =
    renewed_unnamed folder more not.1 other (renewed other one (get replicas one.folder) replicas) ∙ renewed_apart folder one (λ same. not.0 (sym same)) other (get replicas one.folder) replicas

pub cursors_unnamed : (folder : Folder) (named : List Announced) → NamesNot folder named → (replicas : ByName Replica) (cursors : ByName Plan) → get (cursors_for named replicas cursors) folder ≡ get cursors folder
cursors_unnamed folder [] not replicas cursors = refl
cursors_unnamed folder (one ∷ more) not replicas cursors =
    cursors_unnamed folder more not.1 replicas (with_cursor one (get replicas one.folder) cursors) ∙ cursor_apart folder one (λ same. not.0 (sym same)) (get replicas one.folder) cursors

-- ---- the folder is named

module _ (folder : Folder) (one : Announced) (here : one.folder ≡ folder) where
  renewed_here : (other : Device) (found : Option Replica) (replicas : ByName Replica) (replica : Replica) → found ≡ Some replica → get (renewed other one found replicas) folder ≡ Some (with_view replica other (known_under one.index_id (view_of replica other)))
  renewed_here other found replicas replica is =
      ap (λ (o : Option Replica). get (renewed other one o replicas) folder) is
      ∙ ap (get (insert replicas one.folder (with_view replica other (known_under one.index_id (view_of replica other))))) (sym here)
      ∙ get-insert_here nat_list_cmp_total exact_bytes replicas one.folder (with_view replica other (known_under one.index_id (view_of replica other)))

  cursor_here : (found : Option Replica) (cursors : ByName Plan) (replica : Replica) → found ≡ Some replica → get (with_cursor one found cursors) folder ≡ Some (cursor_after replica.index one.known_id one.known_sequence)
  cursor_here found cursors replica is =
      ap (λ (o : Option Replica). get (with_cursor one o cursors) folder) is
      ∙ ap (get (insert cursors one.folder (cursor_after replica.index one.known_id one.known_sequence))) (sym here)
      ∙ get-insert_here nat_list_cmp_total exact_bytes cursors one.folder (cursor_after replica.index one.known_id one.known_sequence)

pub naming : (folder : Folder) (named : List Announced) → NamesOnce named → Naming folder named
naming folder [] once = Unnamed tt
naming folder (one ∷ more) once =
    ⊎_elim
    (λ here.
    let none = subst (λ (f : Folder). NamesNot f more) here once.0 in
    NamedBy one here
    (Contains-first one more)
    (λ other replicas replica is.
    renewed_unnamed folder more none other (renewed other one (get replicas one.folder) replicas)
    ∙ renewed_here folder one here other (get replicas one.folder) replicas replica (ap (get replicas) here ∙ is))
    (λ replicas cursors replica is.
    cursors_unnamed folder more none replicas (with_cursor one (get replicas one.folder) cursors)
    ∙ cursor_here folder one here (get replicas one.folder) cursors replica (ap (get replicas) here ∙ is)))
    (λ apart. later (naming folder more once.1) apart)
    (same_name_or_not one.folder folder)
  where
    later : Naming folder more → one.folder ≢ folder → Naming folder (one ∷ more)
    later (Unnamed none) apart = Unnamed (apart, none)
    later (NamedBy by here stands renews sets) apart =
        NamedBy by here
        (Contains-more one more by stands)
        (λ other replicas replica is.
        renews other (renewed other one (get replicas one.folder) replicas) replica
        (renewed_apart folder one (λ same. apart (sym same)) other (get replicas one.folder) replicas ∙ is))
        (λ replicas cursors replica is. sets replicas (with_cursor one (get replicas one.folder) cursors) replica is)
