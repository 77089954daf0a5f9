-- What holds of each folder and of each session of a device makes it sound.
use Rattle.std.proofs.Common.{◌≡◌, ◌≤◌, ◌==◌, ◌||◌, ◌∙◌, ℕ, Bool, true, false, List, [], ◌∷◌, Option, Some, None, Contains, IsSome, option_map, refl, ap, sym, subst, ⊎_elim, arith}
use Rattle.std.specs.Cmp.{nat_cmp_total}
use Rattle.std.specs.Cmp.Lexicographic.{nat_list_cmp_total}
use Rattle.std.specs.FinMap.{nat_cmp-IsAntisymmetric, entries, get, values}
use Rattle.std.specs.List.{AllByRecursion, list_any}
use Rattle.std.proofs.lemmas.Bool.Decides.{nat_tests}
use Rattle.std.proofs.lemmas.Map.Lookups.{exact_bytes}
use Rattle.bep_facts.specs.Entries.{entry_stands}
use Rattle.bep_facts.specs.Members.{not_in_none, Contains-cons_cases, Contains-image, holds_of_member}
use Rattle.bep_model.specs.Tables.{Device, Folder}
use Rattle.bep_machine.specs.Peer.{Session}
use Rattle.bep_machine.specs.Replica.{Replica}
use Rattle.bep_machine.specs.Sound.{IsSoundReplica, IsSoundSession}
use Rattle.bep_folder.specs.Held.{Held}
use Rattle.bep_peer.specs.Member.{Member, IsMember, tables_in, tables_of}
use Rattle.bep_peer.specs.Session.{IsSession}
use Rattle.bep_peer.specs.Sound.{IsSoundHeld, IsSoundMember}
use Rattle.bep_peer.proofs.SharingFacts.{shared_with, tables_at}

-- ---- folders

module _ (member : Member) (rules : IsMember member.number member.folders member.sessions member.linked) where
  held_found : AllByRecursion IsSoundHeld (entries member.folders) → (folder : Folder) (held : Held) → get member.folders folder ≡ Some held → IsSoundReplica member.number held.tables
  held_found all folder held is =
      subst (λ (device : Device). IsSoundReplica device held.tables) (rules.own folder held is).0
      (holds_of_member IsSoundHeld (entries member.folders) (folder, held) all ((entry_stands nat_list_cmp_total exact_bytes member.folders folder held).0 is))

  replica_found : AllByRecursion IsSoundHeld (entries member.folders) → (folder : Folder) (replica : Replica) → get (tables_in member.folders) folder ≡ Some replica → IsSoundReplica member.number replica
  replica_found all folder replica is = cases (get member.folders folder) refl (sym (tables_at member.folders folder) ∙ is)
    where
      cases : (found : Option Held) → get member.folders folder ≡ found → option_map (λ (held : Held). held.tables) found ≡ Some replica → IsSoundReplica member.number replica
      cases None none is = absurd (cc)
      cases (Some held) has is =
          let same : held.tables ≡ replica = cc in
          subst (IsSoundReplica member.number) same (held_found all folder held has)

  -- ---- sessions

  itself : (n : ℕ) → (n == n) ≡ true
  itself n = grind (arith, nat_tests)

  either_true : (b c : Bool) → c ≡ true → (b || c) ≡ true
  either_true true c is = refl
  either_true false c is = is

  among_is : (other : Device) (others : List Device) → Contains others other → list_any (λ one. one == other) others ≡ true
  among_is other [] stands = absurd (not_in_none other stands)
  among_is other (first ∷ others) stands =
      ⊎_elim
      (λ same. ap (λ (b : Bool). b || list_any (λ one. one == other) others) (ap (λ (n : ℕ). n == other) same ∙ itself other))
      (λ more. either_true (first == other) (list_any (λ one. one == other) others) (among_is other others more))
      (Contains-cons_cases first others other stands)

  some_is : {A : Type 0} (found : Option A) (one : A) → found ≡ Some one → IsSome found
  some_is None one is = absurd (cc)
  some_is (Some there) one is = refl

  session_found : AllByRecursion IsSession (values member.sessions) → (other : Device) (session : Session) → get member.sessions other ≡ Some session → IsSoundSession other (tables_of member) session
  session_found all other session is =
      let good =
      holds_of_member IsSession (values member.sessions) session all
      (Contains-image (λ (one : Device × Session). one.1) (entries member.sessions) (other, session) ((entry_stands nat_cmp_total nat_cmp-IsAntisymmetric member.sessions other session).0 is)) in
      record {
        named = λ folder cursor named.
            let shared = rules.named other session folder is (some_is (get session.cursors folder) cursor named) in
            shared_with member folder other shared.0 shared.1 (among_is other shared.0.tables.others shared.2);
        unnamed = good.unnamed;
        few = good.few;
      }

  -- ---- the device

  pub sound_member : 1 ≤ member.number → AllByRecursion IsSoundHeld (entries member.folders) → AllByRecursion IsSession (values member.sessions) → IsSoundMember member
  sound_member numbered folders sessions = record { numbered = numbered; replicas = replica_found folders; sessions = session_found sessions }
