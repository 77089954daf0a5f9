-- A ClusterConfig that is taken, and one that names a folder twice.
use Rattle.std.proofs.Common.{◌≡◌, ◌≢◌, ◌≤◌, ◌==◌, ◌&&◌, ◌++◌, ℕ, nat_le, Bool, true, false, List, [], ◌∷◌, Some, None, Contains, if◌then◌else◌, refl, sym, ap, ◌∙◌, inl, ⊎_elim, arith}
use Rattle.std.proofs.lemmas.Bool.Decides.{nat_tests}
use Rattle.std.specs.Cmp.{nat_cmp_total}
use Rattle.std.specs.Cmp.Lexicographic.{slice_cmp}
use Rattle.std.specs.Ordering.{nat_cmp}
use Rattle.std.specs.FinMap.{empty, get, get-empty, nat_cmp-IsAntisymmetric}
use Rattle.bep_facts.specs.Maps.{get-insert_here}
use Rattle.bep_facts.specs.Members.{not_in_none, Contains-cons_cases}
use Rattle.bep_index.specs.declared.send.Plan.{Plan}
use Rattle.bep_index.specs.declared.send.Plan.TheVariants.{Full, Above}
use Rattle.bep_index.specs.Listing.{Listing}
use Rattle.bep_index.specs.Index.{IsPoint}
use Rattle.bep_model.specs.Tables.{Device, Folder}
use Rattle.bep_machine.specs.declared.message.Announced.{Announced}
use Rattle.bep_machine.specs.declared.message.Message.TheVariants as messages
use Rattle.bep_machine.specs.declared.moved.Moved.TheVariants.{Changed}
use Rattle.bep_machine.specs.Answer.{Done}
use Rattle.bep_machine.specs.Replica.{Replica, view_of, with_view}
use Rattle.bep_machine.specs.Peer.{Session, Peer}
use Rattle.bep_machine.specs.Exchange.{NamesNot, NamesOnce, known_under, cursor_after, all_renewed, cursors_for, configured_by, taken_by}
use Rattle.bep_machine.specs.LinkEffects.{IsConfigured, ConfigIsTaken, TwiceLosesLink}
use Rattle.bep_machine.proofs.GapNamed.{Naming, Unnamed, NamedBy, naming, renewed_unnamed, cursors_unnamed}
use Rattle.bep_machine.proofs.ViewFacts.{known_same, known_other, view_here}
use Rattle.bep_machine.proofs.TakingFacts.{bad_config_loses, delivers}

-- ---- folders that are named twice

once_at_end : (front rest : List Announced) → NamesOnce (front ++ rest) → NamesOnce rest
once_at_end [] rest once = once
once_at_end (first ∷ front) rest once = once_at_end front rest once.1

not_at_end : (folder : Folder) (front back : List Announced) (again : Announced) → NamesNot folder (front ++ (again ∷ back)) → again.folder ≢ folder
not_at_end folder [] back again not = not.0
not_at_end folder (first ∷ front) back again not = not_at_end folder front back again not.1

pub twice_loses_link : TwiceLosesLink
twice_loses_link other failed sight old session front middle back one again taking same =
    bad_config_loses other failed sight old session (front ++ (one ∷ (middle ++ (again ∷ back)))) taking
    (λ good. not_at_end one.folder middle back again (once_at_end front (one ∷ (middle ++ (again ∷ back))) good.once).0 same)

-- ---- folders that are named once

not_named : (folder : Folder) (named : List Announced) (one : Announced) → Contains named one → NamesNot folder named → one.folder ≢ folder
not_named folder [] one stands not = absurd (not_in_none one stands)
not_named folder (first ∷ more) one stands not =
    ⊎_elim
    (λ here same. not.0 (ap (λ (a : Announced). a.folder) here ∙ same))
    (λ later. not_named folder more one later not.1)
    (Contains-cons_cases first more one stands)

same_naming : (named : List Announced) (one other : Announced) → NamesOnce named → Contains named one → Contains named other → one.folder ≡ other.folder → one ≡ other
same_naming [] one other once stands stands_too same = absurd (not_in_none one stands)
same_naming (first ∷ more) one other once stands stands_too same =
    ⊎_elim
    (λ here.
    ⊎_elim
    (λ here_too. sym here ∙ here_too)
    (λ later_too. absurd (not_named first.folder more other later_too once.0 (sym same ∙ sym (ap (λ (a : Announced). a.folder) here))))
    (Contains-cons_cases first more other stands_too))
    (λ later.
    ⊎_elim
    (λ here_too. absurd (not_named first.folder more one later once.0 (same ∙ sym (ap (λ (a : Announced). a.folder) here_too))))
    (λ later_too. same_naming more one other once.1 later later_too same)
    (Contains-cons_cases first more other stands_too))
    (Contains-cons_cases first more one stands)

-- ---- cursors

cursor_on : (index : Listing) (id sequence : ℕ) → IsPoint index id sequence → cursor_after index id sequence ≡ Above sequence
cursor_on index id sequence point = by_test ((index.id == id) && (nat_le 1 sequence && nat_le sequence index.sequence)) refl
  where
    by_test : (b : Bool) → ((index.id == id) && (nat_le 1 sequence && nat_le sequence index.sequence)) ≡ b → (if b then Above sequence else Full) ≡ Above sequence
    by_test true is = refl
    by_test false is =
        let same = point.same_index in
        let not_zero = point.not_zero in
        let given = point.given in
        absurd (grind (arith, nat_tests))

cursor_anew : (index : Listing) (id sequence : ℕ) → ¬ IsPoint index id sequence → cursor_after index id sequence ≡ Full
cursor_anew index id sequence none = by_test ((index.id == id) && (nat_le 1 sequence && nat_le sequence index.sequence)) refl
  where
    by_test : (b : Bool) → ((index.id == id) && (nat_le 1 sequence && nat_le sequence index.sequence)) ≡ b → (if b then Above sequence else Full) ≡ Full
    by_test true is =
        let same : id ≡ index.id = grind (arith, nat_tests) in
        let not_zero : 1 ≤ sequence = grind (arith, nat_tests) in
        let given : sequence ≤ index.sequence = grind (arith, nat_tests) in
        absurd (none (record { same_index = same; not_zero = not_zero; given = given }))
    by_test false is = refl

-- ---- the whole

module _ (other : Device) (old : Peer) (session : Session) (named : List Announced) (once : NamesOnce named) where
  abbrev next : Session
  next = record session { configured = true; cursors = cursors_for named old.replicas empty }

  named_is_configured : (one : Announced) (replica : Replica) → Contains named one → get old.replicas one.folder ≡ Some replica →
      (later : Replica) × (get (all_renewed other named old.replicas) one.folder ≡ Some later) × IsConfigured other one replica later next
  named_is_configured one replica stands there = by_naming (naming one.folder named once)
    where
      configured : (view : Listing) → view ≡ known_under one.index_id (view_of replica other) → get next.cursors one.folder ≡ Some (cursor_after replica.index one.known_id one.known_sequence) → IsConfigured other one replica (with_view replica other view) next
      configured view is cursor = record {
        index = refl;
        store = refl;
        pulls = refl;
        known = λ same. view_here replica other view ∙ is ∙ known_same one.index_id (view_of replica other) same;
        unknown = λ apart. view_here replica other view ∙ is ∙ known_other one.index_id (view_of replica other) apart;
        goes_on = λ point. cursor ∙ ap (λ (plan : Plan). Some plan) (cursor_on replica.index one.known_id one.known_sequence point);
        anew = λ none. cursor ∙ ap (λ (plan : Plan). Some plan) (cursor_anew replica.index one.known_id one.known_sequence none);
      }

      by_naming : Naming one.folder named → (later : Replica) × (get (all_renewed other named old.replicas) one.folder ≡ Some later) × IsConfigured other one replica later next
      by_naming (Unnamed none) = absurd (not_named one.folder named one stands none refl)
      by_naming (NamedBy by here by_stands renews sets) =
          let same = same_naming named by one once by_stands stands here in (
            with_view replica other (known_under by.index_id (view_of replica other)),
            renews other old.replicas replica there,
            configured (known_under by.index_id (view_of replica other))
                (ap (λ (a : Announced). known_under a.index_id (view_of replica other)) same)
                (sets old.replicas empty replica there ∙ ap (λ (a : Announced). Some (cursor_after replica.index a.known_id a.known_sequence)) same),
          )

  unnamed_stays : (folder : Folder) → NamesNot folder named → (get next.cursors folder ≡ None) × (get (all_renewed other named old.replicas) folder ≡ get old.replicas folder)
  unnamed_stays folder not = (
    cursors_unnamed folder named not old.replicas empty ∙ get-empty {X = Plan} (slice_cmp nat_cmp) folder,
    renewed_unnamed folder named not other old.replicas,
  )

pub config_is_taken : ConfigIsTaken
config_is_taken other failed sight old session named taking fresh once shared = (
  taken_by (configured_by other session named old),
  next other old session named once,
  delivers other failed sight old session (messages.ClusterConfig named) taking _ (Done Changed) (inl (record { first = fresh; once = once; shared = shared }, (refl, refl))),
  refl,
  refl,
  get-insert_here nat_cmp_total nat_cmp-IsAntisymmetric old.sessions other (next other old session named once),
  refl,
  refl,
  named_is_configured other old session named once,
  unnamed_stays other old session named once,
)
