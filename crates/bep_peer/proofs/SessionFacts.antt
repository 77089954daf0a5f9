-- A session that begins names no folder.
use Rattle.std.proofs.Common.{◌≡◌, ℕ, Option, Some, None, IsSome, sym, ap, subst, ◌∙◌, ⊎_elim}
use Rattle.std.specs.Ordering.{nat_cmp}
use Rattle.std.specs.Cmp.{nat_cmp_total}
use Rattle.std.specs.Cmp.Lexicographic.{slice_cmp}
use Rattle.std.specs.FinMap.{nat_cmp-IsAntisymmetric, empty, get, insert, get-empty}
use Rattle.bep_facts.specs.Maps.{found_after_insert, nothing_in_empty}
use Rattle.bep_map.specs.NameMap.{ByName}
use Rattle.bep_model.specs.Tables.{Device}
use Rattle.bep_machine.specs.Exchange.{IsNamed}
use Rattle.bep_machine.specs.Peer.{Session, new_session}
use Rattle.bep_machine.specs.Replica.{ByDevice}
use Rattle.bep_folder.specs.Held.{Held}
use Rattle.bep_peer.specs.Member.{NameShared}

-- without sessions nothing is named
pub none_named : (folders : ByName Held) (sessions : ByDevice Session) → sessions ≡ empty → NameShared folders sessions
none_named folders sessions none other session folder is named =
    nothing_in_empty nat_cmp other session (ap (λ (held : ByDevice Session). get held other) (sym none) ∙ is)

none_is_there : {A : Type 0} (found : Option A) → found ≡ None → IsSome found → ⊥
none_is_there None none has = absurd (cc)
none_is_there (Some one) none has = absurd (cc)

-- nor does a session that begins name a folder
new_names_none : (folders : ByName Held) (sessions : ByDevice Session) (to : Device) (epoch : ℕ) → NameShared folders sessions → NameShared folders (insert sessions to (new_session epoch))
new_names_none folders sessions to epoch shared other session folder is named =
    ⊎_elim
    (λ here. absurd (unnamed (subst (λ (s : Session). IsNamed s folder) here.1 named)))
    (λ apart. shared other session folder apart.1 named)
    (found_after_insert nat_cmp_total nat_cmp-IsAntisymmetric sessions to (new_session epoch) other session is)
  where
    unnamed : IsNamed (new_session epoch) folder → ⊥
    unnamed named = none_is_there (get (empty {R = slice_cmp nat_cmp}) folder) (get-empty (slice_cmp nat_cmp) folder) named

pub one_more_shared : (folders : ByName Held) (old new : ByDevice Session) (to : Device) (epoch : ℕ) → NameShared folders old → new ≡ insert old to (new_session epoch) → NameShared folders new
one_more_shared folders old new to epoch shared is = subst (NameShared folders) (sym is) (new_names_none folders old to epoch shared)
