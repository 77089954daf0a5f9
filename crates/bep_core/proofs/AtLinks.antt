-- A step of one link is a step of the whole cluster.
use Rattle.std.proofs.Common.{arith, ◌≡◌, ◌⊎◌, ◌<◌, ◌≤◌, ℕ, cond, nat_lt, true, false, Bool, List, length, get_or, Some, None, Result, Ok, Err, Contains, refl, sym, ap, subst, ◌∙◌, inl, inr}
use Rattle.std.specs.List.{find, position, position_or_len}
use Rattle.std.proofs.lemmas.Bool.Decides.{nat_tests}
use Rattle.std.proofs.lemmas.List.Folds.{find_at}
use Rattle.std.proofs.lemmas.List.Quantifiers.{position-Some}
use Rattle.std.specs.List.{slice_get}
use Rattle.std.proofs.lemmas.Option.{slice_get-get_or, slice_get_past}
use Rattle.bep_model.specs.Tables.{Device}
use Rattle.bep_machine.specs.declared.moved.Moved.{Moved}
use Rattle.bep_machine.specs.declared.refusal.Refusal.TheVariants.{NotShared}
use Rattle.bep_machine.specs.Answer.{Answer, Done, OutOfMemory, Refused as Refuses, Row, becomes, ◌answers◌when◌else◌}
use Rattle.bep_machine.specs.Cluster.{Cluster}
use Rattle.bep_machine.specs.Link.{Link}
use Rattle.bep_machine.specs.Steps.{AtLink}
use Rattle.bep_links.specs.Link.{LinkBetween}
use Rattle.bep_core.specs.declared.why.Why.{Why}
use Rattle.bep_core.specs.declared.why.Why.TheVariants.{Refused, ConfigBad, Memory}
use Rattle.bep_peer.specs.network.Network.{Network, is_between as joins, cluster_of, between_at, ends_of, link_of}
use Rattle.bep_core.specs.Why.{Gives}
use Rattle.bep_core.proofs.Lift.{ReplacesLink, with_between, one_link, joins_ends, found_joins, none_joins}

-- ---- the first that passes a test

past_end : (place end : ℕ) → nat_lt place end ≡ false → end ≤ place
past_end place end h = grind (arith, nat_tests)

pub first_found : {X : Type 0} (p : X → Bool) (xs : List X) (place : ℕ) (d : X) → position p xs ≡ Some place → (place ≡ position_or_len p xs) × (place < length xs) × (find p xs ≡ Some (get_or xs place d))
first_found p xs place d is = cases (nat_lt (position_or_len p xs) (length xs)) refl is
  where
    there : place < length xs
    there = (position-Some p xs place d is).0

    found : place ≡ position_or_len p xs → (place ≡ position_or_len p xs) × (place < length xs) × (find p xs ≡ Some (get_or xs place d))
    found same = (same, there, find_at p xs ∙ ap (slice_get xs) (sym same) ∙ slice_get-get_or xs place d there)

    cases : (b : Bool) → nat_lt (position_or_len p xs) (length xs) ≡ b → cond b (Some (position_or_len p xs)) None ≡ Some place → (place ≡ position_or_len p xs) × (place < length xs) × (find p xs ≡ Some (get_or xs place d))
    cases true less e = found cc
    cases false past e = absurd (cc)

pub none_found : {X : Type 0} (p : X → Bool) (xs : List X) → position p xs ≡ None → find p xs ≡ None
none_found p xs is = cases (nat_lt (position_or_len p xs) (length xs)) refl is
  where
    cases : (b : Bool) → nat_lt (position_or_len p xs) (length xs) ≡ b → cond b (Some (position_or_len p xs)) None ≡ None → find p xs ≡ None
    cases true less e = absurd (cc)
    cases false past e = find_at p xs ∙ slice_get_past xs (position_or_len p xs) (past_end (position_or_len p xs) (length xs) past)

-- the link at the place where the search found it
pub replaces_link : (links : List LinkBetween) (lower upper : Device) (place : ℕ) (was after : LinkBetween) → position (joins lower upper) links ≡ Some place → was ≡ get_or links place was → after.ends ≡ was.ends → ReplacesLink links lower upper place was after
replaces_link links lower upper place was after is value same =
    let first = first_found (joins lower upper) links place was is in
    record {
      first = first.0;
      there = first.1;
      is = sym value;
      found = first.2 ∙ ap Some (sym value);
      ends = joins_ends lower upper was (ap (joins lower upper) value ∙ (position-Some (joins lower upper) links place was is).1);
      same = same;
    }

-- ---- what is answered

pub passed : {S T : Type 0} (row : Row S) (new : S) (other : Row T) (later : T) → ((answer : Answer) → row new answer → other later answer) → (result : Result Moved Why) → Gives row new result → Gives other later result
passed row new other later on (Ok moved) is = on (Done moved) is
passed row new other later on (Err (Refused refusal)) is = on (Refuses refusal) is
passed row new other later on (Err ConfigBad) is = is
passed row new other later on (Err Memory) is = on OutOfMemory is

-- a step that takes no memory, where `there` is all that it names, and the row that it makes
abbrev pub FirmStepOf : Type 0 → Row Cluster → Cluster → Row Cluster
FirmStepOf there row old new answer = (⊥ × becomes old OutOfMemory new answer) ⊎ (old answers Refuses NotShared when ¬ there else row) new answer

module _ (network : Network) (lower upper : Device) (row : Link → Row Link) where
  pub at_link : (place : ℕ) (was after : LinkBetween) → ReplacesLink network.links lower upper place was after → (answer : Answer) → row was.link after.link answer →
      FirmStepOf (Contains (ends_of network.links) (lower, upper)) (AtLink lower upper row (cluster_of network)) (cluster_of network) (cluster_of (with_between network place after)) answer
  at_link place was after l answer made =
      inr (inr (
        λ absent. absent (found_joins lower upper network.links was l.found),
        (
          after.link,
          subst (λ (link : Link). row link after.link answer) (sym (ap link_of l.found)) made,
          one_link network lower upper place was after l,
        ),
      ))

  pub no_link : between_at network.links lower upper ≡ None →
      FirmStepOf (Contains (ends_of network.links) (lower, upper)) (AtLink lower upper row (cluster_of network)) (cluster_of network) (cluster_of network) (Refuses NotShared)
  no_link none = inr (inl (none_joins lower upper network.links none, (refl, refl)))
