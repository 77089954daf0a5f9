-- Lists of logs, and walks along them, as the check keeps them.
use Rattle.std.proofs.Common.{zero, suc, ◌≡◌, ◌≢◌, ◌↔◌, ◌<◌, ◌≤◌, ◌+◌, ◌==◌, ◌&&◌, ◌||◌, ◌∙◌, ℕ, Bool, true, false, cond, not, List, [], ◌∷◌, length, take, set, get_or, Option, Some, None, option_map, All, Contains, IsTrue, refl, sym, ap, subst, inl, inr, ⊎_elim, eqb-true, arith}
use Rattle.std.specs.List.{find, list_any}
use Rattle.std.proofs.lemmas.Bool.{eq-eqb, ne_eqb, cases_eq}
use Rattle.std.proofs.lemmas.List.{get_or-map, length-map, map-set}
use Rattle.std.proofs.lemmas.List.Elements.{All-cons, All-head, All-nil, All-tail}
use Rattle.bep_facts.specs.Members.{Contains-cons_cases, Contains-first, Contains-from_image, Contains-image, Contains-more, Contains-one, Contains-pair_cases, not_in_none}
use Rattle.bep_machine.specs.Halves as machine
use Rattle.bep_fit.specs.declared.object.Object.{Object}
use Rattle.bep_fit.specs.declared.object.Object.TheVariants as objects
use Rattle.bep_fit.specs.declared.stamped.Stamped.{Stamped}
use Rattle.bep_fit.specs.declared.verdict.RunVerdict.TheVariants.{Misfit}
use Rattle.bep_fit.specs.Fit.{AreOfOneRound, IsFirst, IsRunVerdict, first_round}
use Rattle.bep_fit.specs.Logs.{HasLog, ObjectLog, named_by, touches}
use Rattle.bep_fit.specs.Walk.{AgreesNext, ComesNext, IsAt, IsFirstAt, Left, after, past, start}
use Rattle.bep_run_check.specs.declared.guards.Guards.{Guards}
use Rattle.bep_run_check.specs.declared.rest.Rest.{Rest}
use Rattle.bep_run_check.specs.inner.Guards.{HaveLogs, is_same, meant}
use Rattle.bep_run_check.specs.inner.Rest.{Agrees, IsSomeAt, is_at, left_of, lefts, whole}
use Rattle.bep_run_check.proofs.ListDone.{all_done, changed_next, done}

-- ---- past a ticket

abbrev pub moved : ℕ → Left → Left
moved ticket one = record { log = one.log; events = past ticket one.events }

pub lefts_set : (walk : List Rest) (place : ℕ) (one : Rest) → lefts (set walk place one) ≡ set (lefts walk) place (left_of one)
lefts_set walk place one = map-set left_of walk place one

pub moved_next : (ticket : ℕ) (first all : List Rest) (place : ℕ) (one new : Rest) → place < length all → one ≡ get_or all place one → left_of new ≡ record { log = one.log.now; events = past ticket one.events.now } →
    lefts all ≡ done (moved ticket) place (lefts first) → lefts (set all place new) ≡ done (moved ticket) (place + 1) (lefts first)
moved_next ticket first all place one new below is changed before =
    lefts_set all place new
    ∙ changed_next (moved ticket) (lefts first) (lefts all) place (left_of one) (left_of new) (let long = length-map all left_of in omega (arith, long, below))
    (ap left_of is ∙ sym (get_or-map left_of all place one (left_of one) below)) changed before

pub all_moved : (ticket : ℕ) (first : List Rest) (place : ℕ) → length first ≤ place → done (moved ticket) place (lefts first) ≡ after ticket (lefts first)
all_moved ticket first place past_all = all_done (moved ticket) (lefts first) place (let long = length-map first left_of in omega (arith, long, past_all))

-- ---- the beginning

pub started_next : (walk : List Left) (logs : List ObjectLog) (place : ℕ) (log other : ObjectLog) → place < length walk → place < length logs → log ≡ get_or logs place other →
    take place walk ≡ start (take place logs) → take (suc place) (set walk place (whole log)) ≡ start (take (suc place) logs)
started_next [] logs place log other within there is before = absurd (omega (arith, within))
started_next (one ∷ walk) [] place log other within there is before = absurd (omega (arith, there))
started_next (one ∷ walk) (first ∷ logs) zero log other within there is before = ap (λ (l : ObjectLog). whole l ∷ []) is
started_next (one ∷ walk) (first ∷ logs) (suc place) log other within there is before =
    let head : one ≡ whole first = cc in
    let tail : take place walk ≡ start (take place logs) = cc in
    λ i. head i ∷ started_next walk logs place log other (omega (arith, within)) (omega (arith, there)) is tail i

pub lefts_take : (count : ℕ) (walk : List Rest) → lefts (take count walk) ≡ take count (lefts walk)
lefts_take zero walk = refl
lefts_take (suc count) [] = refl
lefts_take (suc count) (one ∷ more) = ap (λ ls. left_of one ∷ ls) (lefts_take count more)

-- ---- the first of a kind

module _ {X : Type 0} (p : X → Bool) where
  found_passes : (xs : List X) → find p xs ≡ None → (x : X) → Contains xs x → p x ≡ false
  found_passes [] none x there = absurd (not_in_none x there)
  found_passes (first ∷ more) none x there = cases (p first) refl none (λ rest later. found_passes more rest x later)
    where
      cases : (b : Bool) → p first ≡ b → cond b (Some first) (find p more) ≡ None → (find p more ≡ None → Contains more x → p x ≡ false) → p x ≡ false
      cases true is never each = absurd (cc)
      cases false is rest each = ⊎_elim (λ same. subst (λ z. p z ≡ false) same is) (λ later. each rest later) (Contains-cons_cases first more x there)

-- ---- rounds

abbrev pub other_round : ℕ → ObjectLog → Bool
other_round round log = not (log.round == round)

differs : (round : ℕ) (log : ObjectLog) → other_round round log ≡ true → log.round ≢ round
differs round log is same = let tied = eq-eqb log.round round same in let both : not true ≡ true = ap not (sym tied) ∙ is in absurd (cc)

is_equal : (round : ℕ) (log : ObjectLog) → other_round round log ≡ false → log.round ≡ round
is_equal round log is = ⊎_elim (λ same. same) (λ apart. let tied = ne_eqb log.round round apart in let both : not false ≡ false = ap not (sym tied) ∙ is in absurd (cc)) (cases_eq log.round round)

first_of_round : (round : ℕ) (logs : List ObjectLog) (log : ObjectLog) → find (other_round round) logs ≡ Some log → IsFirst (λ (one : ObjectLog). one.round ≢ round) logs log.object
first_of_round round [] log is = absurd (cc)
first_of_round round (first ∷ more) log found = cases (other_round round first) refl found (first_of_round round more log)
  where
    cases : (b : Bool) → other_round round first ≡ b → cond b (Some first) (find (other_round round) more) ≡ Some log → (find (other_round round) more ≡ Some log → IsFirst (λ (one : ObjectLog). one.round ≢ round) more log.object) → IsFirst (λ (one : ObjectLog). one.round ≢ round) (first ∷ more) log.object
    cases true is same later = let at : first ≡ log = cc in inl (differs round first is, ap (λ (l : ObjectLog). l.object) at)
    cases false is rest later = inr (λ other. other (is_equal round first is), later rest)

pub first_of_other : (logs : List ObjectLog) (log : ObjectLog) → Some log ≡ find (λ (one : ObjectLog). not (one.round == first_round logs)) logs → IsRunVerdict logs (Misfit log.object 0)
first_of_other logs log found = inl (record { first = first_of_round (first_round logs) logs log (sym found); zero = refl })

pub of_one_round : (logs : List ObjectLog) → None ≡ find (λ (one : ObjectLog). not (one.round == first_round logs)) logs → AreOfOneRound logs
of_one_round logs none log there = is_equal (first_round logs) log (found_passes (other_round (first_round logs)) logs (sym none) log there)

-- ---- where a ticket comes next

at_is : (ticket : ℕ) (events : List Stamped) → is_at ticket events ≡ true → IsAt ticket events
at_is ticket [] is = absurd (cc)
at_is ticket (next ∷ more) is = eqb-true next.ticket ticket is

is_not_at : (ticket : ℕ) (events : List Stamped) → is_at ticket events ≡ false → ¬ IsAt ticket events
is_not_at ticket [] is at = at
is_not_at ticket (next ∷ more) is at = let tied = eq-eqb next.ticket ticket at in let both : true ≡ false = sym tied ∙ is in absurd (cc)

abbrev pub passes_at : ℕ → Rest → Bool
passes_at ticket one = is_at ticket one.events.now

abbrev pub object_of : Rest → Object
object_of one = one.log.now.object

pub first_found : (ticket : ℕ) (walk : List Rest) (object : Object) → Some object ≡ option_map object_of (find (passes_at ticket) walk) → IsFirstAt ticket (lefts walk) object
first_found ticket [] object is = absurd (cc)
first_found ticket (first ∷ more) object found = cases (passes_at ticket first) refl found (first_found ticket more object)
  where
    cases : (b : Bool) → passes_at ticket first ≡ b → Some object ≡ option_map object_of (cond b (Some first) (find (passes_at ticket) more)) → (Some object ≡ option_map object_of (find (passes_at ticket) more) → IsFirstAt ticket (lefts more) object) → IsFirstAt ticket (lefts (first ∷ more)) object
    cases true is same later = let at : first.log.now.object ≡ object = cc in inl (at_is ticket first.events.now is, at)
    cases false is rest later = inr (is_not_at ticket first.events.now is, later rest)

pub some_found : (ticket : ℕ) (walk : List Rest) → None ≡ option_map object_of (find (passes_at ticket) walk) → ¬ IsSomeAt ticket (lefts walk)
some_found ticket walk none some =
    let from = Contains-from_image left_of walk some.0 some.1 in
    is_not_at ticket from.0.events.now (found_passes (passes_at ticket) walk (none_inside (find (passes_at ticket) walk) none) from.0 from.1) (subst (λ (l : Left). IsAt ticket l.events) (sym from.2) some.2)
  where
    none_inside : (o : Option Rest) → None ≡ option_map object_of o → o ≡ None
    none_inside None is = refl
    none_inside (Some one) is = absurd (cc)

-- ---- which objects have logs

same_is : (one other : Object) → is_same one other ≡ true → one ≡ other
same_is (objects.Device device) (objects.Device other) is = ap (λ d. objects.Device d) (sym (eqb-true other device is))
same_is (objects.Device device) (objects.Link low high) is = absurd (cc)
same_is (objects.Link lower upper) (objects.Device other) is = absurd (cc)
same_is (objects.Link lower upper) (objects.Link low high) is =
    let parts = both (low == lower) (high == upper) is in
    λ i. objects.Link (sym (eqb-true low lower parts.0) i) (sym (eqb-true high upper parts.1) i)
  where
    both : (a b : Bool) → (a && b) ≡ true → (a ≡ true) × (b ≡ true)
    both true b is = (refl, is)
    both false b is = absurd (cc)

is_itself : (object : Object) → is_same object object ≡ true
is_itself (objects.Device device) = eq-eqb device device refl
is_itself (objects.Link lower upper) = λ i. eq-eqb lower lower refl i && eq-eqb upper upper refl i

has_from : (logs : List ObjectLog) (object : Object) → list_any (λ (log : ObjectLog). is_same log.object object) logs ≡ true → HasLog logs object
has_from [] object is = absurd (cc)
has_from (log ∷ more) object found = cases (is_same log.object object) refl found (has_from more object)
  where
    cases : (b : Bool) → is_same log.object object ≡ b → (b || list_any (λ (one : ObjectLog). is_same one.object object) more) ≡ true → (list_any (λ (one : ObjectLog). is_same one.object object) more ≡ true → HasLog more object) → HasLog (log ∷ more) object
    cases true is any rest = (log, Contains-first log more, same_is log.object object is)
    cases false is any rest = let later = rest any in (later.0, Contains-more log more later.0 later.1, later.2)

from_has : (logs : List ObjectLog) (log : ObjectLog) → Contains logs log → list_any (λ (one : ObjectLog). is_same one.object log.object) logs ≡ true
from_has [] log there = absurd (not_in_none log there)
from_has (first ∷ more) log there =
    ⊎_elim
    (λ same. ap (λ b. b || list_any (λ (one : ObjectLog). is_same one.object log.object) more) (subst (λ (l : ObjectLog). is_same l.object log.object ≡ true) (sym same) (is_itself log.object)))
    (λ later. or_later (is_same first.object log.object) (from_has more log later))
    (Contains-cons_cases first more log there)
  where
    or_later : (b : Bool) {c : Bool} → c ≡ true → (b || c) ≡ true
    or_later true rest = refl
    or_later false rest = rest

pub has_is : (logs : List ObjectLog) (object : Object) (b : Bool) → b ≡ list_any (λ (log : ObjectLog). is_same log.object object) logs → IsTrue b ↔ HasLog logs object
has_is logs object b is = (
  λ yes. has_from logs object (sym is ∙ yes),
  λ has. is ∙ subst (λ (o : Object). list_any (λ (log : ObjectLog). is_same log.object o) logs ≡ true) has.2 (from_has logs has.0 has.1),
)

pub one_has : (logs : List ObjectLog) (object : Object) (b : Bool) → IsTrue b ↔ HasLog logs object → IsTrue b ↔ HaveLogs logs (object ∷ [])
one_has logs object b is = (
  λ yes named stands. subst (HasLog logs) (Contains-one object named stands) (is.0 yes),
  λ have. is.1 (have object (Contains-first object [])),
)

both_true : (a b r : Bool) → r ≡ (a && b) → IsTrue r ↔ (IsTrue a × IsTrue b)
both_true true b r is = (λ yes. (refl, sym is ∙ yes), λ both. is ∙ both.1)
both_true false b r is = (λ yes. let never : false ≡ true = sym is ∙ yes in absurd (cc), λ both. let never : false ≡ true = both.0 in absurd (cc))

pub two_have : (logs : List ObjectLog) (object other : Object) (a b : Bool) → IsTrue a ↔ HasLog logs object → IsTrue b ↔ HasLog logs other → (r : Bool) → r ≡ (a && b) → IsTrue r ↔ HaveLogs logs (object ∷ other ∷ [])
two_have logs object other a b one second r is =
    let both = both_true a b r is in (
      λ yes named stands.
          ⊎_elim
          (λ same. subst (HasLog logs) same (one.0 (both.0 yes).0))
          (λ same. subst (HasLog logs) same (second.0 (both.0 yes).1))
          (Contains-pair_cases object other named stands),
      λ have. both.1 (one.1 (have object (Contains-first object (other ∷ []))), second.1 (have other (Contains-more object (other ∷ []) other (Contains-first other [])))),
    )

-- ---- whether the next event agrees

each_of : (P : Rest → Type 0) (xs : List Rest) → All P xs → (x : Rest) → Contains xs x → P x
each_of P [] all x there = absurd (not_in_none x there)
each_of P (first ∷ more) all x there =
    ⊎_elim (λ same. subst P same (All-head P first more all)) (λ later. each_of P more (All-tail P first more all) x later) (Contains-cons_cases first more x there)

all_of : (P : Rest → Type 0) (xs : List Rest) → ((x : Rest) → Contains xs x → P x) → All P xs
all_of P [] each = All-nil P
all_of P (first ∷ more) each = All-cons P first more (each first (Contains-first first more)) (all_of P more (λ x later. each x (Contains-more first more x later)))

pub agrees_is : (logs : List ObjectLog) (walk : List Rest) (event : Stamped) (a b : Bool) → IsTrue a ↔ All (Agrees event) walk → (guards : Guards) → meant guards ≡ machine.guards_of event.event.step →
    IsTrue b ↔ HaveLogs logs (named_by (meant guards)) → (r : Bool) → r ≡ (a && b) → IsTrue r ↔ AgreesNext logs (lefts walk) event
agrees_is logs walk event a b agree guards held there r is =
    let both = both_true a b r is in (
      λ yes. record {
        next = λ one stands.
            let from = Contains-from_image left_of walk one stands in
            subst (λ (l : Left). ComesNext event (touches event l.log) l.events) from.2 (each_of (Agrees event) walk (agree.0 (both.0 yes).0) from.0 from.1);
        there = subst (λ g. HaveLogs logs (named_by g)) held (there.0 (both.0 yes).1);
      },
      λ agrees. both.1 (
        agree.1 (all_of (Agrees event) walk (λ one stands. agrees.next (left_of one) (Contains-image left_of walk one stands))),
        there.1 (subst (λ g. HaveLogs logs (named_by g)) (sym held) agrees.there),
      ),
    )
