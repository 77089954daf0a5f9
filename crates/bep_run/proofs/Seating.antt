-- What a seat knows of a log stays true, as the log grows by an event that the seat tells of.
use Rattle.std.proofs.Common.{◌≡◌, ◌⊎◌, ◌++◌, ◌&&◌, ℕ, Bool, true, false, List, [], ◌∷◌, length, if◌then◌else◌, eqb, Option, Some, None, option_map, Contains, refl, sym, ap, subst, ◌∙◌, inl, inr, ⊎_elim, eq-eqb}
use Rattle.std.specs.Prelude.{IfSome, nat_lt}
use Rattle.std.specs.List.{slice_get}
use Rattle.std.proofs.lemmas.Bool.{eqb-true}
use Rattle.atomic_table.specs.Seated.{TableId}
use Rattle.bep_facts.specs.Members.{Contains-first, Contains-more, Contains-one, Contains-pair_cases}
use Rattle.bep_fit.specs.declared.object.Object.{Object}
use Rattle.bep_fit.specs.declared.object.Object.TheVariants as objects
use Rattle.bep_fit.specs.declared.stamped.Stamped.{Stamped}
use Rattle.bep_fit.specs.Logs.{link_of, named, named_by, touches_object}
use Rattle.bep_history.specs.Chair.{MayTell, MayTellBoth}
use Rattle.bep_history.specs.Parts.{is_about}
use Rattle.bep_history.specs.View.{AreOfTwo, HasRow, MayAdd, joined, row, row_with, told, view, with_ticket}
use Rattle.bep_history.specs.declared.view.View.{View}
use Rattle.bep_log.specs.History.{with_events}
use Rattle.bep_machine.specs.declared.logged.Logged.{Logged}
use Rattle.bep_machine.specs.Halves.{OfDevice, OfDeviceAndLink, OfLink, guards_of}
use Rattle.bep_run.specs.inner.Kept.{IsSeated, alone}

abbrev stamped : ℕ → Logged → Stamped
stamped ticket event = record { ticket = ticket; event = event }

-- ---- what is told of a log that grew

at_end : (log : List Stamped) (one : Stamped) → slice_get (log ++ one ∷ []) (length log) ≡ Some one
at_end [] one = refl
at_end (first ∷ more) one = at_end more one

none_past : (log : List Stamped) → slice_get log (length log) ≡ None
none_past [] = refl
none_past (first ∷ more) = none_past more

-- the event under its ticket, if there is one
abbrev pub told_of : ℕ → Option Logged → Option Stamped
told_of ticket event = option_map (stamped ticket) event

pub grown_by : (old new : List Stamped) (ticket : ℕ) (event : Option Logged) → new ≡ with_events old ticket event → slice_get new (length old) ≡ told_of ticket event
grown_by old new ticket None grown = ap (λ log. slice_get log (length old)) grown ∙ none_past old
grown_by old new ticket (Some event) grown = ap (λ log. slice_get log (length old)) grown ∙ at_end old (stamped ticket event)

-- ---- what an event touches and names

-- all that the event touches or names is this, and it touches it
pub record IsOf (object : Object) (one : Stamped) : Type 0 where
  pub about : is_about object one ≡ true
  pub touched : (other : Object) → is_about other one ≡ true → object ≡ other
  pub names : (other : Object) → Contains (named one) other → object ≡ other

never : {A : Type 0} → false ≡ true → A
never is = absurd (cc)

touched_by_device : (device : ℕ) (other : Object) → touches_object (OfDevice device) other ≡ true → objects.Device device ≡ other
touched_by_device device (objects.Device one) is = ap objects.Device (sym (eqb-true one device is))
touched_by_device device (objects.Link lower upper) is = never is

pub of_device : (device : ℕ) (one : Stamped) → guards_of one.event.step ≡ OfDevice device → IsOf (objects.Device device) one
of_device device one is = record {
  about = subst (λ g. touches_object g (objects.Device device) ≡ true) (sym is) (eq-eqb device device refl);
  touched = λ other touches. touched_by_device device other (subst (λ g. touches_object g other ≡ true) is touches);
  names = λ other stands. Contains-one (objects.Device device) other (subst (λ g. Contains (named_by g) other) is stands);
}

both_true : (a b : Bool) → (a && b) ≡ true → (a ≡ true) × (b ≡ true)
both_true true b is = (refl, is)
both_true false b is = never is

same_link : (lower upper a b : ℕ) → (eqb a lower && eqb b upper) ≡ true → objects.Link lower upper ≡ objects.Link a b
same_link lower upper a b is =
    let parts = both_true (eqb a lower) (eqb b upper) is in
    λ i. objects.Link (sym (eqb-true a lower parts.0) i) (sym (eqb-true b upper parts.1) i)

touched_by_link : (lower upper : ℕ) (other : Object) → touches_object (OfLink lower upper) other ≡ true → objects.Link lower upper ≡ other
touched_by_link lower upper (objects.Device one) is = never is
touched_by_link lower upper (objects.Link a b) is = same_link lower upper a b is

pub of_link : (lower upper : ℕ) (one : Stamped) → guards_of one.event.step ≡ OfLink lower upper → IsOf (objects.Link lower upper) one
of_link lower upper one is = record {
  about = subst (λ g. touches_object g (objects.Link lower upper) ≡ true) (sym is) (ap (λ b. b && eqb upper upper) (eq-eqb lower lower refl) ∙ eq-eqb upper upper refl);
  touched = λ other touches. touched_by_link lower upper other (subst (λ g. touches_object g other ≡ true) is touches);
  names = λ other stands. Contains-one (objects.Link lower upper) other (subst (λ g. Contains (named_by g) other) is stands);
}

-- ---- one seat

may_add : (objects : List Object) (object : Object) (log : List Stamped) (one : Stamped) → IsOf object one → MayAdd objects (view (row object log ∷ []) (one.ticket ∷ []) []) one
may_add objects object log one of = record {
  drawn = Contains-first one.ticket [];
  owned = λ other listed touches. (row object log, Contains-first (row object log) [], of.touched other touches);
  there = λ other stands. (row object log, Contains-first (row object log) [], of.names other stands);
}

row_told : (object : Object) (log : List Stamped) (one : Stamped) → is_about object one ≡ true → row_with one (row object log) ≡ row object (log ++ one ∷ [])
row_told object log one about = ap (λ (b : Bool). row object (if b then log ++ one ∷ [] else log)) about

-- the event of which a seat may tell that drew its ticket
pub may_tell : (table : Option TableId) (object : Object) (round : ℕ) (log : List Stamped) (ticket : ℕ) (event : Option Logged) (seat drawn : Option View) (said : Option Stamped) →
    IsSeated table object round log seat → drawn ≡ option_map (with_ticket ticket) seat → said ≡ told_of ticket event → IfSome event (λ one. IsOf object (stamped ticket one)) → MayTell drawn said
may_tell None object round log ticket event seat drawn said seated drew says of =
    subst (λ d. MayTell d said) (sym (drew ∙ ap (option_map (with_ticket ticket)) seated)) tt
may_tell (Some table) object round log ticket None seat drawn said seated drew says of =
    subst (λ d. MayTell d said) (sym (drew ∙ ap (option_map (with_ticket ticket)) seated.1)) (subst (λ s. MayTell (Some (view (row object log ∷ []) (ticket ∷ []) [])) s) (sym says) tt)
may_tell (Some table) object round log ticket (Some event) seat drawn said seated drew says of =
    subst (λ d. MayTell d said) (sym (drew ∙ ap (option_map (with_ticket ticket)) seated.1))
    (subst (λ s. MayTell (Some (view (row object log ∷ []) (ticket ∷ []) [])) s) (sym says) (λ listed. may_add listed object log (stamped ticket event) of))

-- ---- two seats

-- it touches a device and a link; all that it touches or names is one of them
pub record IsOfBoth (device link : Object) (one : Stamped) : Type 0 where
  pub about : is_about device one ≡ true
  pub about_link : is_about link one ≡ true
  pub touched : (other : Object) → is_about other one ≡ true → (device ≡ other) ⊎ (link ≡ other)
  pub names : (other : Object) → Contains (named one) other → (device ≡ other) ⊎ (link ≡ other)

module _ (device other lower upper : ℕ) where
  abbrev joins : ℕ → ℕ → Bool → Bool
  joins a b b' = if b' then (eqb a device && eqb b other) else (eqb a other && eqb b device)

  abbrev the_link : Bool → Object
  the_link b = if b then objects.Link device other else objects.Link other device

  joined_is : (b : Bool) (x y : ℕ) → joins x y b ≡ true → the_link b ≡ objects.Link x y
  joined_is true x y is = same_link device other x y is
  joined_is false x y is = same_link other device x y is

pub of_both : (number lower upper device other : ℕ) (one : Stamped) → guards_of one.event.step ≡ OfDeviceAndLink device other → is_about (objects.Device number) one ≡ true → is_about (objects.Link lower upper) one ≡ true → IsOfBoth (objects.Device number) (objects.Link lower upper) one
of_both number lower upper device other one is about about_link = record { about = about; about_link = about_link; touched = touched; names = names }
  where
    same : objects.Device device ≡ objects.Device number
    same = ap objects.Device (sym (eqb-true number device (subst (λ g. touches_object g (objects.Device number) ≡ true) is about)))

    link_is : the_link device other lower upper (nat_lt device other) ≡ objects.Link lower upper
    link_is = joined_is device other lower upper (nat_lt device other) lower upper (subst (λ g. touches_object g (objects.Link lower upper) ≡ true) is about_link)

    touched_as : (it : Object) → touches_object (OfDeviceAndLink device other) it ≡ true → (objects.Device number ≡ it) ⊎ (objects.Link lower upper ≡ it)
    touched_as (objects.Device x) touches = inl (sym same ∙ ap objects.Device (sym (eqb-true x device touches)))
    touched_as (objects.Link x y) touches = inr (sym link_is ∙ joined_is device other lower upper (nat_lt device other) x y touches)

    touched : (it : Object) → is_about it one ≡ true → (objects.Device number ≡ it) ⊎ (objects.Link lower upper ≡ it)
    touched it touches = touched_as it (subst (λ g. touches_object g it ≡ true) is touches)

    names : (it : Object) → Contains (named one) it → (objects.Device number ≡ it) ⊎ (objects.Link lower upper ≡ it)
    names it stands =
        ⊎_elim
        (λ first. inl (sym same ∙ first))
        (λ second. inr (sym link_is ∙ second))
        (Contains-pair_cases (objects.Device device) (link_of device other) it (subst (λ g. Contains (named_by g) it) is stands))

has_row_of : (device link : Object) (es fs : List Stamped) (it : Object) → (device ≡ it) ⊎ (link ≡ it) → HasRow (row link fs ∷ row device es ∷ []) it
has_row_of device link es fs it =
    ⊎_elim
    (λ is. (row device es, Contains-more (row link fs) (row device es ∷ []) (row device es) (Contains-first (row device es) []), is))
    (λ is. (row link fs, Contains-first (row link fs) (row device es ∷ []), is))

may_add_both : (listed : List Object) (device link : Object) (es fs : List Stamped) (one : Stamped) → IsOfBoth device link one → MayAdd listed (joined (view (row device es ∷ []) (one.ticket ∷ []) []) (alone link fs)) one
may_add_both listed device link es fs one of = record {
  drawn = Contains-first one.ticket [];
  owned = λ it stands touches. has_row_of device link es fs it (of.touched it touches);
  there = λ it stands. has_row_of device link es fs it (of.names it stands);
}

of_two : (device link : Object) (es fs : List Stamped) (ticket : ℕ) → AreOfTwo (view (row device es ∷ []) (ticket ∷ []) []) (alone link fs)
of_two device link es fs ticket = record { own = row device es; its = row link fs; own_rows = refl; its_rows = refl; own_claims = refl; its_claims = refl; its_drawn = refl }

pub may_tell_both : (table : Option TableId) (device link : Object) (round its_round : ℕ) (es fs : List Stamped) (ticket : ℕ) (event : Option Logged) (seat drawn its : Option View) (said : Option Stamped) →
    IsSeated table device round es seat → drawn ≡ option_map (with_ticket ticket) seat → IsSeated table link its_round fs its → said ≡ told_of ticket event → IfSome event (λ one. IsOfBoth device link (stamped ticket one)) → MayTellBoth drawn its said
may_tell_both None device link round its_round es fs ticket event seat drawn its said seated drew its_seated says of =
    subst (λ d. MayTellBoth d its said) (sym (drew ∙ ap (option_map (with_ticket ticket)) seated)) tt
may_tell_both (Some table) device link round its_round es fs ticket None seat drawn its said seated drew its_seated says of =
    subst (λ d. MayTellBoth d its said) (sym (drew ∙ ap (option_map (with_ticket ticket)) seated.1))
    (subst (λ i. MayTellBoth (Some (view (row device es ∷ []) (ticket ∷ []) [])) i said) (sym its_seated.1)
    (subst (λ s. MayTellBoth (Some (view (row device es ∷ []) (ticket ∷ []) [])) (Some (alone link fs)) s) (sym says) (of_two device link es fs ticket, tt)))
may_tell_both (Some table) device link round its_round es fs ticket (Some event) seat drawn its said seated drew its_seated says of =
    subst (λ d. MayTellBoth d its said) (sym (drew ∙ ap (option_map (with_ticket ticket)) seated.1))
    (subst (λ i. MayTellBoth (Some (view (row device es ∷ []) (ticket ∷ []) [])) i said) (sym its_seated.1)
    (subst (λ s. MayTellBoth (Some (view (row device es ∷ []) (ticket ∷ []) [])) (Some (alone link fs)) s) (sym says)
    (of_two device link es fs ticket, λ listed. may_add_both listed device link es fs (stamped ticket event) of)))

-- the seat whose object the event touches knows the log again; the other one drew no ticket
told_on_row : (object : Object) (log : List Stamped) (ticket : ℕ) (drawn : List ℕ) (event : Option Logged) → IfSome event (λ one. is_about object (stamped ticket one) ≡ true) →
    told (told_of ticket event) (view (row object log ∷ []) drawn []) ≡ alone object (with_events log ticket event)
told_on_row object log ticket drawn None about = refl
told_on_row object log ticket drawn (Some event) about = ap (λ r. view (r ∷ []) [] []) (row_told object log (stamped ticket event) about)

pub seated_about : (table : Option TableId) (object : Object) (round later : ℕ) (log new : List Stamped) (ticket : ℕ) (event : Option Logged) (seat drawn now : Option View) (said : Option Stamped) →
    IsSeated table object round log seat → drawn ≡ option_map (with_ticket ticket) seat → said ≡ told_of ticket event → IfSome event (λ one. is_about object (stamped ticket one) ≡ true) →
    now ≡ option_map (told said) drawn → new ≡ with_events log ticket event → later ≡ round → IsSeated table object later new now
seated_about None object round later log new ticket event seat drawn now said seated drew says about is grown same =
    is ∙ ap (option_map (told said)) (drew ∙ ap (option_map (with_ticket ticket)) seated)
seated_about (Some table) object round later log new ticket event seat drawn now said seated drew says about is grown same = (
  same ∙ seated.0,
  is ∙ ap (option_map (told said)) (drew ∙ ap (option_map (with_ticket ticket)) seated.1)
      ∙ ap (λ s. Some (told s (view (row object log ∷ []) (ticket ∷ []) []))) says
      ∙ ap Some (told_on_row object log ticket (ticket ∷ []) event about ∙ ap (alone object) (sym grown)),
)

pub seated_beside : (table : Option TableId) (object : Object) (round later : ℕ) (log new : List Stamped) (ticket : ℕ) (event : Option Logged) (seat now : Option View) (said : Option Stamped) →
    IsSeated table object round log seat → said ≡ told_of ticket event → IfSome event (λ one. is_about object (stamped ticket one) ≡ true) →
    now ≡ option_map (told said) seat → new ≡ with_events log ticket event → later ≡ round → IsSeated table object later new now
seated_beside None object round later log new ticket event seat now said seated says about is grown same = is ∙ ap (option_map (told said)) seated
seated_beside (Some table) object round later log new ticket event seat now said seated says about is grown same = (
  same ∙ seated.0,
  is ∙ ap (option_map (told said)) seated.1
      ∙ ap (λ s. Some (told s (alone object log))) says
      ∙ ap Some (told_on_row object log ticket [] event about ∙ ap (alone object) (sym grown)),
)
