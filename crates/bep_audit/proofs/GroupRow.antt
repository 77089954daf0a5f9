-- The least failure at one name, which has a row or none.
use Rattle.std.proofs.Common.{◌≡◌, ◌⊎◌, ◌≤◌, ◌<◌, ◌+◌, ℕ, List, [], ◌∷◌, Contains, length, get_or, Option, Some, None, refl, sym, ap, subst, ◌∙◌, inl, inr, ⊎_elim, arith}
use Rattle.std.proofs.lemmas.Bool.{cases_eq}
use Rattle.std.specs.declared.cmp.Ordering.{Ordering}
use Rattle.std.specs.declared.cmp.Ordering.TheVariants.{Less, Equal, Greater}
use Rattle.std.specs.Ordering.{nat_cmp, ordering_then}
use Rattle.std.proofs.lemmas.Cmp.{ranked}
use Rattle.bep_facts.specs.Members.{Contains-first, not_in_none}
use Rattle.bep_model.specs.declared.row.Row.{Row}
use Rattle.bep_model.specs.declared.reason.Reason.{Reason}
use Rattle.bep_model.specs.declared.reason.Reason.TheVariants.{CertificateOrder, NameMissing, NameUnknown, NotWinner}
use Rattle.bep_model.specs.Tables.{Tables, Device, Folder, FileName}
use Rattle.bep_model.specs.Foreign.{IsKnown}
use Rattle.bep_model.specs.Settled.{key_of}
use Rattle.bep_model.specs.Reasons.{Place, place_cmp, device_rank, Asks, AsksAt}
use Rattle.bep_model.specs.Verdict.{number_of}
use Rattle.bep_model.specs.Laws.{NumbersAreWithin, NumbersDiffer}
use Rattle.bep_audit.specs.inner.Search.{FindsFailing}
use Rattle.bep_audit.specs.Walk.{Failure, failure_cmp}
use Rattle.bep_audit.specs.inner.Walk.{key_in, FindsLeast, FindsHere}
use Rattle.bep_audit.proofs.SearchFacts.{finds_as}
use Rattle.bep_audit.proofs.AskedAtRow.{IsOfRows, asked_if_here}
use Rattle.bep_audit.proofs.RowWalk.{device_before}
use Rattle.bep_audit.proofs.ReasonWalk.{reason_at, number_of_reason_at}

-- what is less by one order and then another
then_less : (o p : Ordering) → ordering_then o p ≡ Less → (o ≡ Less) ⊎ ((o ≡ Equal) × (p ≡ Less))
then_less Less p e = inl refl
then_less Equal p e = inr (refl, e)
then_less Greater p e = absurd (cc)

-- a lesser failure is of a lesser reason, or of one with the same number at an earlier place
pub less_failure : (one other : Failure) → failure_cmp one other ≡ Less → (number_of one.reason < number_of other.reason) ⊎ ((number_of one.reason ≡ number_of other.reason) × (place_cmp one.place other.place ≡ Less))
less_failure one other less =
    ⊎_elim
    (λ lesser. inl (ranked (number_of one.reason) (number_of other.reason) Less (sym lesser)))
    (λ same. inr (ranked (number_of one.reason) (number_of other.reason) Equal (sym same.0), same.1))
    (then_less (nat_cmp (number_of one.reason) (number_of other.reason)) (place_cmp one.place other.place) less)

-- ---- a name with its row
module _ (t : Tables) (row : Row) where
  -- what a reason asks at the row's name
  abbrev pub AsksHere : Reason → Place → Type 0
  AsksHere reason place = key_in place ≡ key_of row → Asks t (row ∷ []) reason place

  -- what is found anywhere is found at the row's name
  pub finds_here : (reason : Reason) → IsOfRows reason → (found : Option Place) → FindsFailing t (row ∷ []) reason found → FindsHere t row reason found
  finds_here reason of_rows =
      finds_as place_cmp (Asks t (row ∷ []) reason) (AsksHere reason) (λ place asked here. asked)
      (λ place asked. asked_if_here t reason row place of_rows (λ here. asked (sym here)))

  -- one row is in order, and its name has a row
  pub order_holds : FindsHere t row CertificateOrder None
  order_holds place here = holds place.folder place.name place.device where
    holds : (folder : Folder) (name : FileName) (device : Option Device) → AsksAt t (row ∷ []) CertificateOrder folder name device
    holds folder name None = λ disordered. absurd (cc)
    holds folder name (Some device) = λ one member key shares. tt

  pub missing_holds : FindsHere t row NameMissing None
  missing_holds place here = holds place.folder place.name place.device here where
    holds : (folder : Folder) (name : FileName) (device : Option Device) → (folder, name) ≡ key_of row → AsksAt t (row ∷ []) NameMissing folder name device
    holds folder name None same = λ known. (row, Contains-first row [], sym same)
    holds folder name (Some device) same = λ one member key shares. tt

  -- none of the reasons before this place fails at the row's name
  pub record HoldHere (place : ℕ) : Type 0 where
    pub holds : (lesser : Reason) (any : Place) → number_of lesser ≤ place → AsksHere lesser any

  pub here_starts : NumbersAreWithin → HoldHere 0
  here_starts within = record { holds = λ lesser any below. let positive = (within lesser).0 in absurd (omega (arith, positive)) }

  pub here_goes_on : NumbersDiffer → (place : ℕ) → place < 12 → HoldHere place → FindsHere t row (reason_at place) None → HoldHere (place + 1)
  here_goes_on different place below before here = record {
    holds = λ lesser any up_to.
        ⊎_elim
        (λ same. subst (λ reason. AsksHere reason any) (sym (different lesser (reason_at place) (same ∙ sym (number_of_reason_at place below)))) (here any))
        (λ differs. before.holds lesser any (omega arith))
        (cases_eq (number_of lesser) (place + 1));
  }

  pub here_fails : NumbersDiffer → (place : ℕ) → place < 12 → HoldHere place → (spot : Place) → FindsHere t row (reason_at place) (Some spot) → FindsLeast t (row ∷ []) (λ key. key ≡ key_of row) (Some (record { reason = reason_at place; place = spot }))
  here_fails different place below before spot first = record {
    fails = first.fails;
    before = λ earlier less.
        ⊎_elim
        (λ lesser. before.holds earlier.reason earlier.place (let number = number_of_reason_at place below in omega (arith, number, lesser)))
        (λ same. subst (λ reason. AsksHere reason earlier.place) (sym (different earlier.reason (reason_at place) same.0)) (first.before earlier.place same.1))
        (less_failure earlier (record { reason = reason_at place; place = spot }) less);
  }

  pub here_ends : NumbersAreWithin → (place : ℕ) → 12 ≤ place → HoldHere place → FindsLeast t (row ∷ []) (λ key. key ≡ key_of row) None
  here_ends within place past before one = before.holds one.reason one.place (let up_to = (within one.reason).1 in omega (arith, up_to))

-- ---- a name without a row
module _ (t : Tables) where
  -- where there are no rows all holds, but that a known name has one
  without_rows : (reason : Reason) (folder : Folder) (name : FileName) (device : Option Device) → (reason ≡ NameMissing → device ≡ None → ¬ IsKnown t folder name) → AsksAt t [] reason folder name device
  without_rows CertificateOrder folder name None unknown = λ disordered. absurd (cc)
  without_rows NameMissing folder name None unknown = λ known. absurd (unknown refl refl known)
  without_rows NameUnknown folder name None unknown = λ has. absurd (not_in_none has.0 has.1)
  without_rows NotWinner folder name None unknown = λ row member. absurd (not_in_none row member)
  without_rows _ folder name None unknown = tt
  without_rows reason folder name (Some device) unknown = λ row member. absurd (not_in_none row member)

  pub unknown_holds : (key : Folder × FileName) → ¬ IsKnown t key.0 key.1 → FindsLeast t [] (λ other. other ≡ key) None
  unknown_holds key unknown one here =
      without_rows one.reason one.place.folder one.place.name one.place.device (λ _ _ known. unknown (subst (λ (k : Folder × FileName). IsKnown t k.0 k.1) here known))

  pub known_fails : (key : Folder × FileName) → IsKnown t key.0 key.1 → FindsLeast t [] (λ other. other ≡ key) (Some (record { reason = NameMissing; place = record { folder = key.0; name = key.1; device = None } }))
  known_fails key known = record {
    fails = λ asked. let has = asked refl known in absurd (not_in_none has.0 has.1);
    before = λ earlier less here. without_rows earlier.reason earlier.place.folder earlier.place.name earlier.place.device (λ same none _. is_first earlier less here same none);
  }
    where
      is_first : (earlier : Failure) → failure_cmp earlier (record { reason = NameMissing; place = record { folder = key.0; name = key.1; device = None } }) ≡ Less → key_in earlier.place ≡ key → earlier.reason ≡ NameMissing → earlier.place.device ≡ None → ⊥
      is_first earlier less here same none =
          let number : number_of earlier.reason ≡ 2 = ap number_of same in
          ⊎_elim
          (λ lesser. absurd (omega (arith, number, lesser)))
          (λ place.
          let rank = device_before earlier.place (record { folder = key.0; name = key.1; device = None }) here place.1 in
          let zero : device_rank earlier.place.device ≡ 0 = ap device_rank none in
          absurd (omega (arith, rank, zero)))
          (less_failure earlier (record { reason = NameMissing; place = record { folder = key.0; name = key.1; device = None } }) less)

-- ---- one row or none
pub none_is : (rows : List Row) → length rows < 1 → rows ≡ []
none_is [] few = refl
none_is (row ∷ rows) few = absurd (omega (arith, few))

pub one_is : (rows : List Row) (row : Row) → 1 ≤ length rows → length rows ≤ 1 → row ≡ get_or rows 0 row → rows ≡ row ∷ []
one_is [] row some few is = absurd (omega (arith, some))
one_is (first ∷ []) row some few is = ap (λ (r : Row). r ∷ []) (sym is)
one_is (first ∷ next ∷ more) row some few is = absurd (omega (arith, few))

pub one_member : (rows : List Row) (row : Row) → rows ≡ row ∷ [] → Contains rows row
one_member rows row is = subst (λ (all : List Row). Contains all row) (sym is) (Contains-first row [])
