-- What the entries of a cut add to what keeps it from being firm.
use Rattle.std.proofs.Common.{◌≡◌, ◌↔◌, Bool, List, [], ◌∷◌, ◌++◌, Contains, IsTrue, Some, None, map, refl, sym, ap, subst, ◌∙◌, inl, inr, ⊎_elim}
use Rattle.std.specs.Prelude.{if◌then◌else◌}
use Rattle.std.specs.declared.cmp.Ordering.TheVariants.{Less, Equal, Greater}
use Rattle.std.specs.Ordering.{nat_cmp}
use Rattle.bep_facts.specs.Decided.{OrNot}
use Rattle.bep_facts.specs.Members.{Contains-first, Contains-one, Contains-image, Contains-from_image}
use Rattle.bep_facts.specs.Orders.{order_cases, both_tied, Equal_from_same}
use Rattle.bep_model.specs.declared.firm_reason.FirmReason.{FirmReason}
use Rattle.bep_model.specs.declared.firm_reason.FirmReason.TheVariants.{VersionDiffers, ViewNotBelow, FlightNotBelow, PullNotBelow}
use Rattle.bep_model.specs.declared.row.Row.{Row}
use Rattle.bep_model.specs.FirmVerdict.{firm_number_of}
use Rattle.bep_model.specs.Reasons.{place_cmp}
use Rattle.bep_model.specs.Settled.{key_of}
use Rattle.bep_tables.specs.declared.table.entry.TableEntry.{TableEntry}
use Rattle.bep_tables.specs.Listed.{Holding, Record, Node, Listed, key_at, listed}
use Rattle.bep_audit.specs.Loose.{Loosening, loose_cmp, asked_by, place_at, loosening_at, loosening_of, AsksEntry, AsksEntries, MeetsFirm}
use Rattle.bep_audit.specs.LooseOrder.{loose_total}
use Rattle.bep_gather.specs.Adding.{AddsFailing, Each}
use Rattle.bep_explain.specs.inner.Rows.{row_shown, named_key}
use Rattle.bep_explain.specs.declared.rows.NamedRow.{NamedRow}
use Rattle.bep_gather.specs.AddFacts.{adds_none, adds_as, adds_unless}
use Rattle.bep_gather.specs.PlaceFacts.{same_number, same_place}

-- ---- only equal ones tie

same_reason : (one other : FirmReason) → firm_number_of one ≡ firm_number_of other → one ≡ other
same_reason VersionDiffers VersionDiffers e = refl
same_reason VersionDiffers ViewNotBelow e = absurd (cc)
same_reason VersionDiffers FlightNotBelow e = absurd (cc)
same_reason VersionDiffers PullNotBelow e = absurd (cc)
same_reason ViewNotBelow VersionDiffers e = absurd (cc)
same_reason ViewNotBelow ViewNotBelow e = refl
same_reason ViewNotBelow FlightNotBelow e = absurd (cc)
same_reason ViewNotBelow PullNotBelow e = absurd (cc)
same_reason FlightNotBelow VersionDiffers e = absurd (cc)
same_reason FlightNotBelow ViewNotBelow e = absurd (cc)
same_reason FlightNotBelow FlightNotBelow e = refl
same_reason FlightNotBelow PullNotBelow e = absurd (cc)
same_reason PullNotBelow VersionDiffers e = absurd (cc)
same_reason PullNotBelow ViewNotBelow e = absurd (cc)
same_reason PullNotBelow FlightNotBelow e = absurd (cc)
same_reason PullNotBelow PullNotBelow e = refl

pub loose_exact : (one other : Loosening) → loose_cmp one other ≡ Equal → one ≡ other
loose_exact one other tied =
    let both = both_tied (nat_cmp (firm_number_of one.reason) (firm_number_of other.reason)) (place_cmp one.place other.place) tied in
    let reason = same_reason one.reason other.reason (same_number (firm_number_of one.reason) (firm_number_of other.reason) both.0) in
    let place = same_place one.place other.place both.1 in
    λ i. record { reason = reason i; place = place i }

same_or_not : (one other : Loosening) → OrNot (one ≡ other)
same_or_not one other =
    ⊎_elim
    (λ less. inr (λ same. let e : Less ≡ Equal = sym less ∙ Equal_from_same loose_total one other same in cc))
    (⊎_elim
    (λ equal. inl (loose_exact one other equal))
    (λ greater. inr (λ same. let e : Greater ≡ Equal = sym greater ∙ Equal_from_same loose_total one other same in cc)))
    (order_cases (loose_cmp one other))

-- ---- one entry

module _ (rows : List Row) (one : Listed) where
  -- a node is asked nothing
  nothing_at : (holding : Holding) → one.holding ≡ holding → loosening_at one holding ≡ None → (loose : Loosening) → AsksEntry rows one loose
  nothing_at (Record source entry) is none = absurd (cc)
  nothing_at (Node node) is none = λ loose source entry row holding. let e : Node node ≡ Record source entry = sym is ∙ holding in absurd (cc)

  pub adds_nothing : None ≡ loosening_of one → (old : List Loosening) → AddsFailing (AsksEntry rows one) old old
  adds_nothing none old = adds_none (AsksEntry rows one) old (nothing_at one.holding refl (sym none))

  -- what it is asked is that it meets what it is asked at its one place
  asked_there : (first : Loosening) (holding : Holding) → one.holding ≡ holding → Some first ≡ loosening_at one holding → (loose : Loosening) → (loose ≡ first → MeetsFirm rows one) ↔ AsksEntry rows one loose
  asked_there first (Node node) is some = absurd (cc)
  asked_there first (Record source entry) is some = λ loose.
      let there : first ≡ record { reason = asked_by source; place = place_at one } = cc in (
        λ meets other found row holding reason place member key.
            let e : Record other found ≡ Record source entry = sym holding ∙ is in
            let same : other ≡ source = cc in
            let why : loose.reason ≡ asked_by source = reason ∙ ap asked_by same in
            let here : loose ≡ record { reason = asked_by source; place = place_at one } = λ i. record { reason = why i; place = place i } in
            meets (here ∙ sym there) other found row holding member key,
        λ asks here other found row holding member key.
            let e : Record other found ≡ Record source entry = sym holding ∙ is in
            let same : source ≡ other = cc in
            let at : loose ≡ record { reason = asked_by source; place = place_at one } = here ∙ there in
            asks other found row holding (ap (λ (l : Loosening). l.reason) at ∙ ap asked_by same) (ap (λ (l : Loosening). l.place) at) member key,
      )

  pub adds_one : (first : Loosening) → Some first ≡ loosening_of one → (holds : Bool) (old new : List Loosening) → IsTrue holds ↔ MeetsFirm rows one → new ≡ (if holds then old else old ++ first ∷ []) → AddsFailing (AsksEntry rows one) old new
  adds_one first some holds old new exactly is =
      adds_as (λ loose. loose ≡ first → MeetsFirm rows one) (AsksEntry rows one) old new (asked_there first one.holding refl some)
      (adds_unless first (MeetsFirm rows one) (λ loose. same_or_not loose first) holds old new exactly is)

  -- it is asked the same beside other rows that are the same
  pub same_asked : (others : List Row) → ((row : Row) → Contains others row ↔ Contains rows row) → (loose : Loosening) → AsksEntry others one loose ↔ AsksEntry rows one loose
  same_asked others same loose = (
    λ asks source entry row holding reason place member key. asks source entry row holding reason place ((same row).1 member) key,
    λ asks source entry row holding reason place member key. asks source entry row holding reason place ((same row).0 member) key,
  )

-- beside each of the rows about its name is beside all rows
pub each_is_all : (rows found : List NamedRow) (one : Listed) → ((lent : NamedRow) → Contains found lent ↔ (Contains rows lent × (named_key lent ≡ key_at one))) →
    ((lent : NamedRow) → Contains found lent → MeetsFirm (row_shown lent ∷ []) one) ↔ MeetsFirm (map row_shown rows) one
each_is_all rows found one exactly = (
  λ each source entry row holding member key.
      let image = Contains-from_image row_shown rows row member in
      let there = (exactly image.0).1 (image.1, ap key_of image.2 ∙ key) in
      each image.0 there source entry row holding (subst (λ (r : Row). Contains (row_shown image.0 ∷ []) r) image.2 (Contains-first (row_shown image.0) [])) key,
  λ meets lent there source entry row holding member key.
      let among = Contains-image row_shown rows lent ((exactly lent).0 there).0 in
      meets source entry row holding (subst (λ (r : Row). Contains (map row_shown rows) r) (Contains-one (row_shown lent) row member) among) key,
)

-- ---- all entries

pub entries_ask : (rows : List Row) (entries : List TableEntry) (loose : Loosening) → Each (λ (entry : TableEntry). AsksEntry rows (listed entry)) entries loose ↔ AsksEntries rows (map listed entries) loose
entries_ask rows entries loose = (
  λ each one member. let lent = Contains-from_image listed entries one member in subst (λ (o : Listed). AsksEntry rows o loose) lent.2 (each lent.0 lent.1),
  λ asks entry member. asks (listed entry) (Contains-image listed entries entry member),
)
