-- What is found at one row: of its name as a whole, and of the devices.
use Rattle.std.proofs.Common.{◌≡◌, ◌↔◌, ◌<◌, ℕ, Bool, true, false, true≢false, List, [], ◌∷◌, Option, Some, None, IsTrue, refl, sym, subst, ◌∙◌, arith}
use Rattle.std.specs.Prelude.{if◌then◌else◌}
use Rattle.std.specs.declared.cmp.Ordering.TheVariants.{Less}
use Rattle.std.specs.Ordering.{nat_cmp}
use Rattle.std.proofs.lemmas.Cmp.{ranked, by_ranked}
use Rattle.bep_facts.specs.Members.{Contains-first, Contains-one}
use Rattle.bep_model.specs.declared.row.Row.{Row}
use Rattle.bep_model.specs.declared.reason.Reason.{Reason}
use Rattle.bep_model.specs.declared.reason.Reason.TheVariants.{CertificateOrder, NameUnknown, NotWinner}
use Rattle.bep_model.specs.Tables.{Tables, Device, Folder, FileName}
use Rattle.bep_model.specs.Foreign.{IsKnown}
use Rattle.bep_model.specs.Winner.{IsWinner}
use Rattle.bep_model.specs.Settled.{key_of}
use Rattle.bep_model.specs.Reasons.{Place, place_cmp, device_rank, AsksAt, AsksName, AsksDevice, first_disordered}
use Rattle.bep_audit.specs.inner.Search.{FindsFailing}
use Rattle.bep_audit.specs.Shown.{name_of}
use Rattle.bep_audit.proofs.AskedAtRow.{IsOfRows, asked_if_here}
use Rattle.bep_audit.proofs.RowWalk.{device_before}

-- the lesser of two numbers is less by the order of numbers
pub less_by_order : (m n : ℕ) → m < n → nat_cmp m n ≡ Less
less_by_order m n below =
    by_ranked (m < n) (m ≡ n) (n < m) (nat_cmp m n) (ranked m n (nat_cmp m n) refl)
    (λ e _. e)
    (λ _ same. absurd (omega arith))
    (λ _ above. absurd (omega arith))

module _ (t : Tables) (reason : Reason) (row : Row) (of_rows : IsOfRows reason) where
  -- what holds at a place of the row's name
  abbrev AsksHere : Option Device → Type 0
  AsksHere device = AsksAt t (row ∷ []) reason row.folder row.entry.name device

  at_key : (folder : Folder) (name : FileName) (device : Option Device) → key_of row ≡ (folder, name) → AsksHere device → AsksAt t (row ∷ []) reason folder name device
  at_key folder name device key asked = subst (λ (k : Folder × FileName). AsksAt t (row ∷ []) reason k.0 k.1 device) key asked

  -- nothing fails at the row
  pub finds_none : ((device : Option Device) → AsksHere device) → FindsFailing t (row ∷ []) reason None
  finds_none asked place = asked_if_here t reason row place of_rows (λ here. at_key place.folder place.name place.device here (asked place.device))

  -- something fails at the row, for the first time at this part of it
  pub finds_part : (device : Option Device) → ¬ AsksHere device → ((earlier : Option Device) → device_rank earlier < device_rank device → AsksHere earlier) → FindsFailing t (row ∷ []) reason (Some (record { folder = row.folder; name = row.entry.name; device = device }))
  finds_part device unmet before = record {
    fails = unmet;
    before = λ place less.
        asked_if_here t reason row place of_rows (λ here.
        at_key place.folder place.name place.device here
        (before place.device (device_before place (record { folder = row.folder; name = row.entry.name; device = device }) (sym here) less)));
  }

-- ---- the order of rows

-- a row out of order is told at its name
pub finds_disordered : (t : Tables) (rows : List Row) (row : Row) → Some (key_of row) ≡ first_disordered rows → FindsFailing t rows CertificateOrder (Some (name_of row))
finds_disordered t rows row is = record { fails = λ asked. asked (sym is); before = λ place less. before place.folder place.name place.device less }
  where
    before : (folder : Folder) (name : FileName) (device : Option Device) → place_cmp (record { folder = folder; name = name; device = device }) (name_of row) ≡ Less → AsksAt t rows CertificateOrder folder name device
    before folder name None less = λ here.
        let same : (folder, name) ≡ key_of row = let e : Some (key_of row) ≡ Some (folder, name) = is ∙ here in cc in
        absurd (omega (arith, device_before (record { folder = folder; name = name; device = None }) (name_of row) same less))
    before folder name (Some device) less = λ one member key shares. tt

-- ---- the name as a whole

module _ (t : Tables) (reason : Reason) (row : Row) (of_rows : IsOfRows reason) (no_part : (device : Device) → AsksDevice t (row ∷ []) reason row.folder row.entry.name device) where
  pub finds_name : (holds : Bool) (found : Option Place) → IsTrue holds ↔ AsksName t (row ∷ []) reason row.folder row.entry.name → found ≡ (if holds then None else Some (name_of row)) → FindsFailing t (row ∷ []) reason found
  finds_name true found exactly is = subst (FindsFailing t (row ∷ []) reason) (sym is) (finds_none t reason row of_rows each) where
    each : (device : Option Device) → AsksAt t (row ∷ []) reason row.folder row.entry.name device
    each None = exactly.0 refl
    each (Some device) = no_part device
  finds_name false found exactly is =
      subst (FindsFailing t (row ∷ []) reason) (sym is)
      (finds_part t reason row of_rows None (λ asked. true≢false (sym (exactly.1 asked))) (λ earlier less. absurd (omega (arith, less))))

pub finds_unknown : (t : Tables) (row : Row) (known : Bool) (found : Option Place) → IsTrue known ↔ IsKnown t row.folder row.entry.name → found ≡ (if known then None else Some (name_of row)) → FindsFailing t (row ∷ []) NameUnknown found
finds_unknown t row known found exactly =
    finds_name t NameUnknown row (omega arith) (λ device one member key shares. tt) known found
    (λ is has. exactly.0 is, λ asked. exactly.1 (asked (row, Contains-first row [], refl)))

pub finds_loser : (t : Tables) (row : Row) (wins : Bool) (found : Option Place) → IsTrue wins ↔ IsWinner t row.folder row.entry.name (row.device, row.entry) → found ≡ (if wins then None else Some (name_of row)) → FindsFailing t (row ∷ []) NotWinner found
finds_loser t row wins found exactly =
    finds_name t NotWinner row (omega arith) (λ device one member key shares. tt) wins found (
      λ is one member key. subst (λ (r : Row). IsWinner t row.folder row.entry.name (r.device, r.entry)) (Contains-one row one member) (exactly.0 is),
      λ asked. exactly.1 (asked row (Contains-first row []) refl),
    )
