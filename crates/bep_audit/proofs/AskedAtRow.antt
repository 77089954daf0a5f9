-- From the third reason on each row is asked by itself, as if it stood alone.
use Rattle.std.proofs.Common.{◌≡◌, ◌≢◌, ◌<◌, List, [], ◌∷◌, Contains, Option, Some, None, refl, sym, ap, subst, ◌∙◌, ⊎_elim, arith}
use Rattle.std.specs.declared.cmp.Ordering.TheVariants.{Less, Equal, Greater}
use Rattle.bep_facts.specs.Orders.{Equal_from_same, order_cases, texts_exact, texts_total}
use Rattle.bep_facts.specs.Members.{Contains-first, Contains-one}
use Rattle.bep_model.specs.declared.row.Row.{Row}
use Rattle.bep_model.specs.declared.reason.Reason.{Reason}
use Rattle.bep_model.specs.declared.reason.Reason.TheVariants.{CertificateOrder, NameMissing, NameUnknown, NotWinner, RecordMissing, RecordDiffers, LocalOnly, StoreDiffers, StoreUnclean, ViewAhead, FlightAhead, PullAhead}
use Rattle.bep_model.specs.Tables.{Tables, Device, Folder, FileName}
use Rattle.bep_model.specs.Settled.{key_of, key_cmp}
use Rattle.bep_model.specs.Reasons.{Place, Asks, AsksAt, AsksName}
use Rattle.bep_model.specs.Verdict.{number_of}

-- the reason asks something of each row, or of devices at it
abbrev pub IsOfRows : Reason → Type 0
IsOfRows reason = number_of NameMissing < number_of reason

-- the reason asks something of devices
abbrev pub IsOfDevices : Reason → Type 0
IsOfDevices reason = number_of NotWinner < number_of reason

-- which these are
pub of_rows_else : (reason : Reason) → reason ≢ CertificateOrder → reason ≢ NameMissing → IsOfRows reason
of_rows_else CertificateOrder not_order not_missing = absurd (not_order refl)
of_rows_else NameMissing not_order not_missing = absurd (not_missing refl)
of_rows_else NameUnknown not_order not_missing = omega arith
of_rows_else NotWinner not_order not_missing = omega arith
of_rows_else RecordMissing not_order not_missing = omega arith
of_rows_else RecordDiffers not_order not_missing = omega arith
of_rows_else LocalOnly not_order not_missing = omega arith
of_rows_else StoreDiffers not_order not_missing = omega arith
of_rows_else StoreUnclean not_order not_missing = omega arith
of_rows_else ViewAhead not_order not_missing = omega arith
of_rows_else FlightAhead not_order not_missing = omega arith
of_rows_else PullAhead not_order not_missing = omega arith

pub of_devices_else : (reason : Reason) → IsOfRows reason → reason ≢ NameUnknown → reason ≢ NotWinner → IsOfDevices reason
of_devices_else CertificateOrder of_rows not_unknown not_winner = absurd (omega (arith, of_rows))
of_devices_else NameMissing of_rows not_unknown not_winner = absurd (omega (arith, of_rows))
of_devices_else NameUnknown of_rows not_unknown not_winner = absurd (not_unknown refl)
of_devices_else NotWinner of_rows not_unknown not_winner = absurd (not_winner refl)
of_devices_else RecordMissing of_rows not_unknown not_winner = omega arith
of_devices_else RecordDiffers of_rows not_unknown not_winner = omega arith
of_devices_else LocalOnly of_rows not_unknown not_winner = omega arith
of_devices_else StoreDiffers of_rows not_unknown not_winner = omega arith
of_devices_else StoreUnclean of_rows not_unknown not_winner = omega arith
of_devices_else ViewAhead of_rows not_unknown not_winner = omega arith
of_devices_else FlightAhead of_rows not_unknown not_winner = omega arith
of_devices_else PullAhead of_rows not_unknown not_winner = omega arith

-- the key of a place
abbrev pub key_at : Place → Folder × FileName
key_at place = (place.folder, place.name)

module _ (t : Tables) where
  -- ---- a row is asked nothing elsewhere

  name_if_here : (reason : Reason) (row : Row) (folder : Folder) (name : FileName) → IsOfRows reason → (key_of row ≡ (folder, name) → AsksName t (row ∷ []) reason folder name) → AsksName t (row ∷ []) reason folder name
  name_if_here CertificateOrder row folder name of_rows asked = absurd (omega (arith, of_rows))
  name_if_here NameMissing row folder name of_rows asked = absurd (omega (arith, of_rows))
  name_if_here NameUnknown row folder name of_rows asked = λ has. asked (ap key_of (Contains-one row has.0 has.1) ∙ has.2) has
  name_if_here NotWinner row folder name of_rows asked = λ one member key. asked (ap key_of (Contains-one row one member) ∙ key) one member key
  name_if_here _ row folder name of_rows asked = tt

  at_if_here : (reason : Reason) (row : Row) (folder : Folder) (name : FileName) (device : Option Device) → IsOfRows reason → (key_of row ≡ (folder, name) → AsksAt t (row ∷ []) reason folder name device) → AsksAt t (row ∷ []) reason folder name device
  at_if_here reason row folder name None of_rows asked = name_if_here reason row folder name of_rows asked
  at_if_here reason row folder name (Some device) of_rows asked = λ one member key shares. asked (ap key_of (Contains-one row one member) ∙ key) one member key shares

  pub asked_if_here : (reason : Reason) (row : Row) (place : Place) → IsOfRows reason → (key_of row ≡ key_at place → Asks t (row ∷ []) reason place) → Asks t (row ∷ []) reason place
  asked_if_here reason row place of_rows asked = at_if_here reason row place.folder place.name place.device of_rows asked

  -- so where it isn't met, the row is
  pub here_if_unmet : (reason : Reason) (row : Row) (place : Place) → IsOfRows reason → ¬ Asks t (row ∷ []) reason place → key_of row ≡ key_at place
  here_if_unmet reason row place of_rows unmet =
      ⊎_elim
      (λ less. absurd (unmet (asked_if_here reason row place of_rows (λ here. let e : Less ≡ Equal = sym less ∙ Equal_from_same texts_total (key_of row) (key_at place) here in absurd (cc)))))
      (⊎_elim
      (λ equal. texts_exact (key_of row) (key_at place) equal)
      (λ greater. absurd (unmet (asked_if_here reason row place of_rows (λ here. let e : Greater ≡ Equal = sym greater ∙ Equal_from_same texts_total (key_of row) (key_at place) here in absurd (cc))))))
      (order_cases (key_cmp (key_of row) (key_at place)))

  -- ---- all rows are asked just what each is

  name_of_each : (rows : List Row) (reason : Reason) (folder : Folder) (name : FileName) → IsOfRows reason → ((row : Row) → Contains rows row → AsksName t (row ∷ []) reason folder name) → AsksName t rows reason folder name
  name_of_each rows CertificateOrder folder name of_rows each = absurd (omega (arith, of_rows))
  name_of_each rows NameMissing folder name of_rows each = absurd (omega (arith, of_rows))
  name_of_each rows NameUnknown folder name of_rows each = λ has. each has.0 has.1 (has.0, Contains-first has.0 [], has.2)
  name_of_each rows NotWinner folder name of_rows each = λ row member key. each row member row (Contains-first row []) key
  name_of_each rows _ folder name of_rows each = tt

  at_of_each : (rows : List Row) (reason : Reason) (folder : Folder) (name : FileName) (device : Option Device) → IsOfRows reason → ((row : Row) → Contains rows row → AsksAt t (row ∷ []) reason folder name device) → AsksAt t rows reason folder name device
  at_of_each rows reason folder name None of_rows each = name_of_each rows reason folder name of_rows each
  at_of_each rows reason folder name (Some device) of_rows each = λ row member key shares. each row member row (Contains-first row []) key shares

  pub asked_of_each : (rows : List Row) (reason : Reason) (place : Place) → IsOfRows reason → ((row : Row) → Contains rows row → Asks t (row ∷ []) reason place) → Asks t rows reason place
  asked_of_each rows reason place of_rows each = at_of_each rows reason place.folder place.name place.device of_rows each

  among : (rows : List Row) (row one : Row) → Contains rows row → Contains (row ∷ []) one → Contains rows one
  among rows row one member only = subst (Contains rows) (Contains-one row one only) member

  name_of_one : (rows : List Row) (reason : Reason) (folder : Folder) (name : FileName) → IsOfRows reason → AsksName t rows reason folder name → (row : Row) → Contains rows row → AsksName t (row ∷ []) reason folder name
  name_of_one rows CertificateOrder folder name of_rows asked row member = absurd (omega (arith, of_rows))
  name_of_one rows NameMissing folder name of_rows asked row member = absurd (omega (arith, of_rows))
  name_of_one rows NameUnknown folder name of_rows asked row member = λ has. asked (has.0, among rows row has.0 member has.1, has.2)
  name_of_one rows NotWinner folder name of_rows asked row member = λ one only key. asked one (among rows row one member only) key
  name_of_one rows _ folder name of_rows asked row member = tt

  at_of_one : (rows : List Row) (reason : Reason) (folder : Folder) (name : FileName) (device : Option Device) → IsOfRows reason → AsksAt t rows reason folder name device → (row : Row) → Contains rows row → AsksAt t (row ∷ []) reason folder name device
  at_of_one rows reason folder name None of_rows asked row member = name_of_one rows reason folder name of_rows asked row member
  at_of_one rows reason folder name (Some device) of_rows asked row member = λ one only key shares. asked one (among rows row one member only) key shares

  pub asked_of_one : (rows : List Row) (reason : Reason) (place : Place) → IsOfRows reason → Asks t rows reason place → (row : Row) → Contains rows row → Asks t (row ∷ []) reason place
  asked_of_one rows reason place of_rows asked row member = at_of_one rows reason place.folder place.name place.device of_rows asked row member
