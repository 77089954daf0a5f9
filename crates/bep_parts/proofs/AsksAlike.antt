-- What the reasons ask of a name in one cut they ask of it in another that says the same of it and has the same rows of it.
use Rattle.std.proofs.Common.{◌≡◌, ◌⊎◌, List, Contains, Option, Some, None, sym, subst, ◌∙◌, inl, inr}
use Rattle.bep_record.specs.declared.entry.Entry.{Entry}
use Rattle.bep_record.specs.declared.node.NodeParts.{NodeParts}
use Rattle.bep_record.specs.Content.{content_of}
use Rattle.bep_record.specs.Node.{IsClean}
use Rattle.bep_model.specs.declared.row.Row.{Row}
use Rattle.bep_model.specs.declared.reason.Reason.{Reason}
use Rattle.bep_model.specs.declared.reason.Reason.TheVariants.{CertificateOrder, NameMissing, NameUnknown, NotWinner, RecordMissing, RecordDiffers, LocalOnly, StoreDiffers, StoreUnclean, ViewAhead, FlightAhead, PullAhead}
use Rattle.bep_model.specs.declared.firm_reason.FirmReason.{FirmReason}
use Rattle.bep_model.specs.declared.firm_reason.FirmReason.TheVariants.{VersionDiffers, ViewNotBelow, FlightNotBelow, PullNotBelow}
use Rattle.bep_model.specs.Tables.{Tables, Device, Folder, FileName}
use Rattle.bep_model.specs.Foreign.{IsHarmless, IsKnown}
use Rattle.bep_model.specs.Settled.{HasRow, Rise, content_of_node, key_of}
use Rattle.bep_model.specs.Firm.{OwnHasVersion}
use Rattle.bep_model.specs.Reasons.{Place, Asks, AsksAt, AsksName, AsksDevice, AsksShare, AsksHarmless}
use Rattle.bep_model.specs.FirmVerdict.{AsksFirm, AsksFirmShare}
use Rattle.bep_model.proofs.Faultless.{none_disordered}
use Rattle.bep_parts.proofs.Alike.{IsAlike, turned, shares_there, known_there, viewed_there, winner_there}

-- ---- at a row

module _ (one other : Tables) (row : Row) (device : Device) (alike : IsAlike one other row.folder row.entry.name) where
  back : IsAlike other one row.folder row.entry.name
  back = turned one other row.folder row.entry.name alike

  harmless_there : (entry : Entry) → AsksHarmless one row device entry → AsksHarmless other row device entry
  harmless_there entry asks valid = subst (λ (o : Option Entry). IsHarmless o (content_of row.entry) entry) (alike.own device) (asks valid)

  share_there : (reason : Reason) → AsksShare one reason row device → AsksShare other reason row device
  share_there CertificateOrder asks = tt
  share_there NameMissing asks = tt
  share_there NameUnknown asks = tt
  share_there NotWinner asks = tt
  share_there RecordMissing asks = λ none. asks (alike.own device ∙ none)
  share_there RecordDiffers asks = λ own is valid. asks own (alike.own device ∙ is) valid
  share_there LocalOnly asks = λ own is. asks own (alike.own device ∙ is)
  share_there StoreDiffers asks = subst (λ (n : Option NodeParts). content_of_node n ≡ content_of row.entry) (alike.node device) asks
  share_there StoreUnclean asks =
      subst (λ (n : Option NodeParts). IsClean n (other.own device row.folder row.entry.name)) (alike.node device)
      (subst (λ (o : Option Entry). IsClean (one.node device row.folder row.entry.name) o) (alike.own device) asks)
  share_there ViewAhead asks = λ entry viewed. harmless_there entry (asks entry (viewed_there other one row.folder row.entry.name back device entry viewed))
  share_there FlightAhead asks = λ entry flying. harmless_there entry (asks entry ((alike.flying device entry).1 flying))
  share_there PullAhead asks = λ entry target. harmless_there entry (asks entry (alike.target device ∙ target))

  firm_share_there : (reason : FirmReason) → AsksFirmShare one reason row device → AsksFirmShare other reason row device
  firm_share_there VersionDiffers asks = subst (λ (o : Option Entry). OwnHasVersion o row.entry.version) (alike.own device) asks
  firm_share_there ViewNotBelow asks = λ entry viewed. asks entry (viewed_there other one row.folder row.entry.name back device entry viewed)
  firm_share_there FlightNotBelow asks = λ entry flying. asks entry ((alike.flying device entry).1 flying)
  firm_share_there PullNotBelow asks = λ entry target. asks entry (alike.target device ∙ target)

-- ---- at a name

-- of this name both have the same rows, and the others rise
pub record HaveSameRows (rows others : List Row) (folder : Folder) (name : FileName) : Type 0 where
  pub rise : Rise others
  pub there : (row : Row) → key_of row ≡ (folder, name) → Contains rows row → Contains others row
  pub back : (row : Row) → key_of row ≡ (folder, name) → Contains others row → Contains rows row

module _ (one other : Tables) (rows others : List Row) (folder : Folder) (name : FileName) (alike : IsAlike one other folder name) (same : HaveSameRows rows others folder name) where
  alike_at : (row : Row) → key_of row ≡ (folder, name) → IsAlike one other row.folder row.entry.name
  alike_at row key = subst (λ (k : Folder × FileName). IsAlike one other k.0 k.1) (sym key) alike

  turned_here : IsAlike other one folder name
  turned_here = turned one other folder name alike

  name_there : (reason : Reason) → AsksName one rows reason folder name → AsksName other others reason folder name
  name_there CertificateOrder asks = λ fails. let e = none_disordered others same.rise in cc
  name_there NameMissing asks = λ known.
      let has = asks (known_there other one folder name turned_here known) in
      (has.0, same.there has.0 has.2 has.1, has.2)
  name_there NameUnknown asks = λ has. known_there one other folder name alike (asks (has.0, same.back has.0 has.2 has.1, has.2))
  name_there NotWinner asks = λ row member key. winner_there one other folder name alike (row.device, row.entry) (asks row (same.back row key member) key)
  name_there RecordMissing asks = tt
  name_there RecordDiffers asks = tt
  name_there LocalOnly asks = tt
  name_there StoreDiffers asks = tt
  name_there StoreUnclean asks = tt
  name_there ViewAhead asks = tt
  name_there FlightAhead asks = tt
  name_there PullAhead asks = tt

  device_there : (reason : Reason) (device : Device) → AsksDevice one rows reason folder name device → AsksDevice other others reason folder name device
  device_there reason device asks row member key shares =
      share_there one other row device (alike_at row key) reason
      (asks row (same.back row key member) key (shares_there other one folder name turned_here device shares))

  at_there : (reason : Reason) (device : Option Device) → AsksAt one rows reason folder name device → AsksAt other others reason folder name device
  at_there reason None asks = name_there reason asks
  at_there reason (Some device) asks = device_there reason device asks

-- ---- at a place

module _ (one other : Tables) (rows others : List Row) (place : Place) (alike : IsAlike one other place.folder place.name) (same : HaveSameRows rows others place.folder place.name) where
  pub asks_there : (reason : Reason) → Asks one rows reason place → Asks other others reason place
  asks_there reason = at_there one other rows others place.folder place.name alike same reason place.device

  pub asks_firm_there : (reason : FirmReason) → AsksFirm one rows reason place → AsksFirm other others reason place
  asks_firm_there reason asks row device member key here shares =
      firm_share_there one other row device (alike_at one other rows others place.folder place.name alike same row key) reason
      (asks row device (same.back row key member) key here
      (shares_there other one place.folder place.name (turned one other place.folder place.name alike) device shares))

-- ---- where something is asked

-- a reason asks something only of a name that is known or has a row
module _ (t : Tables) (rows : List Row) (rise : Rise rows) (folder : Folder) (name : FileName) where
  abbrev HasSome : Type 0
  HasSome = IsKnown t folder name ⊎ HasRow rows folder name

  name_asks_if : (reason : Reason) → (HasSome → AsksName t rows reason folder name) → AsksName t rows reason folder name
  name_asks_if CertificateOrder asks = λ fails. let e = none_disordered rows rise in cc
  name_asks_if NameMissing asks = λ known. asks (inl known) known
  name_asks_if NameUnknown asks = λ has. asks (inr has) has
  name_asks_if NotWinner asks = λ row member key. asks (inr (row, member, key)) row member key
  name_asks_if RecordMissing asks = tt
  name_asks_if RecordDiffers asks = tt
  name_asks_if LocalOnly asks = tt
  name_asks_if StoreDiffers asks = tt
  name_asks_if StoreUnclean asks = tt
  name_asks_if ViewAhead asks = tt
  name_asks_if FlightAhead asks = tt
  name_asks_if PullAhead asks = tt

  at_asks_if : (reason : Reason) (device : Option Device) → (HasSome → AsksAt t rows reason folder name device) → AsksAt t rows reason folder name device
  at_asks_if reason None asks = name_asks_if reason asks
  at_asks_if reason (Some device) asks = λ row member key shares. asks (inr (row, member, key)) row member key shares

module _ (t : Tables) (rows : List Row) (place : Place) where
  pub asks_if : Rise rows → (reason : Reason) → (IsKnown t place.folder place.name ⊎ HasRow rows place.folder place.name → Asks t rows reason place) → Asks t rows reason place
  asks_if rise reason asks = at_asks_if t rows rise place.folder place.name reason place.device asks

  pub asks_firm_if : (reason : FirmReason) → (IsKnown t place.folder place.name ⊎ HasRow rows place.folder place.name → AsksFirm t rows reason place) → AsksFirm t rows reason place
  asks_firm_if reason asks row device member key here shares = asks (inr (row, member, key)) row device member key here shares
