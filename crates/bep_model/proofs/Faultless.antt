-- A cut is settled exactly where no reason fails.
use Rattle.std.proofs.Common.{◌≡◌, false, List, [], ◌∷◌, Contains, Option, Some, None, refl, sym, ap, subst, ◌∙◌, inl, inr, ⊎_elim}
use Rattle.std.proofs.lemmas.Bool.{cases_Bool, cond-true, cond-false}
use Rattle.std.specs.Ordering.{is_lt}
use Rattle.bep_facts.specs.Options.{none_from_no_value}
use Rattle.bep_facts.specs.Orders.{Less_from_is_lt}
use Rattle.bep_record.specs.declared.entry.Entry.{Entry}
use Rattle.bep_record.specs.Content.{Content, Deleted, content_of}
use Rattle.bep_model.specs.declared.row.Row.{Row}
use Rattle.bep_model.specs.declared.reason.Reason.{Reason}
use Rattle.bep_model.specs.declared.reason.Reason.TheVariants.{CertificateOrder, NameMissing, NameUnknown, NotWinner, RecordMissing, RecordDiffers, LocalOnly, StoreDiffers, StoreUnclean, ViewAhead, FlightAhead, PullAhead}
use Rattle.bep_model.specs.Tables.{Tables, Device, Folder, FileName, Shares}
use Rattle.bep_model.specs.Winner.{IsWinner}
use Rattle.bep_model.specs.Settled.{IsSettled, Rise, OwnAgrees, key_of, key_cmp}
use Rattle.bep_model.specs.Reasons.{Place, Asks, AsksAt, AsksName, AsksShare, first_disordered}
use Rattle.bep_model.specs.Laws.{SettledIsFaultless}

-- ---- the order of rows

pub none_disordered : (rows : List Row) → Rise rows → first_disordered rows ≡ None
none_disordered [] rise = refl
none_disordered (row ∷ []) rise = refl
none_disordered (row ∷ next ∷ more) rise = cond-true _ _ _ (ap is_lt rise.0) ∙ none_disordered (next ∷ more) rise.1

pub rise_from_none_disordered : (rows : List Row) → first_disordered rows ≡ None → Rise rows
rise_from_none_disordered [] none = tt
rise_from_none_disordered (row ∷ []) none = tt
rise_from_none_disordered (row ∷ next ∷ more) none =
    ⊎_elim
    (λ less. (Less_from_is_lt _ less, rise_from_none_disordered (next ∷ more) (sym (cond-true _ _ _ less) ∙ none)))
    (λ not_less. let e = sym (cond-false _ _ _ not_less) ∙ none in absurd (cc))
    (cases_Bool (is_lt (key_cmp (key_of row) (key_of next))))

-- ---- what a settled cut gives

winner_at : (t : Tables) (row : Row) (folder : Folder) (name : FileName) → key_of row ≡ (folder, name) → IsWinner t row.folder row.entry.name (row.device, row.entry) → IsWinner t folder name (row.device, row.entry)
winner_at t row folder name key winner = subst (λ (k : Folder × FileName). IsWinner t k.0 k.1 (row.device, row.entry)) key winner

name_asks : (t : Tables) (rows : List Row) → IsSettled t rows → (reason : Reason) (folder : Folder) (name : FileName) → AsksName t rows reason folder name
name_asks t rows settled CertificateOrder folder name = λ fails. let e = none_disordered rows settled.certificate.rise in cc
name_asks t rows settled NameMissing folder name = (settled.certificate.names folder name).0
name_asks t rows settled NameUnknown folder name = (settled.certificate.names folder name).1
name_asks t rows settled NotWinner folder name = λ row member key. winner_at t row folder name key (settled.certificate.winners row member)
name_asks t rows settled RecordMissing folder name = tt
name_asks t rows settled RecordDiffers folder name = tt
name_asks t rows settled LocalOnly folder name = tt
name_asks t rows settled StoreDiffers folder name = tt
name_asks t rows settled StoreUnclean folder name = tt
name_asks t rows settled ViewAhead folder name = tt
name_asks t rows settled FlightAhead folder name = tt
name_asks t rows settled PullAhead folder name = tt

due_where_missing : (own : Option Entry) (content : Content) → OwnAgrees own content → own ≡ None → content ≡ Deleted
due_where_missing None content agrees none = agrees
due_where_missing (Some own) content agrees none = absurd (cc)

own_where_present : (own : Option Entry) (content : Content) → OwnAgrees own content → (entry : Entry) → own ≡ Some entry → (entry.invalid ≡ false) × (content_of entry ≡ content)
own_where_present None content agrees entry some = absurd (cc)
own_where_present (Some own) content agrees entry some = subst (λ e. (e.invalid ≡ false) × (content_of e ≡ content)) (same some) agrees
  where
    same : Some own ≡ Some entry → own ≡ entry
    same e = cc

share_asks : (t : Tables) (rows : List Row) → IsSettled t rows → (reason : Reason) (row : Row) (device : Device) → Contains rows row → Shares t device row.folder → AsksShare t reason row device
share_asks t rows settled CertificateOrder row device member shares = tt
share_asks t rows settled NameMissing row device member shares = tt
share_asks t rows settled NameUnknown row device member shares = tt
share_asks t rows settled NotWinner row device member shares = tt
share_asks t rows settled RecordMissing row device member shares = due_where_missing _ _ (settled.own row device member shares)
share_asks t rows settled RecordDiffers row device member shares = λ own is_own valid. (own_where_present _ _ (settled.own row device member shares) own is_own).1
share_asks t rows settled LocalOnly row device member shares = λ own is_own. (own_where_present _ _ (settled.own row device member shares) own is_own).0
share_asks t rows settled StoreDiffers row device member shares = (settled.store row device member shares).holds
share_asks t rows settled StoreUnclean row device member shares = (settled.store row device member shares).clean
share_asks t rows settled ViewAhead row device member shares = λ entry viewed valid. settled.foreign row device member shares entry (record { known_by = inl viewed; valid = valid })
share_asks t rows settled FlightAhead row device member shares = λ entry flying valid. settled.foreign row device member shares entry (record { known_by = inr (inl flying); valid = valid })
share_asks t rows settled PullAhead row device member shares = λ entry target valid. settled.foreign row device member shares entry (record { known_by = inr (inr target); valid = valid })

at_place : (t : Tables) (rows : List Row) → IsSettled t rows → (reason : Reason) (folder : Folder) (name : FileName) (device : Option Device) → AsksAt t rows reason folder name device
at_place t rows settled reason folder name None = name_asks t rows settled reason folder name
at_place t rows settled reason folder name (Some device) = λ row member key shares. share_asks t rows settled reason row device member (subst (λ (k : Folder × FileName). Shares t device k.0) (sym key) shares)

-- ---- and what gives one

Faultless : Tables → List Row → Type 0
Faultless t rows = (reason : Reason) (place : Place) → Asks t rows reason place

asks_name : (t : Tables) (rows : List Row) → Faultless t rows → (reason : Reason) (folder : Folder) (name : FileName) → AsksName t rows reason folder name
unfolding Faultless
asks_name t rows faultless reason folder name = faultless reason (record { folder = folder; name = name; device = None })

asks_share : (t : Tables) (rows : List Row) → Faultless t rows → (reason : Reason) (row : Row) (device : Device) → Contains rows row → Shares t device row.folder → AsksShare t reason row device
unfolding Faultless
asks_share t rows faultless reason row device member shares =
    faultless reason (record { folder = row.folder; name = row.entry.name; device = Some device }) row member refl shares

own_agrees : (own : Option Entry) (content : Content) → (own ≡ None → content ≡ Deleted) → ((entry : Entry) → own ≡ Some entry → entry.invalid ≡ false → content_of entry ≡ content) → ((entry : Entry) → own ≡ Some entry → entry.invalid ≡ false) → OwnAgrees own content
own_agrees None content missing differs valid = missing refl
own_agrees (Some own) content missing differs valid = (valid own refl, differs own refl (valid own refl))

settled_from_faultless : (t : Tables) (rows : List Row) → Faultless t rows → IsSettled t rows
settled_from_faultless t rows faultless = record {
  certificate = record {
    rise = rise_from_none_disordered rows (none_from_no_value _ (λ key. asks_name t rows faultless CertificateOrder key.0 key.1));
    names = λ folder name. (asks_name t rows faultless NameMissing folder name, asks_name t rows faultless NameUnknown folder name);
    winners = λ row member. asks_name t rows faultless NotWinner row.folder row.entry.name row member refl;
  };
  own = λ row device member shares.
      own_agrees _ _
      (asks_share t rows faultless RecordMissing row device member shares)
      (asks_share t rows faultless RecordDiffers row device member shares)
      (asks_share t rows faultless LocalOnly row device member shares);
  store = λ row device member shares. record {
    holds = asks_share t rows faultless StoreDiffers row device member shares;
    clean = asks_share t rows faultless StoreUnclean row device member shares;
  };
  foreign = λ row device member shares entry is_foreign.
      ⊎_elim
      (λ viewed. asks_share t rows faultless ViewAhead row device member shares entry viewed is_foreign.valid)
      (λ others.
      ⊎_elim
      (λ flying. asks_share t rows faultless FlightAhead row device member shares entry flying is_foreign.valid)
      (λ target. asks_share t rows faultless PullAhead row device member shares entry target is_foreign.valid)
      others)
      is_foreign.known_by;
}

pub settled_is_faultless_lem : SettledIsFaultless
unfolding Faultless
settled_is_faultless_lem t rows = (
  λ settled reason place. at_place t rows settled reason place.folder place.name place.device,
  λ faultless. settled_from_faultless t rows faultless,
)
