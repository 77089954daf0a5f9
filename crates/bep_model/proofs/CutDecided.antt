-- What is asked of a finite cut can be decided.
use Rattle.std.proofs.Common.{◌≡◌, ◌⊎◌, ℕ, false, List, Contains, Option, Some, None, IsSome, refl, sym, ap, subst, inl, inr, ⊎_elim}
use Rattle.std.specs.Coded.{coded_ℕ, coded_ℤ, coded_list, coded×}
use Rattle.bep_record.specs.contracts.entry.Entry as entry_row
use Rattle.bep_record.specs.contracts.block.Block as block_row
use Rattle.bep_record.specs.contracts.kind.Kind as kind_row
use Rattle.bep_record.specs.declared.block.Block.{Block}
use Rattle.bep_record.specs.declared.kind.Kind.{Kind}
use Rattle.bep_record.specs.declared.kind.Kind.TheVariants as kinds
use Rattle.bep_record.specs.declared.entry.Entry.{Entry}
use Rattle.bep_record.specs.declared.node.NodeParts.{NodeParts}
use Rattle.bep_record.specs.Content.{Content, Deleted, File, Directory, Symlink, content_of}
use Rattle.bep_record.specs.Node.{IsClean, LooksSame}
use Rattle.bep_record.specs.declared.folder_kind.FolderKind.{FolderKind}
use Rattle.bep_choice.specs.Choice.{Candidate, IsValidAmong, IsChoice}
use Rattle.bep_model.specs.declared.row.Row.{Row}
use Rattle.bep_model.specs.declared.reason.Reason.{Reason}
use Rattle.bep_model.specs.declared.reason.Reason.TheVariants.{CertificateOrder, NameMissing, NameUnknown, NotWinner, RecordMissing, RecordDiffers, LocalOnly, StoreDiffers, StoreUnclean, ViewAhead, FlightAhead, PullAhead}
use Rattle.bep_model.specs.Tables.{Tables, Device, Folder, FileName, Shares}
use Rattle.bep_model.specs.declared.flight.Flight.{Flight}
use Rattle.bep_model.specs.Foreign.{IsViewed, IsFlying, IsTarget, IsForeign, IsHarmless, HasTrace, IsKnown, IsFinite}
use Rattle.bep_model.specs.Winner.{IsWinner, own_candidates, smallest}
use Rattle.bep_model.specs.WithoutWinner.{HasWinner}
use Rattle.bep_model.specs.Settled.{HasRow, content_of_node, key_of}
use Rattle.bep_model.specs.Reasons.{Place, Asks, AsksAt, AsksName, AsksDevice, AsksShare, AsksHarmless, first_disordered}
use Rattle.bep_facts.specs.Decided.{OrNot, both_or_not, either_or_not, implies_or_not, not_or_not, or_not_as, same_or_not, true_or_not, false_or_not}
use Rattle.bep_model.proofs.Deciding.{Finite, finite_list, finite_option, finite_as, finite_or, finite_where, finite_union, finite_filter, each_in, some_in}
use Rattle.bep_model.proofs.VersionsDecided.{below_or_not}
use Rattle.bep_model.proofs.Winners.{OneChoice, same_winner}

-- ---- values

same_text : (one other : List ℕ) → OrNot (one ≡ other)
same_text = same_or_not (coded_list coded_ℕ)

pub same_key : (one other : Folder × FileName) → OrNot (one ≡ other)
same_key = same_or_not (coded× (coded_list coded_ℕ) (coded_list coded_ℕ))

same_blocks : (one other : List Block) → OrNot (one ≡ other)
same_blocks = same_or_not (coded_list (block_row.the_row).coded)

same_kind : (one other : Kind) → OrNot (one ≡ other)
same_kind = same_or_not (kind_row.the_row).coded

same_candidate : (one other : Candidate) → OrNot (one ≡ other)
same_candidate = same_or_not (coded× coded_ℕ (entry_row.the_row).coded)

same_content : (one other : Content) → OrNot (one ≡ other)
same_content Deleted Deleted = inl refl
same_content (File blocks) (File others) = or_not_as (λ e. ap File e) (λ e. cc) (same_blocks blocks others)
same_content Directory Directory = inl refl
same_content (Symlink target) (Symlink other) = or_not_as (λ e. ap Symlink e) (λ e. cc) (same_text target other)
same_content _ _ = inr (λ e. cc)

none_or_not : {X : Type 0} (o : Option X) → OrNot (o ≡ None)
none_or_not None = inl refl
none_or_not (Some x) = inr (λ e. cc)

looks_same_or_not : (kind : Kind) (node : NodeParts) (entry : Entry) → OrNot (LooksSame kind node entry)
looks_same_or_not kinds.File node entry =
    or_not_as
    (λ h. (h.0, h.1.0, h.1.1))
    (λ h. (h.0, (h.1, h.2)))
    (both_or_not (same_or_not coded_ℕ _ entry.size) (both_or_not (same_or_not coded_ℤ node.modified_s entry.modified_s) (same_or_not coded_ℕ node.modified_ns entry.modified_ns)))
looks_same_or_not kinds.Directory node entry = inl tt
looks_same_or_not kinds.Symlink node entry = same_text node.target entry.target

clean_or_not : (node : Option NodeParts) (own : Option Entry) → OrNot (IsClean node own)
clean_or_not None None = inl tt
clean_or_not None (Some entry) = true_or_not entry.deleted
clean_or_not (Some node) None = inr (λ h. h)
clean_or_not (Some node) (Some entry) =
    or_not_as
    (λ h. (h.0, h.1.0, h.1.1))
    (λ h. (h.0, (h.1, h.2)))
    (both_or_not (false_or_not entry.deleted) (both_or_not (same_kind node.kind entry.kind) (looks_same_or_not node.kind node entry)))

harmless_or_not : (own : Option Entry) (content : Content) (entry : Entry) → OrNot (IsHarmless own content entry)
harmless_or_not None content entry = same_content (content_of entry) content
harmless_or_not (Some own) content entry = either_or_not (same_content (content_of entry) content) (below_or_not entry.version own.version)

-- ---- what a device has of others

module _ (t : Tables) (finite : IsFinite t) where
  viewed_finite : (device : Device) (folder : Folder) (name : FileName) → Finite (IsViewed t device folder name)
  viewed_finite device folder name =
      finite_as
      (λ entry. (other : Device) × (Contains finite.viewed other × (t.viewed device other folder name ≡ Some entry)))
      (IsViewed t device folder name)
      (λ entry h. (h.0, h.1.1))
      (λ entry h. (h.0, (finite.all_viewed device h.0 folder name (some_from_is h.1), h.1)))
      (finite_union (λ (other : Device) entry. t.viewed device other folder name ≡ Some entry) (λ other. finite_option (t.viewed device other folder name)) finite.viewed)
    where
      some_from_is : {o : Option Entry} {entry : Entry} → o ≡ Some entry → IsSome o
      some_from_is e = subst IsSome (sym e) refl

  flight_finite : (folder : Folder) (name : FileName) (flight : Flight) → Finite (λ entry. (flight.folder ≡ folder) × (Contains flight.records entry × (entry.name ≡ name)))
  flight_finite folder name flight =
      finite_where (flight.folder ≡ folder) (λ (entry : Entry). Contains flight.records entry × (entry.name ≡ name))
      (same_text flight.folder folder)
      (finite_filter (λ (entry : Entry). entry.name ≡ name) (λ entry. same_text entry.name name) flight.records)

  flying_finite : (device : Device) (folder : Folder) (name : FileName) → Finite (IsFlying t device folder name)
  flying_finite device folder name =
      finite_as _ (IsFlying t device folder name)
      (λ entry h. record {
        sender = h.0.0;
        shares = (h.0.1, h.1.0);
        flight = h.1.1.0;
        sent = h.1.1.1.0;
        same_folder = h.1.1.1.1.0;
        carried = h.1.1.1.1.1.0;
        same_name = h.1.1.1.1.1.1;
      })
      (λ entry h. ((h.sender, h.shares.0), (h.shares.1, (h.flight, (h.sent, (h.same_folder, (h.carried, h.same_name)))))))
      (finite_union
      (λ (share : Device × FolderKind) (entry : Entry). (flight : Flight) × (Contains (t.flying share.0 device) flight × ((flight.folder ≡ folder) × (Contains flight.records entry × (entry.name ≡ name)))))
      (λ share. finite_union (λ (flight : Flight) (entry : Entry). (flight.folder ≡ folder) × (Contains flight.records entry × (entry.name ≡ name))) (flight_finite folder name) (t.flying share.0 device))
      (t.sharing folder))

  target_finite : (device : Device) (folder : Folder) (name : FileName) → Finite (IsTarget t device folder name)
  target_finite device folder name = finite_option (t.target device folder name)

  foreign_or_not : (device : Device) (folder : Folder) (name : FileName) → OrNot ((entry : Entry) × IsForeign t device folder name entry)
  foreign_or_not device folder name =
      or_not_as
      (λ h. (h.0, record { known_by = h.1.0; valid = h.1.1 }))
      (λ h. (h.0, (h.1.known_by, h.1.valid)))
      (some_in
      (λ entry. IsViewed t device folder name entry ⊎ (IsFlying t device folder name entry ⊎ IsTarget t device folder name entry))
      (λ entry. entry.invalid ≡ false)
      (finite_or _ _ (viewed_finite device folder name) (finite_or _ _ (flying_finite device folder name) (target_finite device folder name)))
      (λ entry. false_or_not entry.invalid))

  pub known_or_not : (folder : Folder) (name : FileName) → OrNot (IsKnown t folder name)
  known_or_not folder name =
      or_not_as
      (λ h. (h.0.0, (h.0.1, h.1.0), h.1.1))
      (λ h. ((h.0, h.1.0), (h.1.1, h.2)))
      (some_in (Contains (t.sharing folder)) (λ (share : Device × FolderKind). HasTrace t share.0 folder name) (finite_list (t.sharing folder))
      (λ share. either_or_not (true_or_not _) (either_or_not (true_or_not _) (foreign_or_not share.0 folder name))))

  pub share_or_not : (device : Device) (folder : Folder) → OrNot (Shares t device folder)
  share_or_not device folder =
      or_not_as
      (λ h. (h.0.1, subst (λ (d : Device). Contains (t.sharing folder) (d, h.0.1)) h.1.1 h.1.0))
      (λ h. ((device, h.0), (h.1, refl)))
      (some_in (Contains (t.sharing folder)) (λ (share : Device × FolderKind). share.0 ≡ device) (finite_list (t.sharing folder)) (λ share. same_or_not coded_ℕ share.0 device))

-- ---- the winner

-- the law of bep_choice: there is a choice where a candidate is valid
abbrev pub SomeChoice : Type 0
SomeChoice = (chooser : ℕ) (candidates : List Candidate) → (one : Candidate) × IsValidAmong candidates one → (one : Candidate) × IsChoice chooser candidates one

pub has_winner_or_not : SomeChoice → (t : Tables) (folder : Folder) (name : FileName) → OrNot (HasWinner t folder name)
has_winner_or_not some_choice t folder name =
    let candidates = own_candidates t folder name in
    or_not_as
    (some_choice (smallest (t.sharing folder)) candidates)
    (λ has. (has.0, has.1.left.valid))
    (some_in (Contains candidates) (λ (c : Candidate). c.1.invalid ≡ false) (finite_list candidates) (λ c. false_or_not c.1.invalid))

winner_or_not : SomeChoice → OneChoice → (t : Tables) (folder : Folder) (name : FileName) (one : Candidate) → OrNot (IsWinner t folder name one)
winner_or_not some_choice one_choice t folder name one =
    ⊎_elim
    (λ best.
    or_not_as
    (λ (same : best.0 ≡ one). subst (λ (c : Candidate). IsWinner t folder name c) same best.1)
    (λ wins. same_winner one_choice t folder name best.0 one best.1 wins)
    (same_candidate best.0 one))
    (λ none. inr (λ wins. none (one, wins)))
    (has_winner_or_not some_choice t folder name)

-- ---- what is asked

pub has_row_or_not : (rows : List Row) (folder : Folder) (name : FileName) → OrNot (HasRow rows folder name)
has_row_or_not rows folder name =
    or_not_as
    (λ h. (h.0, h.1.0, h.1.1))
    (λ h. (h.0, (h.1, h.2)))
    (some_in (Contains rows) (λ (row : Row). key_of row ≡ (folder, name)) (finite_list rows) (λ row. same_key (key_of row) (folder, name)))

module _ (some_choice : SomeChoice) (one_choice : OneChoice) (t : Tables) (finite : IsFinite t) (rows : List Row) where
  name_or_not : (reason : Reason) (folder : Folder) (name : FileName) → OrNot (AsksName t rows reason folder name)
  name_or_not CertificateOrder folder name = not_or_not (in_option (first_disordered rows))
    where
      in_option : (o : Option (Folder × FileName)) → OrNot (o ≡ Some (folder, name))
      in_option None = inr (λ e. cc)
      in_option (Some key) = or_not_as (λ e. ap Some e) (λ e. cc) (same_key key (folder, name))
  name_or_not NameMissing folder name = implies_or_not (known_or_not t finite folder name) (has_row_or_not rows folder name)
  name_or_not NameUnknown folder name = implies_or_not (has_row_or_not rows folder name) (known_or_not t finite folder name)
  name_or_not NotWinner folder name =
      each_in (Contains rows) (λ (row : Row). key_of row ≡ (folder, name) → IsWinner t folder name (row.device, row.entry)) (finite_list rows)
      (λ row. implies_or_not (same_key (key_of row) (folder, name)) (winner_or_not some_choice one_choice t folder name (row.device, row.entry)))
  name_or_not _ folder name = inl tt

  ahead_or_not : (row : Row) (device : Device) (entry : Entry) → OrNot (AsksHarmless t row device entry)
  ahead_or_not row device entry = implies_or_not (false_or_not entry.invalid) (harmless_or_not (t.own device row.folder row.entry.name) (content_of row.entry) entry)

  part_or_not : (reason : Reason) (row : Row) (device : Device) → OrNot (AsksShare t reason row device)
  part_or_not RecordMissing row device = implies_or_not (none_or_not (t.own device row.folder row.entry.name)) (same_content (content_of row.entry) Deleted)
  part_or_not RecordDiffers row device =
      each_in (λ (own : Entry). t.own device row.folder row.entry.name ≡ Some own) (λ own. own.invalid ≡ false → content_of own ≡ content_of row.entry)
      (finite_option (t.own device row.folder row.entry.name))
      (λ own. implies_or_not (false_or_not own.invalid) (same_content (content_of own) (content_of row.entry)))
  part_or_not LocalOnly row device =
      each_in (λ (own : Entry). t.own device row.folder row.entry.name ≡ Some own) (λ own. own.invalid ≡ false)
      (finite_option (t.own device row.folder row.entry.name))
      (λ own. false_or_not own.invalid)
  part_or_not StoreDiffers row device = same_content (content_of_node (t.node device row.folder row.entry.name)) (content_of row.entry)
  part_or_not StoreUnclean row device = clean_or_not (t.node device row.folder row.entry.name) (t.own device row.folder row.entry.name)
  part_or_not ViewAhead row device = each_in _ _ (viewed_finite t finite device row.folder row.entry.name) (ahead_or_not row device)
  part_or_not FlightAhead row device = each_in _ _ (flying_finite t finite device row.folder row.entry.name) (ahead_or_not row device)
  part_or_not PullAhead row device = each_in _ _ (target_finite t finite device row.folder row.entry.name) (ahead_or_not row device)
  part_or_not _ row device = inl tt

  device_or_not : (reason : Reason) (folder : Folder) (name : FileName) (device : Device) → OrNot (AsksDevice t rows reason folder name device)
  device_or_not reason folder name device =
      each_in (Contains rows) (λ (row : Row). key_of row ≡ (folder, name) → Shares t device folder → AsksShare t reason row device) (finite_list rows)
      (λ row. implies_or_not (same_key (key_of row) (folder, name)) (implies_or_not (share_or_not t finite device folder) (part_or_not reason row device)))

  at_or_not : (reason : Reason) (folder : Folder) (name : FileName) (device : Option Device) → OrNot (AsksAt t rows reason folder name device)
  at_or_not reason folder name None = name_or_not reason folder name
  at_or_not reason folder name (Some device) = device_or_not reason folder name device

  pub asks_or_not : (reason : Reason) (place : Place) → OrNot (Asks t rows reason place)
  asks_or_not reason place = at_or_not reason place.folder place.name place.device
