-- What is firm stays firm: at a firm cut no leave is open, so no record and no file changes.
use Rattle.std.proofs.Common.{◌≡◌, ◌⊎◌, List, [], ◌∷◌, ◌++◌, Contains, Option, Some, None, IsSome, false, refl, sym, ap, subst, ◌∙◌, inl, inr, ⊎_elim, arith}
use Rattle.bep_facts.specs.Members.{Contains-first, Contains-more}
use Rattle.bep_record.specs.declared.entry.Entry.{Entry}
use Rattle.bep_record.specs.declared.node.NodeParts.{NodeParts}
use Rattle.bep_record.specs.declared.folder_kind.FolderKind.{FolderKind}
use Rattle.bep_record.specs.Content.{Content, content_of}
use Rattle.bep_record.specs.Node.{IsClean}
use Rattle.bep_record.specs.Vector.{IsAtMost}
use Rattle.bep_choice.specs.Choice.{Candidate, IsChoice}
use Rattle.bep_model.specs.declared.row.Row.{Row}
use Rattle.bep_model.specs.Tables.{Tables, Device, Folder, FileName, Shares}
use Rattle.bep_model.specs.Foreign.{IsFlying, IsForeign, IsHarmless, HasTrace, IsKnown}
use Rattle.bep_model.specs.Winner.{IsWinner, beside, owned, own_candidates, smallest}
use Rattle.bep_model.specs.Settled.{HasRow, OwnAgrees, StoreAgrees, ForeignAgrees}
use Rattle.bep_model.specs.Free.{IsNews, IsHad, MayWant, MayBecome}
use Rattle.bep_model.specs.Firm.{OwnHasVersion, ForeignIsAtMost, IsFirm, IsUnchanged}
use Rattle.bep_model.specs.Laws.{FirmStaysFirm}
use Rattle.bep_model.proofs.StaysFacts.{not_deleted, owner_shares}
use Rattle.bep_model.proofs.Winners.{owned_says}

-- ---- one name at one device

-- a foreign record of a firm name is no news
no_news : (own : Option Entry) (entry winner : Entry) → OwnAgrees own (content_of winner) → OwnHasVersion own winner.version → IsHarmless own (content_of winner) entry → IsAtMost entry.version winner.version → ¬ IsNews own entry
no_news None entry winner agrees version harmless within news = not_deleted entry news (harmless ∙ agrees)
no_news (Some own) entry winner agrees version harmless within news =
    ⊎_elim
    (λ local. cc)
    (λ newer. newer (λ id. let one = within id in let two = version.1 id in omega arith))
    news

-- a record of the winner's content is harmless
same_is_harmless : (own : Option Entry) (content : Content) (entry : Entry) → content_of entry ≡ content → IsHarmless own content entry
same_is_harmless None content entry same = same
same_is_harmless (Some own) content entry same = inl same

-- a name is clean where it is unknown, and so where it is clean if it is known
clean_if_known : (node : Option NodeParts) (own : Option Entry) → (IsSome node ⊎ IsSome own → IsClean node own) → IsClean node own
clean_if_known None None clean = tt
clean_if_known None (Some entry) clean = clean (inr refl)
clean_if_known (Some node) own clean = clean (inl refl)

-- the same own records at the sharing devices are the same candidates
same_owned : (t new : Tables) (folder : Folder) (name : FileName) (shares : List (Device × FolderKind)) → ((device : Device) (kind : FolderKind) → Contains shares (device, kind) → new.own device folder name ≡ t.own device folder name) → owned new folder name shares ≡ owned t folder name shares
same_owned t new folder name [] same = refl
same_owned t new folder name (share ∷ more) same =
    let first = same share.0 share.1 (Contains-first share more) in
    let rest = same_owned t new folder name more (λ device kind member. same device kind (Contains-more share more (device, kind) member)) in
    λ i. beside share.0 (first i) ++ rest i

-- ---- a firm cut

module _ (t : Tables) (rows : List Row) (firm : IsFirm t rows) where
  -- what is known at a sharing device's name of which there is a row
  record IsFirmAt (winner : Entry) (device : Device) (folder : Folder) (name : FileName) : Type 0 where
    own : OwnAgrees (t.own device folder name) (content_of winner)
    version : OwnHasVersion (t.own device folder name) winner.version
    store : StoreAgrees (t.node device folder name) (t.own device folder name) (content_of winner)
    harmless : ForeignAgrees t device folder name (content_of winner)
    within : ForeignIsAtMost t device folder name winner.version

  firm_at : (device : Device) (folder : Folder) (name : FileName) → Shares t device folder → (has : HasRow rows folder name) → IsFirmAt has.0.entry device folder name
  firm_at device folder name shares has =
      subst (λ (key : Folder × FileName). Shares t device key.0 → IsFirmAt has.0.entry device key.0 key.1) has.2
      (λ here. record {
        own = firm.settled.own has.0 device has.1 here;
        version = firm.own has.0 device has.1 here;
        store = firm.settled.store has.0 device has.1 here;
        harmless = firm.settled.foreign has.0 device has.1 here;
        within = firm.foreign has.0 device has.1 here;
      })
      shares

  has_row : (folder : Folder) (name : FileName) → IsKnown t folder name → HasRow rows folder name
  has_row folder name = (firm.settled.certificate.names folder name).0

  foreign_has_row : (device : Device) (folder : Folder) (name : FileName) (entry : Entry) → Shares t device folder → IsForeign t device folder name entry → HasRow rows folder name
  foreign_has_row device folder name entry shares foreign = has_row folder name (device, shares, inr (inr (entry, foreign)))

  nothing_wanted : (device : Device) (folder : Folder) (name : FileName) → Shares t device folder → ¬ MayWant t device folder name
  nothing_wanted device folder name shares wants =
      let foreign : IsForeign t device folder name wants.entry = record {
        known_by = ⊎_elim (λ viewed. inl viewed) (λ target. inr (inr target)) wants.had;
        valid = wants.valid;
      } in
      let has = foreign_has_row device folder name wants.entry shares foreign in
      let at = firm_at device folder name shares has in
      no_news (t.own device folder name) wants.entry has.0.entry at.own at.version (at.harmless wants.entry foreign) (at.within wants.entry foreign) wants.news

  all_clean : (device : Device) (folder : Folder) (name : FileName) → Shares t device folder → IsClean (t.node device folder name) (t.own device folder name)
  all_clean device folder name shares =
      clean_if_known (t.node device folder name) (t.own device folder name)
      (λ some.
      let trace : HasTrace t device folder name = ⊎_elim (λ node. inl node) (λ own. inr (inl own)) some in
      (firm_at device folder name shares (has_row folder name (device, shares, trace))).store.clean)

  -- ---- one step from it

  module _ (new : Tables) (step : MayBecome t new) where
    own_stays : (device : Device) (folder : Folder) (name : FileName) → Shares t device folder → new.own device folder name ≡ t.own device folder name
    own_stays device folder name shares =
        ⊎_elim
        (λ same. same)
        (λ leave. absurd (⊎_elim (λ unclean. unclean (all_clean device folder name shares)) (nothing_wanted device folder name shares) leave))
        (step.own device folder name shares)

    node_stays : (device : Device) (folder : Folder) (name : FileName) → Shares t device folder → new.node device folder name ≡ t.node device folder name
    node_stays device folder name shares =
        ⊎_elim
        (λ same. same)
        (λ leave. absurd (nothing_wanted device folder leave.0 shares leave.1))
        (step.node device folder name shares)

    shared_before : (device : Device) (folder : Folder) → Shares new device folder → Shares t device folder
    shared_before device folder shares = (shares.0, subst (λ (s : List (Device × FolderKind)). Contains s (device, shares.0)) (step.sharing folder) shares.1)

    shared_after : (device : Device) (folder : Folder) → Shares t device folder → Shares new device folder
    shared_after device folder shares = (shares.0, subst (λ (s : List (Device × FolderKind)). Contains s (device, shares.0)) (sym (step.sharing folder)) shares.1)

    -- what is foreign was so before, or is an own record of some sharing device
    IsOwnSomewhere : Folder → FileName → Entry → Type 0
    IsOwnSomewhere folder name entry = (sender : Device) × Shares t sender folder × (t.own sender folder name ≡ Some entry)

    flown_before : (device : Device) (folder : Folder) (name : FileName) (entry : Entry) → entry.invalid ≡ false → IsFlying new device folder name entry → IsFlying t device folder name entry ⊎ IsOwnSomewhere folder name entry
    unfolding IsOwnSomewhere
    flown_before device folder name entry valid flying =
        let shares = shared_before flying.sender folder flying.shares in
        ⊎_elim
        (λ was. inl (record { sender = flying.sender; shares = shares; flight = flying.flight; sent = was; same_folder = flying.same_folder; carried = flying.carried; same_name = flying.same_name }))
        (λ carries.
        inr (
          flying.sender,
          shares,
          subst (λ (in_folder : Folder). t.own flying.sender in_folder name ≡ Some entry) flying.same_folder
              (subst (λ (at_name : FileName). t.own flying.sender flying.flight.folder at_name ≡ Some entry) flying.same_name (carries entry flying.carried valid)),
        ))
        (step.flying flying.sender device flying.flight flying.sent)

    had_before : (device : Device) (folder : Folder) (name : FileName) (entry : Entry) → Shares t device folder → entry.invalid ≡ false → IsHad new device folder name entry → IsForeign t device folder name entry
    had_before device folder name entry shares valid had =
        record {
          known_by = ⊎_elim
              (λ was. ⊎_elim (λ viewed. inl viewed) (λ target. inr (inr target)) was)
              (λ flying. inr (inl flying))
              (step.had device folder name entry shares had);
          valid = valid;
        }

    foreign_before : (device : Device) (folder : Folder) (name : FileName) (entry : Entry) → Shares t device folder → IsForeign new device folder name entry → IsForeign t device folder name entry ⊎ IsOwnSomewhere folder name entry
    foreign_before device folder name entry shares foreign =
        ⊎_elim
        (λ viewed. inl (had_before device folder name entry shares foreign.valid (inl viewed)))
        (λ rest.
        ⊎_elim
        (λ flying.
        ⊎_elim
        (λ was. inl (record { known_by = inr (inl was); valid = foreign.valid }))
        (λ own. inr own)
        (flown_before device folder name entry foreign.valid flying))
        (λ target. inl (had_before device folder name entry shares foreign.valid (inr target)))
        rest)
        foreign.known_by

    -- so it is harmless, and not beyond the winner
    record IsWithin (winner : Entry) (device : Device) (folder : Folder) (name : FileName) (entry : Entry) : Type 0 where
      harmless : IsHarmless (t.own device folder name) (content_of winner) entry
      within : IsAtMost entry.version winner.version

    foreign_is_within : (device : Device) (folder : Folder) (name : FileName) → Shares t device folder → (has : HasRow rows folder name) → (entry : Entry) → IsForeign new device folder name entry → IsWithin has.0.entry device folder name entry
    unfolding IsOwnSomewhere
    foreign_is_within device folder name shares has entry foreign =
        ⊎_elim
        (λ was.
        let at = firm_at device folder name shares has in
        record { harmless = at.harmless entry was; within = at.within entry was })
        (λ own.
        let there = firm_at own.0 folder name own.1 has in
        let agrees : OwnAgrees (Some entry) (content_of has.0.entry) = subst (λ (o : Option Entry). OwnAgrees o (content_of has.0.entry)) own.2 there.own in
        let version : OwnHasVersion (Some entry) has.0.entry.version = subst (λ (o : Option Entry). OwnHasVersion o has.0.entry.version) own.2 there.version in
        record { harmless = same_is_harmless (t.own device folder name) (content_of has.0.entry) entry agrees.1; within = version.0 })
        (foreign_before device folder name entry shares foreign)

    -- ---- the certificate

    known_before : (folder : Folder) (name : FileName) → IsKnown new folder name → IsKnown t folder name
    unfolding IsOwnSomewhere
    known_before folder name known =
        let shares = shared_before known.0 folder known.1 in
        ⊎_elim
        (λ node. (known.0, shares, inl (subst (λ (n : Option NodeParts). IsSome n) (node_stays known.0 folder name shares) node)))
        (λ rest.
        ⊎_elim
        (λ own. (known.0, shares, inr (inl (subst (λ (o : Option Entry). IsSome o) (own_stays known.0 folder name shares) own))))
        (λ foreign.
        ⊎_elim
        (λ was. (known.0, shares, inr (inr (foreign.0, was))))
        (λ own. (own.0, own.1, inr (inl (subst (λ (o : Option Entry). IsSome o) (sym own.2) refl))))
        (foreign_before known.0 folder name foreign.0 shares foreign.1))
        rest)
        known.2

    same_candidates : (folder : Folder) (name : FileName) → own_candidates new folder name ≡ own_candidates t folder name
    same_candidates folder name =
        ap (owned new folder name) (step.sharing folder) ∙
        same_owned t new folder name (t.sharing folder) (λ device kind member. own_stays device folder name (kind, member))

    still_wins : (row : Row) → Contains rows row → IsWinner new row.folder row.entry.name (row.device, row.entry)
    still_wins row member =
        subst (λ (candidates : List Candidate). IsChoice (smallest (new.sharing row.folder)) candidates (row.device, row.entry)) (sym (same_candidates row.folder row.entry.name))
        (subst (λ (s : List (Device × FolderKind)). IsChoice (smallest s) (own_candidates t row.folder row.entry.name) (row.device, row.entry)) (sym (step.sharing row.folder))
        (firm.settled.certificate.winners row member))

    -- a row's winner has its record still
    row_is_known : (row : Row) → Contains rows row → IsKnown new row.folder row.entry.name
    row_is_known row member =
        let wins = firm.settled.certificate.winners row member in
        let shares = owner_shares t row.folder row.entry.name (t.sharing row.folder) (row.device, row.entry) wins.left.valid.0 in
        let own = owned_says t row.folder row.entry.name (t.sharing row.folder) (row.device, row.entry) wins.left.valid.0 in
        let now = own_stays row.device row.folder row.entry.name shares ∙ own in
        (row.device, shared_after row.device row.folder shares, inr (inl (subst (λ (o : Option Entry). IsSome o) (sym now) refl)))

    still_known : (folder : Folder) (name : FileName) → HasRow rows folder name → IsKnown new folder name
    still_known folder name has = subst (λ (key : Folder × FileName). IsKnown new key.0 key.1) has.2 (row_is_known has.0 has.1)

    -- ---- the whole

    pub firm_after : IsFirm new rows
    firm_after = record {
      settled = record {
        certificate = record {
          rise = firm.settled.certificate.rise;
          names = λ folder name. (λ known. has_row folder name (known_before folder name known), still_known folder name);
          winners = still_wins;
        };
        own = λ row device member shares.
            let before = shared_before device row.folder shares in
            subst (λ (o : Option Entry). OwnAgrees o (content_of row.entry)) (sym (own_stays device row.folder row.entry.name before)) (firm.settled.own row device member before);
        store = λ row device member shares.
            let before = shared_before device row.folder shares in
            subst (λ (n : Option NodeParts). StoreAgrees n (new.own device row.folder row.entry.name) (content_of row.entry)) (sym (node_stays device row.folder row.entry.name before))
            (subst (λ (o : Option Entry). StoreAgrees (t.node device row.folder row.entry.name) o (content_of row.entry)) (sym (own_stays device row.folder row.entry.name before)) (firm.settled.store row device member before));
        foreign = λ row device member shares entry foreign.
            let before = shared_before device row.folder shares in
            subst (λ (o : Option Entry). IsHarmless o (content_of row.entry) entry) (sym (own_stays device row.folder row.entry.name before))
            (foreign_is_within device row.folder row.entry.name before (row, member, refl) entry foreign).harmless;
      };
      own = λ row device member shares.
          let before = shared_before device row.folder shares in
          subst (λ (o : Option Entry). OwnHasVersion o row.entry.version) (sym (own_stays device row.folder row.entry.name before)) (firm.own row device member before);
      foreign = λ row device member shares entry foreign.
          (foreign_is_within device row.folder row.entry.name (shared_before device row.folder shares) (row, member, refl) entry foreign).within;
    }

    pub unchanged_after : IsUnchanged t new
    unchanged_after = record { own = own_stays; node = node_stays }

    pub shares_stay : (device : Device) (folder : Folder) → Shares t device folder → Shares new device folder
    shares_stay = shared_after

-- ---- every run from it

pub firm_stays_firm_lem : FirmStaysFirm
firm_stays_firm_lem t rows firm later [] run = (
  subst (λ (one : Tables). IsFirm one rows) (sym run) firm,
  subst (λ (one : Tables). IsUnchanged t one) (sym run) (record { own = λ device folder name shares. refl; node = λ device folder name shares. refl }),
)
firm_stays_firm_lem t rows firm later (next ∷ more) run =
    let rest = firm_stays_firm_lem next rows (firm_after t rows firm next run.0) later more run.1 in
    let shares = shares_stay t rows firm next run.0 in (
      rest.0,
      record {
        own = λ device folder name here. rest.1.own device folder name (shares device folder here) ∙ own_stays t rows firm next run.0 device folder name here;
        node = λ device folder name here. rest.1.node device folder name (shares device folder here) ∙ node_stays t rows firm next run.0 device folder name here;
      },
    )
