-- There is a verdict on every finite cut.
use Rattle.std.proofs.Common.{◌≡◌, ◌≢◌, ◌⊎◌, ◌<◌, ℕ, zero, suc, List, Contains, Option, Some, None, refl, sym, ap, subst, ◌∙◌, inl, inr, ⊎_elim, arith}
use Rattle.std.proofs.lemmas.Bool.{cases_eq}
use Rattle.std.specs.declared.cmp.Ordering.TheVariants.{Less}
use Rattle.bep_record.specs.declared.folder_kind.FolderKind.{FolderKind}
use Rattle.bep_model.specs.declared.row.Row.{Row}
use Rattle.bep_model.specs.declared.reason.Reason.{Reason}
use Rattle.bep_model.specs.declared.reason.Reason.TheVariants.{CertificateOrder, NameMissing, NameUnknown, NotWinner}
use Rattle.bep_model.specs.Tables.{Tables, Device, Folder, FileName, Shares}
use Rattle.bep_model.specs.Foreign.{IsFinite}
use Rattle.bep_model.specs.Settled.{HasRow, key_of}
use Rattle.bep_model.specs.Reasons.{Place, Asks, AsksAt, AsksName, AsksDevice, first_disordered, place_cmp}
use Rattle.bep_model.specs.Verdict.{Verdict, Settled, Not, number_of, IsVerdict}
use Rattle.bep_model.specs.Laws.{VerdictExists}
use Rattle.bep_model.proofs.Deciding.{Finite, finite_list, finite_one, finite_option, finite_or, finite_union}
use Rattle.bep_model.proofs.Faultless.{settled_is_faultless_lem}
use Rattle.bep_model.proofs.Verdicts.{reason_at, reason_at_number, number_within, place_total}
use Rattle.bep_model.proofs.FirstFault.{holds_or_first}
use Rattle.bep_model.proofs.Winners.{OneChoice}
use Rattle.bep_model.proofs.CutDecided.{SomeChoice, same_key, known_or_not, share_or_not, has_row_or_not, asks_or_not}

-- ---- where something can fail

module _ (some_choice : SomeChoice) (one_choice : OneChoice) (t : Tables) (finite : IsFinite t) (rows : List Row) where
  -- a name at which something can fail
  IsNamed : Folder × FileName → Type 0
  IsNamed key =
      (first_disordered rows ≡ Some key) ⊎ (Contains finite.names key ⊎ ((row : Row) × (Contains rows row × (key_of row ≡ key))))

  named_finite : Finite IsNamed
  unfolding IsNamed
  named_finite =
      finite_or _ _ (finite_option (first_disordered rows))
      (finite_or _ _ (finite_list finite.names) (finite_union (λ (row : Row) key. key_of row ≡ key) (λ row. finite_one (key_of row)) rows))

  abbrev place_of_name : Folder × FileName → Place
  place_of_name key = record { folder = key.0; name = key.1; device = None }

  abbrev place_of_share : Row → Device × FolderKind → Place
  place_of_share row share = record { folder = row.folder; name = row.entry.name; device = Some share.0 }

  -- a place at which something can fail
  IsPlace : Place → Type 0
  IsPlace place =
      ((key : Folder × FileName) × (Contains named_finite.members key × (place_of_name key ≡ place)))
      ⊎ ((row : Row) × (Contains rows row × ((share : Device × FolderKind) × (Contains (t.sharing row.folder) share × (place_of_share row share ≡ place)))))

  places_finite : Finite IsPlace
  unfolding IsPlace
  places_finite =
      finite_or _ _
      (finite_union (λ key place. place_of_name key ≡ place) (λ key. finite_one (place_of_name key)) named_finite.members)
      (finite_union
      (λ (row : Row) (place : Place). (share : Device × FolderKind) × (Contains (t.sharing row.folder) share × (place_of_share row share ≡ place)))
      (λ row. finite_union (λ (share : Device × FolderKind) (place : Place). place_of_share row share ≡ place) (λ share. finite_one (place_of_share row share)) (t.sharing row.folder))
      rows)

  in_option : (o : Option (Folder × FileName)) (folder : Folder) (name : FileName) → ¬ (o ≢ Some (folder, name)) → o ≡ Some (folder, name)
  in_option None folder name fails = absurd (fails (λ e. cc))
  in_option (Some key) folder name fails =
      ⊎_elim (λ same. ap Some same) (λ differs. absurd (fails (λ e. differs (same_inside e)))) (same_key key (folder, name))
    where
      same_inside : Some key ≡ Some (folder, name) → ◌≡◌ {A = Folder × FileName} key (folder, name)
      same_inside e = cc

  of_row : (folder : Folder) (name : FileName) → HasRow rows folder name → IsNamed (folder, name)
  unfolding IsNamed
  of_row folder name has = inr (inr (has.0, (has.1, has.2)))

  name_covers : (reason : Reason) (folder : Folder) (name : FileName) → ¬ AsksName t rows reason folder name → IsNamed (folder, name)
  unfolding IsNamed
  name_covers CertificateOrder folder name fails = inl (in_option (first_disordered rows) folder name fails)
  name_covers NameMissing folder name fails =
      ⊎_elim
      (λ known. inr (inl (finite.all_known folder name known)))
      (λ unknown. absurd (fails (λ known. absurd (unknown known))))
      (known_or_not t finite folder name)
  name_covers NameUnknown folder name fails =
      ⊎_elim (of_row folder name) (λ none. absurd (fails (λ has. absurd (none has)))) (has_row_or_not rows folder name)
  name_covers NotWinner folder name fails =
      ⊎_elim (of_row folder name) (λ none. absurd (fails (λ row member key. absurd (none (row, member, key))))) (has_row_or_not rows folder name)
  name_covers _ folder name fails = absurd (fails tt)

  device_covers : (reason : Reason) (folder : Folder) (name : FileName) (device : Device) → ¬ AsksDevice t rows reason folder name device → IsPlace (record { folder = folder; name = name; device = Some device })
  unfolding IsPlace
  device_covers reason folder name device fails =
      ⊎_elim
      (λ has.
      ⊎_elim
      (λ shares. inr (has.0, (has.1, share_of has.0 has.2 shares)))
      (λ not_shared. absurd (fails (λ row member key shares. absurd (not_shared shares))))
      (share_or_not t finite device folder))
      (λ none. absurd (fails (λ row member key. absurd (none (row, member, key)))))
      (has_row_or_not rows folder name)
    where
      share_of : (row : Row) → ◌≡◌ {A = Folder × FileName} (key_of row) (folder, name) → Shares t device folder → (share : Device × FolderKind) × (Contains (t.sharing row.folder) share × (place_of_share row share ≡ record { folder = folder; name = name; device = Some device }))
      share_of row key shares = (
        (device, shares.0),
        (
          subst (λ (k : Folder × FileName). Contains (t.sharing k.0) (device, shares.0)) (sym key) shares.1,
          λ i. record { folder = (key i).0; name = (key i).1; device = Some device },
        ),
      )

  covers_at : (reason : Reason) (folder : Folder) (name : FileName) (device : Option Device) → ¬ AsksAt t rows reason folder name device → IsPlace (record { folder = folder; name = name; device = device })
  unfolding IsPlace
  covers_at reason folder name None fails = inl ((folder, name), (named_finite.there (folder, name) (name_covers reason folder name fails), refl))
  covers_at reason folder name (Some device) fails = device_covers reason folder name device fails

  -- ---- reason by reason

  Faultless : Reason → Type 0
  Faultless reason = (place : Place) → Asks t rows reason place

  FirstPlace : Reason → Type 0
  FirstPlace reason = (first : Place) × (¬ Asks t rows reason first × ((place : Place) → place_cmp place first ≡ Less → Asks t rows reason place))

  faultless_or_first : (reason : Reason) → Faultless reason ⊎ FirstPlace reason
  unfolding Faultless FirstPlace
  faultless_or_first reason =
      holds_or_first place_cmp place_total (Asks t rows reason) (asks_or_not some_choice one_choice t finite rows reason) places_finite.members
      (λ place fails. places_finite.there place (covers_at reason place.folder place.name place.device fails))

  FaultlessBelow : ℕ → Type 0
  FaultlessBelow n = (reason : Reason) → number_of reason < n → Faultless reason

  Found : Type 0
  Found = (verdict : Verdict) × IsVerdict t rows verdict

  below_more : (n : ℕ) (reason : Reason) → FaultlessBelow n → (number_of reason ≡ n → Faultless reason) → (other : Reason) → reason_at n ≡ reason → number_of other < suc n → Faultless other
  unfolding FaultlessBelow
  below_more n reason below here other e less =
      ⊎_elim
      (λ same.
      let is_it : reason ≡ other = sym e ∙ ap reason_at (sym same) ∙ reason_at_number other in
      subst Faultless is_it (here (ap number_of is_it ∙ same)))
      (λ differs. below other (omega arith))
      (cases_eq (number_of other) n)

  found_at : (n : ℕ) (reason : Reason) → number_of reason ≡ n → FaultlessBelow n → FirstPlace reason → Found
  unfolding FaultlessBelow Found Faultless FirstPlace
  found_at n reason e below first = (
    Not reason first.0.folder first.0.name first.0.device,
    record {
      fails = first.1.0;
      least = λ lesser any less. below lesser (omega (arith, e, less)) any;
      first = first.1.1;
    },
  )

  step : (n : ℕ) → FaultlessBelow n → FaultlessBelow (suc n) ⊎ Found
  unfolding FaultlessBelow
  step n below =
      let reason = reason_at n in
      ⊎_elim
      (λ holds. inl (λ other less. below_more n reason below (λ _. holds) other refl less))
      (λ first.
      ⊎_elim
      (λ same. inr (found_at n reason same below first))
      (λ differs. inl (λ other less. below_more n reason below (λ same. absurd (differs same)) other refl less))
      (cases_eq (number_of reason) n))
      (faultless_or_first reason)

  below_or_found : (n : ℕ) → FaultlessBelow n ⊎ Found
  unfolding FaultlessBelow
  below_or_found zero = inl (λ reason less. absurd (omega arith))
  below_or_found (suc n) = ⊎_elim (step n) inr (below_or_found n)

  all_below : (reason : Reason) → number_of reason < 13
  all_below reason = let within = number_within reason in omega (arith, within.1)

  verdict_found : Found
  unfolding FaultlessBelow Found Faultless
  verdict_found =
      ⊎_elim
      (λ below. (Settled, (settled_is_faultless_lem t rows).1 (λ reason place. below reason (all_below reason) place)))
      (λ found. found)
      (below_or_found 13)

pub verdict_exists_lem : SomeChoice → OneChoice → VerdictExists
unfolding Found
verdict_exists_lem some_choice one_choice t rows finite = verdict_found some_choice one_choice t finite rows
