-- An override puts the own content above the chosen record, and a revert takes a local change back.
use Rattle.std.proofs.Common.{◌≡◌, ◌≢◌, ◌≤◌, ℕ, ◌+◌, max, List, [], Option, Some, None, refl, sym, subst, ◌∙◌, inr, arith}
use Rattle.bep_record.specs.declared.entry.Entry.{Entry}
use Rattle.bep_record.specs.Content.{content_of}
use Rattle.bep_record.specs.Laws.{BumpExists, MergeExists}
use Rattle.bep_record.specs.Vector.{counter_of, greatest_counter, IsVersion, IsAtMost, IsBelow, IsMerge, IsBump}
use Rattle.bep_index.specs.Index.{numbered}
use Rattle.bep_model.specs.Tables.{Device, FileName}
use Rattle.bep_machine.specs.Answer.{Done}
use Rattle.bep_machine.specs.declared.moved.Moved.TheVariants.{Changed}
use Rattle.bep_machine.specs.Replica.{own_at, version_of, with_record, with_node}
use Rattle.bep_machine.specs.Local.{IsLocalOnly, IsMergedAndRaised, OverridingRow, RevertedRow, deletion_of, overriding}
use Rattle.bep_machine.specs.Effects.{OverrideWins, RevertTakesBack, content_owned}
use Rattle.bep_machine.proofs.EffectFacts.{none_fails, put_row, own_version, counter_is_bounded}
use Rattle.bep_machine.proofs.GoodChoice.{chosen_is_good}
use Rattle.bep_machine.proofs.ReplicaFacts.{with_record_here, with_record_apart, remove_apart, remove_here}

-- ---- override

overriding_name : (device : Device) (name : FileName) (own : Option Entry) (chosen : Entry) (version : List (ℕ × ℕ)) → ((e : Entry) → own ≡ Some e → e.name ≡ name) → (overriding device name own chosen version).name ≡ name
overriding_name device name None chosen version named = refl
overriding_name device name (Some own) chosen version named = named own refl

overriding_content : (device : Device) (name : FileName) (own : Option Entry) (chosen : Entry) (version : List (ℕ × ℕ)) (sequence : ℕ) → content_of (numbered (overriding device name own chosen version) sequence) ≡ content_owned own
overriding_content device name None chosen version sequence = refl
overriding_content device name (Some own) chosen version sequence = refl

overriding_version : (device : Device) (name : FileName) (own : Option Entry) (chosen : Entry) (version : List (ℕ × ℕ)) → (overriding device name own chosen version).version ≡ version
overriding_version device name None chosen version = refl
overriding_version device name (Some own) chosen version = refl

-- what is asked of versions: a merge is above both, a bump above its vector, and so above what that is above
module _ (merge_exists : MergeExists) (bump_exists : BumpExists)
    (merge_is_above : (u v w : List (ℕ × ℕ)) → IsMerge u v w → IsAtMost v w)
    (bump_is_above : (u w : List (ℕ × ℕ)) (id : ℕ) → IsBump u id w → IsBelow u w)
    (from_below : (u v w : List (ℕ × ℕ)) → IsAtMost u v → IsBelow v w → IsBelow u w) where
  -- the version that wins
  raised_exists : (device : Device) (u v : List (ℕ × ℕ)) → 1 ≤ device → IsVersion u → IsVersion v → max (counter_of u device) (counter_of v device) ≢ greatest_counter → (version : List (ℕ × ℕ)) × IsMergedAndRaised device u v version × IsBelow v version
  raised_exists device u v device_is is too not_full =
      let merged = merge_exists u v is too in
      let bound = counter_is_bounded merged.0 device merged.1.version in
      let at_device = merged.1.merge device in
      let bumped = bump_exists merged.0 device merged.1.version device_is (omega (arith, bound, at_device, not_full)) in (
        bumped.0,
        record { merged = merged.0; merge = merged.1.merge; bump = bumped.1.bump; version = bumped.1.version },
        from_below v merged.0 bumped.0 (merge_is_above u v merged.0 merged.1.merge) (bump_is_above merged.0 bumped.0 device bumped.1.bump),
      )

  pub override_wins_lem : OverrideWins
  override_wins_lem device name old chosen device_is sound kind chooses overridable not_full few room =
      let own = own_at old name in
      let raised = raised_exists device (version_of own) chosen.version device_is (own_version device old name sound) (chosen_is_good device old name chosen sound chooses).good.good.version not_full in
      let entry = overriding device name own chosen raised.0 in
      let IsNew : Entry → Type 0 = λ entry. (version : List (ℕ × ℕ)) × IsMergedAndRaised device (version_of own) chosen.version version × (entry ≡ overriding device name own chosen version) in
      let put = put_row name IsNew old entry room (raised.0, raised.1, refl) in
      let row : OverridingRow device name chosen old (with_record old entry) (Done Changed) = inr (not_full, inr (λ many. omega (arith, few, many), put)) in
      let named : entry.name ≡ name = overriding_name device name own chosen raised.0 (λ e is. (sound.index.numbered name e is).0) in (
        with_record old entry,
        numbered entry (old.index.sequence + 1),
        inr (λ no. no kind, inr (λ no. no (chosen, chooses, overridable), (chosen, chooses, row))),
        subst (λ (n : FileName). own_at (with_record old entry) n ≡ Some (numbered entry (old.index.sequence + 1))) named (with_record_here old entry),
        overriding_content device name own chosen raised.0 (old.index.sequence + 1),
        subst (λ (v : List (ℕ × ℕ)). IsBelow chosen.version v) (sym (overriding_version device name own chosen raised.0)) raised.2,
        refl,
        record {
          records = λ other apart. with_record_apart old entry other (λ same. apart (same ∙ named));
          files = λ other apart. refl;
          pulls = refl;
          views = refl;
        },
      )

-- ---- revert

pub revert_takes_back_lem : RevertTakesBack
revert_takes_back_lem device name old own kind is local_only clean not_full =
    let left = deletion_of device name own [] in
    let new = with_record (with_node old name None) left in
    let reverted : RevertedRow device name None (own_at old name) old new (Done Changed) =
    subst (λ (o : Option Entry). RevertedRow device name None o old new (Done Changed)) (sym is) (inr (λ fails. none_fails 2 fails.1, (refl, refl))) in
    let marked : IsLocalOnly (own_at old name) = subst IsLocalOnly (sym is) local_only in (
      new,
      numbered left (old.index.sequence + 1),
      inr (λ no. no kind, inr (λ no. no marked, inr (none_fails 1, inr (λ unclean. unclean clean, inr (not_full, reverted))))),
      with_record_here (with_node old name None) left,
      remove_here old.store name,
      refl,
      refl,
      refl,
      record {
        records = λ other apart. with_record_apart (with_node old name None) left other apart;
        files = λ other apart. remove_apart old.store name other apart;
        pulls = refl;
        views = refl;
      },
    )
