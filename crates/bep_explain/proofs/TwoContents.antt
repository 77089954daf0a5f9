-- Two contents are enough: what a device meets beside two rows about a name whose contents differ, it meets beside each row
-- about it.
use Rattle.std.proofs.Common.{◌≡◌, ◌≢◌, false, Option, Some, None, sym, subst, ◌∙◌, inr, ⊎_elim}
use Rattle.std.specs.Prelude.{⊤}
use Rattle.bep_record.specs.declared.entry.Entry.{Entry}
use Rattle.bep_record.specs.Content.{Content, Deleted, content_of}
use Rattle.bep_record.specs.Node.{IsClean}
use Rattle.bep_model.specs.declared.row.Row.{Row}
use Rattle.bep_model.specs.declared.reason.Reason.{Reason}
use Rattle.bep_model.specs.declared.reason.Reason.TheVariants.{RecordMissing, RecordDiffers, LocalOnly, StoreDiffers, StoreUnclean, ViewAhead, FlightAhead, PullAhead}
use Rattle.bep_model.specs.Tables.{Tables, Device, Folder, FileName}
use Rattle.bep_model.specs.Foreign.{IsViewed, IsFlying, IsTarget, IsHarmless}
use Rattle.bep_model.specs.Settled.{content_of_node, key_of}
use Rattle.bep_model.specs.Reasons.{AsksShare}

module _ (t : Tables) (device : Device) (key : Folder × FileName) where
  -- a record that isn't invalid can't change this content of the name at the device
  abbrev IsSafe : Content → Entry → Type 0
  IsSafe content entry = entry.invalid ≡ false → IsHarmless (t.own device key.0 key.1) content entry

  -- what a reason asks of the device beside a row about the name with this content
  abbrev AsksOf : Reason → Content → Type 0
  AsksOf RecordMissing content = t.own device key.0 key.1 ≡ None → content ≡ Deleted
  AsksOf RecordDiffers content = (own : Entry) → t.own device key.0 key.1 ≡ Some own → own.invalid ≡ false → content_of own ≡ content
  AsksOf LocalOnly content = (own : Entry) → t.own device key.0 key.1 ≡ Some own → own.invalid ≡ false
  AsksOf StoreDiffers content = content_of_node (t.node device key.0 key.1) ≡ content
  AsksOf StoreUnclean content = IsClean (t.node device key.0 key.1) (t.own device key.0 key.1)
  AsksOf ViewAhead content = (entry : Entry) → IsViewed t device key.0 key.1 entry → IsSafe content entry
  AsksOf FlightAhead content = (entry : Entry) → IsFlying t device key.0 key.1 entry → IsSafe content entry
  AsksOf PullAhead content = (entry : Entry) → IsTarget t device key.0 key.1 entry → IsSafe content entry
  AsksOf reason content = ⊤

  harmless_third : (own : Option Entry) (one other third : Content) (entry : Entry) → one ≢ other → IsHarmless own one entry → IsHarmless own other entry → IsHarmless own third entry
  harmless_third None one other third entry apart first second = absurd (apart (sym first ∙ second))
  harmless_third (Some own) one other third entry apart first second =
      ⊎_elim
      (λ same. ⊎_elim (λ too. absurd (apart (sym same ∙ too))) (λ below. inr below) second)
      (λ below. inr below)
      first

  third_is_met : (reason : Reason) (one other third : Content) → one ≢ other → AsksOf reason one → AsksOf reason other → AsksOf reason third
  third_is_met RecordMissing one other third apart first second = λ none. absurd (apart (first none ∙ sym (second none)))
  third_is_met RecordDiffers one other third apart first second = λ own is valid. absurd (apart (sym (first own is valid) ∙ second own is valid))
  third_is_met LocalOnly one other third apart first second = first
  third_is_met StoreDiffers one other third apart first second = absurd (apart (sym first ∙ second))
  third_is_met StoreUnclean one other third apart first second = first
  third_is_met ViewAhead one other third apart first second =
      λ entry there valid. harmless_third (t.own device key.0 key.1) one other third entry apart (first entry there valid) (second entry there valid)
  third_is_met FlightAhead one other third apart first second =
      λ entry there valid. harmless_third (t.own device key.0 key.1) one other third entry apart (first entry there valid) (second entry there valid)
  third_is_met PullAhead one other third apart first second =
      λ entry there valid. harmless_third (t.own device key.0 key.1) one other third entry apart (first entry there valid) (second entry there valid)
  third_is_met _ one other third apart first second = tt

module _ (t : Tables) (device : Device) (row : Row) where
  to_content : (reason : Reason) → AsksShare t reason row device → AsksOf t device (key_of row) reason (content_of row.entry)
  to_content RecordMissing asks = asks
  to_content RecordDiffers asks = asks
  to_content LocalOnly asks = asks
  to_content StoreDiffers asks = asks
  to_content StoreUnclean asks = asks
  to_content ViewAhead asks = asks
  to_content FlightAhead asks = asks
  to_content PullAhead asks = asks
  to_content _ asks = tt

  from_content : (reason : Reason) → AsksOf t device (key_of row) reason (content_of row.entry) → AsksShare t reason row device
  from_content RecordMissing asks = asks
  from_content RecordDiffers asks = asks
  from_content LocalOnly asks = asks
  from_content StoreDiffers asks = asks
  from_content StoreUnclean asks = asks
  from_content ViewAhead asks = asks
  from_content FlightAhead asks = asks
  from_content PullAhead asks = asks
  from_content _ asks = tt

-- a row with the same content is asked the same
pub same_content_suffices : (t : Tables) (reason : Reason) (device : Device) (row third : Row) → key_of third ≡ key_of row → content_of third.entry ≡ content_of row.entry → AsksShare t reason row device → AsksShare t reason third device
same_content_suffices t reason device row third same content asks =
    from_content t device third reason
    (subst (λ (k : Folder × FileName). AsksOf t device k reason (content_of third.entry)) (sym same)
    (subst (λ (c : Content). AsksOf t device (key_of row) reason c) (sym content) (to_content t device row reason asks)))

-- the law
pub two_contents_suffice : (t : Tables) (reason : Reason) (device : Device) (row other third : Row) → key_of other ≡ key_of row → key_of third ≡ key_of row → content_of other.entry ≢ content_of row.entry → AsksShare t reason row device → AsksShare t reason other device → AsksShare t reason third device
two_contents_suffice t reason device row other third same_other same_third apart first second =
    from_content t device third reason
    (subst (λ (k : Folder × FileName). AsksOf t device k reason (content_of third.entry)) (sym same_third)
    (third_is_met t device (key_of row) reason (content_of row.entry) (content_of other.entry) (content_of third.entry) (λ e. apart (sym e))
    (to_content t device row reason first)
    (subst (λ (k : Folder × FileName). AsksOf t device k reason (content_of other.entry)) same_other (to_content t device other reason second))))
