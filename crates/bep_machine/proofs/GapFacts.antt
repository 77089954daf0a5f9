-- What a receiver has of an index, while the index goes on growing: views, and batches on their way to them.
use Rattle.std.proofs.Common.{◌≡◌, ◌⊎◌, ◌≤◌, ◌<◌, ◌+◌, ℕ, List, [], ◌∷◌, Option, Some, None, nat_lt, refl, sym, ap, subst, ◌∙◌, inl, inr, ⊎_elim, arith}
use Rattle.std.specs.FinMap.{empty, get}
use Rattle.std.specs.Ordering.{nat_cmp}
use Rattle.std.specs.Cmp.Lexicographic.{slice_cmp}
use Rattle.std.proofs.lemmas.Cmp.{nat_list_cmp_total}
use Rattle.std.proofs.lemmas.Bool.{cases_Bool}
use Rattle.std.proofs.lemmas.Bool.Decides.{nat_tests}
use Rattle.std.proofs.lemmas.Map.Lookups.{exact_bytes}
use Rattle.bep_facts.specs.Maps.{nothing_in_empty, get-insert_here, get-insert_apart, found_after_insert}
use Rattle.bep_record.specs.declared.entry.Entry.{Entry}
use Rattle.bep_index.specs.Listing.{Listing}
use Rattle.bep_index.specs.Index.{IsIndex, after_put, numbered}
use Rattle.bep_index.specs.Batch.{Rises, HasNo, NamesDiffer, last_sequence, with_all}
use Rattle.bep_index.specs.After.{IsAmong, AreRecords, IsAfter}
use Rattle.bep_index.specs.View.{replaced, amended}
use Rattle.bep_index.specs.Laws.{FoundIsOfBatchOrBefore, BatchIsFound, OthersAreKept}
use Rattle.bep_model.specs.Tables.{FileName}
use Rattle.bep_machine.specs.Gapless.{HasNoGap}
use Rattle.bep_machine.proofs.BatchSent.{names_differ}
use Rattle.bep_machine.proofs.ReplicaFacts.{same_name_or_not}

-- A batch that was sent, of what came after a sequence: what is still there of these sequences is in it, and nothing in
-- it is newer than the index.
pub record IsSent (index : Listing) (low : ℕ) (batch : List Entry) : Type 0 where
  pub whole : (name : FileName) (entry : Entry) → get index.records name ≡ Some entry → low < entry.sequence → entry.sequence ≤ last_sequence low batch → IsAmong entry batch
  pub present : (entry : Entry) → IsAmong entry batch → (now : Entry) × (get index.records entry.name ≡ Some now) × (entry.sequence ≤ now.sequence)
  pub rises : Rises low batch
  pub differ : NamesDiffer batch
  pub behind : last_sequence low batch ≤ index.sequence

-- ---- the index grows

-- what is found after a put is the new record, or stood there before under another name
found_after_put : (index : Listing) (put : Entry) (name : FileName) (entry : Entry) → get (after_put index put).records name ≡ Some entry →
    ((name ≡ put.name) × (entry ≡ numbered put (index.sequence + 1))) ⊎ (get index.records name ≡ Some entry)
found_after_put index put name entry found =
    ⊎_elim (λ new. inl new) (λ old. inr old.1)
    (found_after_insert nat_list_cmp_total exact_bytes index.records put.name (numbered put (index.sequence + 1)) name entry found)

-- a name that had a record has one that isn't older
not_older_after_put : (index : Listing) (put : Entry) → IsIndex index → (name : FileName) (now : Entry) → get index.records name ≡ Some now →
    (later : Entry) × (get (after_put index put).records name ≡ Some later) × (now.sequence ≤ later.sequence)
not_older_after_put index put is_index name now there =
    ⊎_elim
    (λ same. (
      numbered put (index.sequence + 1),
      ap (get (after_put index put).records) same ∙ get-insert_here nat_list_cmp_total exact_bytes index.records put.name (numbered put (index.sequence + 1)),
      omega (arith, (is_index.numbered name now there).2),
    ))
    (λ apart. (now, get-insert_apart nat_list_cmp_total exact_bytes index.records put.name (numbered put (index.sequence + 1)) name apart ∙ there, omega arith))
    (same_name_or_not name put.name)

pub keeps_up_after_put : (index view : Listing) (put : Entry) → IsIndex index → HasNoGap index view → HasNoGap (after_put index put) view
keeps_up_after_put index view put is_index keeps = record {
  held = λ name entry found small.
      ⊎_elim
      (λ new. let e : entry.sequence ≡ index.sequence + 1 = ap (λ (x : Entry). x.sequence) new.1 in absurd (omega (arith, e, small, keeps.behind)))
      (λ old. keeps.held name entry old small)
      (found_after_put index put name entry found);
  named = λ name entry seen.
      let present = keeps.named name entry seen in
      let later = not_older_after_put index put is_index name present.0 present.1 in
      (later.0, later.1, omega (arith, present.2, later.2));
  behind = omega (arith, keeps.behind);
}

pub sent_after_put : (index : Listing) (low : ℕ) (batch : List Entry) (put : Entry) → IsIndex index → IsSent index low batch → IsSent (after_put index put) low batch
sent_after_put index low batch put is_index sent = record {
  whole = λ name entry found above small.
      ⊎_elim
      (λ new. let e : entry.sequence ≡ index.sequence + 1 = ap (λ (x : Entry). x.sequence) new.1 in absurd (omega (arith, e, small, sent.behind)))
      (λ old. sent.whole name entry old above small)
      (found_after_put index put name entry found);
  present = λ entry among.
      let now = sent.present entry among in
      let later = not_older_after_put index put is_index entry.name now.0 now.1 in
      (later.0, later.1, omega (arith, now.2, later.2));
  rises = sent.rises;
  differ = sent.differ;
  behind = omega (arith, sent.behind);
}

-- ---- what is announced is sent

some_sequence : (one other : Entry) → Some one ≡ Some other → one.sequence ≡ other.sequence
some_sequence one other same = ap sequence_of same
  where
    sequence_of : Option Entry → ℕ
    sequence_of None = 0
    sequence_of (Some entry) = entry.sequence

recorded : (index : Listing) (batch : List Entry) → AreRecords index.records batch → (entry : Entry) → IsAmong entry batch → get index.records entry.name ≡ Some entry
recorded index [] all entry among = absurd among
recorded index (first ∷ more) all entry among =
    ⊎_elim
    (λ here. subst (λ (e : Entry). get index.records e.name ≡ Some e) (sym here) all.0)
    (λ later. recorded index more all.1 entry later)
    among

last_is_given : (index : Listing) (low : ℕ) (batch : List Entry) → IsIndex index → low ≤ index.sequence → AreRecords index.records batch → last_sequence low batch ≤ index.sequence
last_is_given index low [] is_index given all = given
last_is_given index low (first ∷ more) is_index given all =
    last_is_given index first.sequence more is_index (is_index.numbered first.name first all.0).2 all.1

pub sent_when_announced : (index : Listing) (low limit : ℕ) (batch : List Entry) → IsIndex index → low ≤ index.sequence → IsAfter index.records low limit batch → IsSent index low batch
sent_when_announced index low limit batch is_index given after = record {
  whole = λ name entry found above small.
      let named = (is_index.numbered name entry found).0 in
      after.run.whole entry (subst (λ (n : FileName). get index.records n ≡ Some entry) (sym named) found) above small;
  present = λ entry among. (entry, recorded index batch after.run.recorded entry among, omega arith);
  rises = after.run.rises;
  differ = names_differ index.records low batch after.run.rises after.run.recorded;
  behind = last_is_given index low batch is_index given after.run.recorded;
}

-- ---- what is sent is taken

pub above_low : (low : ℕ) (batch : List Entry) → Rises low batch → (entry : Entry) → IsAmong entry batch → low < entry.sequence
above_low low [] rises entry among = absurd among
above_low low (first ∷ more) rises entry among =
    ⊎_elim
    (λ here. subst (λ (e : Entry). low < e.sequence) (sym here) rises.0)
    (λ later. let next = above_low first.sequence more rises.2 entry later in omega (arith, next, rises.0))
    among

pub above_or_not : (n m : ℕ) → (m < n) ⊎ (n ≤ m)
above_or_not n m =
    ⊎_elim
    (λ below. inl (grind (arith, nat_tests)))
    (λ above. inr (grind (arith, nat_tests)))
    (cases_Bool (nat_lt m n))

-- a name is that of one of the batch, or of none
named_or_not : (name : FileName) (batch : List Entry) → ((entry : Entry) × IsAmong entry batch × (entry.name ≡ name)) ⊎ HasNo name batch
named_or_not name [] = inr tt
named_or_not name (first ∷ more) =
    ⊎_elim
    (λ here. inl (first, inl refl, here))
    (λ apart.
    ⊎_elim
    (λ later. inl (later.0, inr later.1, later.2))
    (λ none. inr (apart, none))
    (named_or_not name more))
    (same_name_or_not first.name name)

module _ (found : FoundIsOfBatchOrBefore) (taken : BatchIsFound) (others : OthersAreKept) where
  pub keeps_up_when_amended : (index view : Listing) (batch : List Entry) → IsIndex index → HasNoGap index view → IsSent index view.sequence batch → HasNoGap index (amended view batch)
  keeps_up_when_amended index view batch is_index keeps sent = record {
    held = held;
    named = named;
    behind = sent.behind;
  }
    where
      held : (name : FileName) (entry : Entry) → get index.records name ≡ Some entry → entry.sequence ≤ last_sequence view.sequence batch → get (with_all view.records batch) name ≡ Some entry
      held name entry there small =
          ⊎_elim
          (λ new.
          let among = sent.whole name entry there new small in
          subst (λ (n : FileName). get (with_all view.records batch) n ≡ Some entry) (is_index.numbered name entry there).0 (taken view.records batch entry sent.differ among))
          (λ old.
          ⊎_elim
          (λ one.
          let now = sent.present one.0 one.1 in
          let above = above_low view.sequence batch sent.rises one.0 one.1 in
          let same : Some now.0 ≡ Some entry = sym now.1 ∙ ap (get index.records) one.2 ∙ there in
          let sequence : now.0.sequence ≡ entry.sequence = some_sequence now.0 entry same in
          absurd (omega (arith, now.2, above, old, sequence)))
          (λ none. others view.records batch name none ∙ keeps.held name entry there old)
          (named_or_not name batch))
          (above_or_not entry.sequence view.sequence)

      named : (name : FileName) (entry : Entry) → get (with_all view.records batch) name ≡ Some entry → (present : Entry) × (get index.records name ≡ Some present) × (entry.sequence ≤ present.sequence)
      named name entry seen =
          ⊎_elim
          (λ of_batch. subst (λ (n : FileName). (present : Entry) × (get index.records n ≡ Some present) × (entry.sequence ≤ present.sequence)) of_batch.1 (sent.present entry of_batch.0))
          (λ before. keeps.named name entry before.1)
          (found view.records batch name entry seen)

  -- an Index takes the place of all that was known: as an update of nothing
  pub keeps_up_when_replaced : (index view : Listing) (batch : List Entry) → IsIndex index → IsSent index 0 batch → HasNoGap index (replaced view batch)
  keeps_up_when_replaced index view batch is_index sent = record {
    held = held;
    named = named;
    behind = sent.behind;
  }
    where
      held : (name : FileName) (entry : Entry) → get index.records name ≡ Some entry → entry.sequence ≤ last_sequence 0 batch → get (with_all empty batch) name ≡ Some entry
      held name entry there small =
          let numbers = is_index.numbered name entry there in
          let among = sent.whole name entry there numbers.1 small in
          subst (λ (n : FileName). get (with_all empty batch) n ≡ Some entry) numbers.0 (taken empty batch entry sent.differ among)

      named : (name : FileName) (entry : Entry) → get (with_all empty batch) name ≡ Some entry → (present : Entry) × (get index.records name ≡ Some present) × (entry.sequence ≤ present.sequence)
      named name entry seen =
          ⊎_elim
          (λ of_batch. subst (λ (n : FileName). (present : Entry) × (get index.records n ≡ Some present) × (entry.sequence ≤ present.sequence)) of_batch.1 (sent.present entry of_batch.0))
          (λ before. nothing_in_empty (slice_cmp nat_cmp) name entry before.1)
          (found empty batch name entry seen)
