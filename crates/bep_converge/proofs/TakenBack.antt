-- Where a device takes its local change back, and the top of the name stood but for it, that top prevails.
use Rattle.std.proofs.Common.{◌≡◌, ◌≢◌, ◌⊎◌, ◌∙◌, ◌≤◌, ℕ, List, [], Option, Some, None, true, false, sym, ap, subst, inl, inr, ⊎_elim, arith}
use Rattle.std.proofs.lemmas.Bool.{cases_eq}
use Rattle.bep_record.specs.declared.entry.Entry.{Entry}
use Rattle.bep_record.specs.Content.{Deleted, content_of}
use Rattle.bep_record.specs.Node.{IsClean}
use Rattle.bep_record.specs.Vector.{counter_of, IsAtMost}
use Rattle.bep_model.specs.Tables.{Tables, Device, Folder, FileName, Shares}
use Rattle.bep_model.specs.Settled.{content_of_node}
use Rattle.bep_machine.specs.Effects.{content_owned}
use Rattle.bep_machine.specs.Replica.{version_of}
use Rattle.bep_converge.specs.Prevails.{IsAnywhere, IsChain, IsNoLocalChange, IsAtTop, TakesChanges, LetsIn, Prevails}
use Rattle.bep_converge.specs.Awaits.{IsElsewhere, AwaitsRevert}
use Rattle.bep_converge.specs.Tops.{ChangesAlone}
use Rattle.bep_converge.proofs.ChangedAlone.{shares_before, shares_after, takes_after, own_stays, in_order_there, known_after}

-- a deletion with an empty version, and no file
pub record IsTakenBack (new : Tables) (device : Device) (folder : Folder) (name : FileName) (left : Entry) : Type 0 where
  pub recorded : new.own device folder name ≡ Some left
  pub valid : left.invalid ≡ false
  pub version : left.version ≡ []
  pub content : content_of left ≡ Deleted
  pub clean : IsClean (new.node device folder name) (Some left)
  pub gone : new.node device folder name ≡ None

module _ (old new : Tables) (device : Device) (folder : Folder) (name : FileName) (alone : ChangesAlone old new device folder name)
    (top : Entry) (awaits : AwaitsRevert old device folder name top) (own : Entry) (was : old.own device folder name ≡ Some own) (local : own.invalid ≡ true)
    (takes : TakesChanges old device folder) (left : Entry) (taken : IsTakenBack new device folder name left) where
  -- what was known elsewhere was known
  known_there : (entry : Entry) → IsElsewhere old device folder name entry → IsAnywhere old folder name entry
  known_there entry elsewhere =
      (elsewhere.0, elsewhere.1, ⊎_elim (λ other. inl other.1) (λ foreign. inr foreign) elsewhere.2)

  abbrev StillOrLeft : Entry → Type 0
  StillOrLeft entry = IsAnywhere old folder name entry ⊎ (entry ≡ left)

  still_or_left : (entry : Entry) → IsAnywhere new folder name entry → StillOrLeft entry
  still_or_left entry anywhere =
      ⊎_elim
      (λ elsewhere. inl (known_there entry elsewhere))
      (λ mine. inr (let same : Some entry ≡ Some left = sym mine.0 ∙ taken.recorded in cc))
      (known_after old new device folder name alone entry anywhere)

  -- what is left is at most each record
  left_below : (entry one : Entry) → entry ≡ left → IsAtMost entry.version one.version
  left_below entry one same =
      subst (λ (v : List (ℕ × ℕ)). IsAtMost v one.version) (sym (ap (λ (e : Entry). e.version) same ∙ taken.version)) (λ id. omega arith)

  left_is_deleted : (entry : Entry) → entry ≡ left → content_of entry ≡ Deleted
  left_is_deleted entry same = ap content_of same ∙ taken.content

  to_empty : (entry : Entry) → entry ≡ left → (one : Entry) → IsAtMost one.version entry.version → IsAtMost one.version []
  to_empty entry same one within = subst (λ (v : List (ℕ × ℕ)). IsAtMost one.version v) (ap (λ (e : Entry). e.version) same ∙ taken.version) within

  chain_left : IsChain new folder name
  chain_left = record {
    in_line = λ one other here there.
        ⊎_elim
        (λ known.
        ⊎_elim
        (λ too. awaits.chain.in_line one other known too)
        (λ same. inr (left_below other one same))
        (still_or_left other there))
        (λ same. inl (left_below one other same))
        (still_or_left one here);
    agree = λ one other here there equal.
        ⊎_elim
        (λ known.
        ⊎_elim
        (λ too. awaits.chain.agree one other known too equal)
        (λ same. awaits.empty one known (to_empty other same one equal.0) ∙ sym (left_is_deleted other same))
        (still_or_left other there))
        (λ same.
        ⊎_elim
        (λ too. left_is_deleted one same ∙ sym (awaits.empty other too (to_empty one same other equal.1)))
        (λ both. left_is_deleted one same ∙ sym (left_is_deleted other both))
        (still_or_left other there))
        (still_or_left one here);
  }

  owner_apart : awaits.top_of.owner ≢ device
  owner_apart same =
      let mine : old.own device folder name ≡ Some top = subst (λ (d : Device). old.own d folder name ≡ Some top) same awaits.top_of.owned.0 in
      let is : Some own ≡ Some top = sym was ∙ mine in
      let one : own ≡ top = cc in
      let valid = awaits.top_of.owned.1 in
      let both : true ≡ false = sym local ∙ ap (λ (e : Entry). e.invalid) one ∙ valid in
      absurd (cc)

  -- no record counts more of a device's changes than one of which this was asked before
  counts_no_more : (other : Device) (counted : ℕ) → ((entry : Entry) → IsAnywhere old folder name entry → counter_of entry.version other ≤ counted) →
      (entry : Entry) → IsAnywhere new folder name entry → counter_of entry.version other ≤ counted
  counts_no_more other counted asked entry anywhere =
      ⊎_elim
      (λ known. asked entry known)
      (λ same. let none = to_empty entry same entry (λ id. omega arith) other in omega arith)
      (still_or_left entry anywhere)

  taker_lets_in : LetsIn new device folder name top
  taker_lets_in =
      subst (λ (o : Option Entry). IsNoLocalChange o × IsClean (new.node device folder name) o × (content_of_node (new.node device folder name) ≡ content_owned o) ×
      ((entry : Entry) → IsAnywhere new folder name entry → counter_of entry.version device ≤ counter_of (version_of o) device) → LetsIn new device folder name top)
      taken.recorded
      (λ parts. record {
        not_local = parts.0;
        clean = parts.1;
        holds = parts.2;
        takes = inr (takes_after old new device folder name alone device folder takes);
        counted = parts.3;
      }) (
        taken.valid,
        taken.clean,
        ap content_of_node taken.gone ∙ sym taken.content,
        counts_no_more device (counter_of left.version device) (λ entry known. let none = awaits.uncounted entry known in omega arith),
      )

  other_lets_in : (other : Device) → other ≢ device → Shares new other folder → LetsIn new other folder name top
  other_lets_in other apart shares =
      let lets = awaits.others other apart (shares_before old new device folder name alone other folder shares) in
      let mine = own_stays old new device folder name alone other apart in
      let order = in_order_there old new device folder name alone other apart (record { not_local = lets.not_local; clean = lets.clean; holds = lets.holds }) in
      record {
        not_local = order.not_local;
        clean = order.clean;
        holds = order.holds;
        takes = ⊎_elim
            (λ at. inl (subst (λ (o : Option Entry). IsAtTop o top) (sym mine) at))
            (λ takes_there. inr (takes_after old new device folder name alone other folder takes_there))
            lets.takes;
        counted =
            subst (λ (o : Option Entry). (entry : Entry) → IsAnywhere new folder name entry → counter_of entry.version other ≤ counter_of (version_of o) other) (sym mine)
            (counts_no_more other (counter_of (version_of (old.own other folder name)) other) lets.counted);
      }

  pub top_prevails : Prevails new folder name top
  top_prevails = record {
    chain = chain_left;
    top_of = record {
      owner = awaits.top_of.owner;
      shares = shares_after old new device folder name alone awaits.top_of.owner folder awaits.top_of.shares;
      owned = (own_stays old new device folder name alone awaits.top_of.owner owner_apart ∙ awaits.top_of.owned.0, awaits.top_of.owned.1);
      above_all = λ entry anywhere. ⊎_elim (λ known. awaits.top_of.above_all entry known) (λ same. left_below entry top same) (still_or_left entry anywhere);
    };
    everywhere = λ other shares.
        ⊎_elim
        (λ same. subst (λ (d : Device). LetsIn new d folder name top) (sym same) taker_lets_in)
        (λ apart. other_lets_in other apart shares)
        (cases_eq other device);
  }
