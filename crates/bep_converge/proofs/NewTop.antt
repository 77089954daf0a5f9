-- A new record of one device prevails where the name awaited it.
use Rattle.std.proofs.Common.{◌≡◌, ◌≢◌, ◌∙◌, ◌+◌, ◌≤◌, ℕ, List, Option, Some, None, true, false, sym, ap, subst, inl, inr, ⊎_elim, arith}
use Rattle.std.proofs.lemmas.Bool.{cases_eq}
use Rattle.bep_record.specs.declared.entry.Entry.{Entry}
use Rattle.bep_record.specs.declared.node.NodeParts.{NodeParts}
use Rattle.bep_record.specs.Content.{content_of}
use Rattle.bep_record.specs.Node.{IsClean}
use Rattle.bep_record.specs.Vector.{counter_of, IsAtMost, IsBump}
use Rattle.bep_model.specs.Tables.{Tables, Device, Folder, FileName, Shares}
use Rattle.bep_model.specs.Settled.{content_of_node}
use Rattle.bep_machine.specs.Effects.{content_owned}
use Rattle.bep_machine.specs.Replica.{version_of}
use Rattle.bep_converge.specs.Prevails.{IsOwn, IsAnywhere, IsChain, IsNoLocalChange, IsAtTop, LetsIn, Prevails}
use Rattle.bep_converge.specs.Awaits.{IsElsewhere, AwaitsRecord}
use Rattle.bep_converge.specs.Tops.{ChangesAlone}
use Rattle.bep_converge.proofs.VersionFacts.{equal_itself}
use Rattle.bep_converge.proofs.ChangedAlone.{shares_before, shares_after, takes_after, own_stays, in_order_there, known_after}

-- the record that the device made: above this version, and of the file that it has
pub record IsMade (new : Tables) (device : Device) (folder : Folder) (name : FileName) (version : List (ℕ × ℕ)) (held : Option NodeParts) (entry : Entry) : Type 0 where
  pub recorded : new.own device folder name ≡ Some entry
  pub valid : entry.invalid ≡ false
  pub bump : IsBump version device entry.version
  pub clean : IsClean (new.node device folder name) (Some entry)
  pub holds : content_of_node (new.node device folder name) ≡ content_of entry
  pub gone : held ≡ None → entry.deleted ≡ true

module _ (old new : Tables) (device : Device) (folder : Folder) (name : FileName) (alone : ChangesAlone old new device folder name)
    (version : List (ℕ × ℕ)) (held : Option NodeParts) (awaits : AwaitsRecord old device folder name version held) (entry : Entry)
    (made : IsMade new device folder name version held entry) where
  -- what was known elsewhere is below the record
  below_made : (was : Entry) → IsElsewhere old device folder name was → IsAtMost was.version entry.version
  below_made was here id =
      let within = awaits.chain.within was here id in
      ⊎_elim
      (λ same. let at = subst (λ (d : Device). counter_of entry.version d ≡ counter_of version d + 1) (sym same) made.bump.0 in omega arith)
      (λ apart. let at = made.bump.1 id apart in omega arith)
      (cases_eq id device)

  not_reached : (was : Entry) → IsElsewhere old device folder name was → ¬ IsAtMost entry.version was.version
  not_reached was here back =
      let within = awaits.chain.within was here device in
      let raised = made.bump.0 in
      let a = back device in
      omega arith

  is_made : (one : Entry) → IsOwn new device folder name one → one ≡ entry
  is_made one own = let same : Some one ≡ Some entry = sym own.0 ∙ made.recorded in cc

  up_to_made : (one : Entry) → IsAnywhere new folder name one → IsAtMost one.version entry.version
  up_to_made one anywhere =
      ⊎_elim
      (λ was. below_made one was)
      (λ own. subst (λ (e : Entry). IsAtMost e.version entry.version) (sym (is_made one own)) (λ id. omega arith))
      (known_after old new device folder name alone one anywhere)

  chain_made : IsChain new folder name
  chain_made = record {
    in_line = λ one other here there.
        ⊎_elim
        (λ was.
        ⊎_elim
        (λ too. awaits.chain.in_line one other was too)
        (λ own. inl (subst (λ (e : Entry). IsAtMost one.version e.version) (sym (is_made other own)) (up_to_made one here)))
        (known_after old new device folder name alone other there))
        (λ own. inr (subst (λ (e : Entry). IsAtMost other.version e.version) (sym (is_made one own)) (up_to_made other there)))
        (known_after old new device folder name alone one here);
    agree = λ one other here there same.
        ⊎_elim
        (λ was.
        ⊎_elim
        (λ too. awaits.chain.agree one other was too same)
        (λ own. absurd (not_reached one was (subst (λ (e : Entry). IsAtMost e.version one.version) (is_made other own) same.1)))
        (known_after old new device folder name alone other there))
        (λ own.
        ⊎_elim
        (λ was. absurd (not_reached other was (subst (λ (e : Entry). IsAtMost e.version other.version) (is_made one own) same.0)))
        (λ too. ap content_of (is_made one own ∙ sym (is_made other too)))
        (known_after old new device folder name alone other there))
        (known_after old new device folder name alone one here);
  }

  -- the device itself
  maker_lets_in : LetsIn new device folder name entry
  maker_lets_in =
      subst (λ (o : Option Entry). IsNoLocalChange o × IsClean (new.node device folder name) o × (content_of_node (new.node device folder name) ≡ content_owned o) × IsAtTop o entry ×
      ((one : Entry) → IsAnywhere new folder name one → counter_of one.version device ≤ counter_of (version_of o) device) → LetsIn new device folder name entry)
      made.recorded
      (λ parts. record { not_local = parts.0; clean = parts.1; holds = parts.2; takes = inl parts.3; counted = parts.4 })
      (made.valid, made.clean, made.holds, equal_itself entry.version, λ one anywhere. up_to_made one anywhere device)

  -- each other device
  other_lets_in : (other : Device) → other ≢ device → Shares new other folder → LetsIn new other folder name entry
  other_lets_in other apart shares =
      let way = awaits.others other apart (shares_before old new device folder name alone other folder shares) in
      let own = own_stays old new device folder name alone other apart in
      let order = in_order_there old new device folder name alone other apart (record { not_local = way.not_local; clean = way.clean; holds = way.holds }) in
      record {
        not_local = order.not_local;
        clean = order.clean;
        holds = order.holds;
        takes = ⊎_elim
            (λ takes. inr (takes_after old new device folder name alone other folder takes))
            (λ none. inl (subst (λ (o : Option Entry). IsAtTop o entry) (sym (own ∙ none.0)) (made.gone none.1)))
            way.takes;
        counted = λ one anywhere.
            let up = up_to_made one anywhere other in
            let stays = made.bump.1 other apart in
            let counted = way.counted in
            let same = ap (λ (o : Option Entry). counter_of (version_of o) other) own in
            omega arith;
      }

  pub made_prevails : Prevails new folder name entry
  made_prevails = record {
    chain = chain_made;
    top_of = record {
      owner = device;
      shares = shares_after old new device folder name alone device folder awaits.shares;
      owned = (made.recorded, made.valid);
      above_all = up_to_made;
    };
    everywhere = λ other shares.
        ⊎_elim
        (λ same. subst (λ (d : Device). LetsIn new d folder name entry) (sym same) maker_lets_in)
        (λ apart. other_lets_in other apart shares)
        (cases_eq other device);
  }
