-- An override of a name that awaits it makes a record that prevails.
use Rattle.std.proofs.Common.{◌≡◌, ◌≢◌, ◌∙◌, ◌+◌, ℕ, List, Contains, Option, Some, None, true, false, refl, sym, ap, subst, ⊎_elim, arith}
use Rattle.std.proofs.lemmas.Cmp.{nat_list_cmp_total}
use Rattle.std.proofs.lemmas.Map.Lookups.{exact_bytes}
use Rattle.std.specs.FinMap.{get}
use Rattle.bep_facts.specs.Maps.{get-insert_here, get-insert_apart}
use Rattle.bep_record.specs.declared.entry.Entry.{Entry}
use Rattle.bep_record.specs.declared.kind.Kind.{Kind}
use Rattle.bep_record.specs.declared.kind.Kind.TheVariants as kinds
use Rattle.bep_record.specs.declared.node.NodeParts.{NodeParts}
use Rattle.bep_record.specs.Content.{content_of}
use Rattle.bep_record.specs.Node.{IsClean, LooksSame}
use Rattle.bep_record.specs.Vector.{IsBump, IsMerge}
use Rattle.bep_index.specs.Index.{numbered}
use Rattle.bep_model.specs.Tables.{Device, Folder, FileName}
use Rattle.bep_model.specs.Settled.{content_of_node}
use Rattle.bep_machine.specs.declared.moved.Moved.{Moved}
use Rattle.bep_machine.specs.declared.step.Step.TheVariants.{Override}
use Rattle.bep_machine.specs.Answer.{Done}
use Rattle.bep_machine.specs.Cluster.{Cluster}
use Rattle.bep_machine.specs.Effects.{content_owned}
use Rattle.bep_machine.specs.Local.{IsOverridable, OverrideRow, CanOverride, overriding}
use Rattle.bep_machine.specs.Replica.{Replica, own_at, node_at, viewed_at, version_of, Chooses, with_record}
use Rattle.bep_machine.specs.Said.{looked_up, tables_of_cluster}
use Rattle.bep_machine.specs.Sound.{IsSoundReplica}
use Rattle.bep_machine.specs.Steps.{SharesFolder}
use Rattle.bep_converge.specs.Prevails.{IsNoLocalChange}
use Rattle.bep_converge.specs.Awaits.{IsForemost}
use Rattle.bep_converge.specs.Tops.{MakesTop}
use Rattle.bep_converge.specs.AfterLaws.{OverrideMakesTop}
use Rattle.bep_converge.proofs.Candidates.{ChoiceIsUnique, candidate_is, viewed_is_candidate, one_choice}
use Rattle.bep_converge.proofs.DoneRows.{not_refused, done_row, done_there, put_made}
use Rattle.bep_converge.proofs.ReplicaAlone.{shares_where_not_absent, said_here}
use Rattle.bep_converge.proofs.ReplicaTops.{IsMadeThere, own_told, node_told, replica_makes_top}
use Rattle.bep_converge.proofs.ScanTops.{sound_there, fits_there}

-- ---- the record that wins

-- the own record under another version, or a deletion where there was none
record IsOwnStill (own : Option Entry) (node : Option NodeParts) (name : FileName) (version : List (ℕ × ℕ)) (entry : Entry) : Type 0 where
  named : entry.name ≡ name
  valid : entry.invalid ≡ false
  same_version : entry.version ≡ version
  clean : IsClean node (Some entry)
  content : content_of entry ≡ content_owned own
  gone : node ≡ None → entry.deleted ≡ true

looks_raised : (kind : Kind) (node : NodeParts) (own : Entry) (device : Device) (version : List (ℕ × ℕ)) (sequence : ℕ) → LooksSame kind node own → LooksSame kind node (numbered (record own { modified_by = device; version = version }) sequence)
looks_raised kinds.File node own device version sequence looks = looks
looks_raised kinds.Directory node own device version sequence looks = looks
looks_raised kinds.Symlink node own device version sequence looks = looks

overriding_is : (device : Device) (name : FileName) (own : Option Entry) (node : Option NodeParts) (chosen : Entry) (version : List (ℕ × ℕ)) (sequence : ℕ) → IsNoLocalChange own → ((entry : Entry) → own ≡ Some entry → entry.name ≡ name) → IsClean node own →
    IsOwnStill own node name version (numbered (overriding device name own chosen version) sequence)
overriding_is device name None None chosen version sequence not_local named clean =
    record { named = refl; valid = refl; same_version = refl; clean = refl; content = refl; gone = λ none. refl }
overriding_is device name None (Some node) chosen version sequence not_local named clean = absurd clean
overriding_is device name (Some own) None chosen version sequence not_local named clean =
    record { named = named own refl; valid = not_local; same_version = refl; clean = clean; content = refl; gone = λ none. clean }
overriding_is device name (Some own) (Some node) chosen version sequence not_local named clean =
    record { named = named own refl; valid = not_local; same_version = refl; clean = (clean.0, clean.1, looks_raised node.kind node own device version sequence clean.2); content = refl; gone = λ none. absurd (cc) }

-- ---- one replica

record IsOverridden (device : Device) (name : FileName) (before after : Replica) : Type 0 where
  chosen : Entry
  chooses : Chooses device before name chosen
  not_own : own_at before name ≢ Some chosen
  merged : List (ℕ × ℕ)
  merge : IsMerge (version_of (own_at before name)) chosen.version merged
  entry : Entry
  content : content_of entry ≡ content_owned (own_at before name)
  made : IsMadeThere device name merged (node_at before name) before after entry

-- the own record isn't overridden by itself
not_by_itself : (own : Option Entry) (chosen : Entry) → own ≡ Some chosen → ¬ IsOverridable own chosen
not_by_itself own chosen same can = let itself : IsOverridable (Some chosen) chosen = subst (λ (o : Option Entry). IsOverridable o chosen) same can in itself.0 (λ id. omega arith)

module _ (unique : ChoiceIsUnique) (device : Device) (name : FileName) (before : Replica) (sound : IsSoundReplica device before) (apart : ¬ Contains before.others device) where
  chosen_not_own : (chosen : Entry) → Chooses device before name chosen → ¬ (¬ CanOverride device name before) → own_at before name ≢ Some chosen
  chosen_not_own chosen chooses can own =
      can (λ (other, chooses_other, overridable).
      not_by_itself (own_at before name) chosen own
      (subst (λ (e : Entry). IsOverridable (own_at before name) e) (one_choice device before apart unique name other chosen chooses_other chooses) overridable))

  made_of : (entry : Entry) (version merged : List (ℕ × ℕ)) → IsBump merged device version → IsOwnStill (own_at before name) (node_at before name) name version (numbered entry (before.index.sequence + 1)) →
      content_of_node (node_at before name) ≡ content_owned (own_at before name) → IsMadeThere device name merged (node_at before name) before (with_record before entry) (numbered entry (before.index.sequence + 1))
  made_of entry version merged bump still holds = record {
    keeps = record {
      records = λ other differs. get-insert_apart nat_list_cmp_total exact_bytes before.index.records entry.name (numbered entry (before.index.sequence + 1)) other (λ same. differs (same ∙ still.named));
      files = λ other differs. refl;
      pulls = refl;
      views = refl;
    };
    own =
        subst (λ (n : FileName). own_at (with_record before entry) n ≡ Some (numbered entry (before.index.sequence + 1))) still.named
        (get-insert_here nat_list_cmp_total exact_bytes before.index.records entry.name (numbered entry (before.index.sequence + 1)));
    valid = still.valid;
    bump = subst (λ (v : List (ℕ × ℕ)). IsBump merged device v) (sym still.same_version) bump;
    clean = still.clean;
    holds = holds ∙ sym still.content;
    gone = still.gone;
  }

  overridden : (after : Replica) (moved : Moved) → IsNoLocalChange (own_at before name) → IsClean (node_at before name) (own_at before name) → content_of_node (node_at before name) ≡ content_owned (own_at before name) →
      OverrideRow device name before after (Done moved) → IsOverridden device name before after
  overridden after moved not_local clean holds row =
      let kinds = not_refused row in
      let can = not_refused kinds.1 in
      let chosen = can.1.0 in
      let counted = not_refused can.1.2 in
      let few = not_refused counted.1 in
      let put = put_made name _ before after moved few.1 in
      let version = put.new.0 in
      let raised = put.new.1 in
      let own = own_at before name in
      let entry = overriding device name own chosen version in
      let still = overriding_is device name own (node_at before name) chosen version (before.index.sequence + 1) not_local (λ e is. (sound.index.numbered name e is).0) clean in
      subst (λ (r : Replica). IsOverridden device name before r) (sym (put.put ∙ ap (with_record before) put.new.2))
      (record {
        chosen = chosen;
        chooses = can.1.1;
        not_own = chosen_not_own chosen can.1.1 can.0;
        merged = raised.merged;
        merge = raised.merge;
        entry = numbered entry (before.index.sequence + 1);
        content = still.content;
        made = made_of entry version raised.merged raised.bump still holds;
      })

-- ---- the cluster

-- what is chosen and isn't the own record is the foremost that was seen
foremost : (old : Cluster) (device : Device) (folder : Folder) (name : FileName) (before : Replica) (chosen : Entry) → SharesFolder old.config device folder → get (old.peer device).replicas folder ≡ Some before → IsSoundReplica device before →
    Chooses device before name chosen → own_at before name ≢ Some chosen → IsForemost (tables_of_cluster old) device folder name chosen
foremost old device folder name before chosen shares here sound chooses not_own =
    let told : (other : Device) → (tables_of_cluster old).viewed device other folder name ≡ viewed_at before other name = λ other. ap (looked_up (λ replica one. viewed_at replica other one) name) (said_here old device folder before shares here) in
    record {
      viewed = ⊎_elim (λ own. absurd (not_own own.1)) (λ viewed. (chooses.0, told chooses.0 ∙ viewed.1)) (candidate_is device before name (chooses.0, chosen) chooses.1.left.valid.0);
      valid = chooses.1.left.valid.1;
      undominated = λ other viewed valid below.
          chooses.1.left.undominated (viewed.0, other) (viewed_is_candidate device before viewed.0 name other sound (sym (told viewed.0) ∙ viewed.1)) (valid, below);
    }

pub override_makes_top_lem : ChoiceIsUnique → OverrideMakesTop
override_makes_top_lem unique device folder name failed old new moved sound awaits made =
    let row = done_row (Override device folder name) failed old new moved made in
    let shares = shares_where_not_absent old.config device folder (done_there (Override device folder name) failed old new moved made) in
    let before = row.0 in
    let after = row.1 in
    let here = row.2 in
    let told = said_here old device folder before shares here in
    let own = own_told old device folder name before told in
    let node = node_told old device folder name before told in
    let there = sound_there old sound device folder shares before here in
    let fits = fits_there old sound device folder shares before here in
    let not_local = subst (λ (o : Option Entry). IsNoLocalChange o) own awaits.not_local in
    let clean = subst (λ (o : Option Entry). IsClean (node_at before name) o) own (subst (λ (n : Option NodeParts). IsClean n ((tables_of_cluster old).own device folder name)) node awaits.clean) in
    let holds = sym (ap content_of_node node) ∙ awaits.holds ∙ ap content_owned own in
    let over = overridden unique device name before there (λ among. ((fits.others device).0 among).0 refl) after moved not_local clean holds row.3 in
    let merge = subst (λ (o : Option Entry). IsMerge (version_of o) over.chosen.version over.merged) (sym own) over.merge in
    let waits = awaits.awaits over.chosen over.merged (foremost old device folder name before over.chosen shares here there over.chooses over.not_own) merge in
    let as_told = subst (λ (n : Option NodeParts). IsMadeThere device name over.merged n before after over.entry) (sym node) over.made in
    subst (λ (c : Cluster). MakesTop (tables_of_cluster old) (tables_of_cluster c) device folder name (content_owned ((tables_of_cluster old).own device folder name))) (sym row.4)
    (replica_makes_top old device folder name before after over.entry over.merged ((tables_of_cluster old).node device folder name) (content_owned ((tables_of_cluster old).own device folder name)) here waits as_told
    (over.content ∙ ap content_owned (sym own)))
