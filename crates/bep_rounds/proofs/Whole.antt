-- A whole round: where its parts lead one to the next, and what it brought at the end.
use Rattle.std.proofs.Common.{◌≡◌, ◌∙◌, ◌+◌, ◌/◌, ◌≤◌, ℕ, length, Option, option_map, Some, None, sym, ap, subst}
use Rattle.std.proofs.lemmas.Option.{same_Some}
use Rattle.std.specs.FinMap.{get}
use Rattle.bep_record.specs.declared.entry.Entry.{Entry}
use Rattle.bep_index.specs.declared.limits.TheConstants.{MAX_RECORDS}
use Rattle.bep_machine.specs.Cluster.{Cluster}
use Rattle.bep_machine.specs.Replica.{Replica, own_at}
use Rattle.bep_machine.specs.Said.{tables_of_cluster}
use Rattle.bep_machine.specs.Steps.{IsRun}
use Rattle.bep_converge.specs.Prevails.{IsAtTop}
use Rattle.bep_converge.specs.Bring.{bring, IsReady}
use Rattle.bep_converge.specs.Watched.{FetchesTo, HearsTo, IsBehindOwner, IsBroughtFrom, BringIsWatched}
use Rattle.bep_converge.specs.Arrival.{BringKeeps}
use Rattle.bep_converge.specs.Fewer.{FewerAreBehind}
use Rattle.bep_rounds.specs.Rounds.{IsBrought, behind_of}
use Rattle.bep_rounds.specs.declared.wanted.Wanted.{Wanted}
use Rattle.bep_rounds.proofs.Seen.{owned_replica}

-- what is read of the owner's record
abbrev pub Sizes : Cluster → Wanted → Option (ℕ × ℕ) → Type 0
Sizes c wanted result = (replica : Replica) → get (c.peer wanted.owner).replicas wanted.folder ≡ Some replica → result ≡ option_map (λ (own : Entry). (own.sequence, length own.blocks)) (own_at replica wanted.name)

module _ (watched : BringIsWatched) (old : Cluster) (wanted : Wanted) (turns : ℕ) (top : Entry) (ready : IsReady (turns + 1) old) (behind : IsBehindOwner old wanted.device wanted.owner wanted.folder wanted.name top) where
  -- the round that can be made
  abbrev pub from : IsBroughtFrom old wanted.device wanted.owner wanted.folder wanted.name top
  from = watched turns old wanted.device wanted.owner wanted.folder wanted.name top ready behind

  pub sizes_are : (result : Option (ℕ × ℕ)) → Sizes old wanted result → result ≡ Some (top.sequence, length top.blocks)
  sizes_are result is =
      let owned = owned_replica old wanted.owner wanted.folder wanted.name top behind.owned.0 in
      is owned.0 owned.1 ∙ ap (option_map (λ (own : Entry). (own.sequence, length own.blocks))) owned.2

  pub some_sizes : (sizes : ℕ × ℕ) → Sizes old wanted (Some sizes) → sizes ≡ (top.sequence, length top.blocks)
  some_sizes sizes is = same_Some sizes (top.sequence, length top.blocks) (sizes_are (Some sizes) is)

  pub no_sizes : ¬ Sizes old wanted None
  no_sizes is = let never = sizes_are None is in cc

  -- once the two have met
  pub hears_at : (sizes : ℕ × ℕ) → Sizes old wanted (Some sizes) → (met : Cluster) → from.met ≡ met → HearsTo wanted.device wanted.owner wanted.folder wanted.name sizes.0 from.later from.blocks from.batches met
  hears_at sizes is met same =
      subst (λ (s : ℕ). HearsTo wanted.device wanted.owner wanted.folder wanted.name s from.later from.blocks from.batches met) (sym (ap (λ (p : ℕ × ℕ). p.0) (some_sizes sizes is)))
      (subst (λ (c : Cluster). HearsTo wanted.device wanted.owner wanted.folder wanted.name top.sequence from.later from.blocks from.batches c) same from.hears)

  pub few_batches : (sizes : ℕ × ℕ) → Sizes old wanted (Some sizes) → from.batches ≤ sizes.0 / MAX_RECORDS + 1
  few_batches sizes is = subst (λ (s : ℕ). from.batches ≤ s / MAX_RECORDS + 1) (sym (ap (λ (p : ℕ × ℕ). p.0) (some_sizes sizes is))) from.few_batches

  pub few_blocks : (sizes : ℕ × ℕ) → Sizes old wanted (Some sizes) → from.blocks ≤ sizes.1
  few_blocks sizes is = subst (λ (n : ℕ). from.blocks ≤ n) (sym (ap (λ (p : ℕ × ℕ). p.1) (some_sizes sizes is))) from.few_blocks

  -- once the pull has begun
  pub fetches_at : (started now : Cluster) → started ≡ now → FetchesTo wanted.device wanted.owner wanted.folder wanted.name from.later from.blocks started → FetchesTo wanted.device wanted.owner wanted.folder wanted.name from.later from.blocks now
  fetches_at started now same fetches = subst (λ (c : Cluster). FetchesTo wanted.device wanted.owner wanted.folder wanted.name from.later from.blocks c) same fetches

  -- and once it has ended
  pub is_brought : BringKeeps → FewerAreBehind → (new : Cluster) → from.later ≡ new → IsBrought turns old new wanted top
  is_brought keeps fewer new same =
      let run : IsRun old (bring wanted.device wanted.owner wanted.folder wanted.name from.batches from.blocks) new =
      subst (λ (c : Cluster). IsRun old (bring wanted.device wanted.owner wanted.folder wanted.name from.batches from.blocks) c) same from.run in
      let at : IsAtTop ((tables_of_cluster new).own wanted.device wanted.folder wanted.name) top =
      subst (λ (c : Cluster). IsAtTop ((tables_of_cluster c).own wanted.device wanted.folder wanted.name) top) same from.at_top in
      record {
        batches = from.batches;
        blocks = from.blocks;
        run = run;
        few_batches = from.few_batches;
        few_blocks = from.few_blocks;
        at_top = at;
        kept = keeps turns old new wanted.device wanted.owner wanted.folder wanted.name from.batches from.blocks ready run;
        fewer = λ more all. fewer turns old new wanted.owner (behind_of wanted top) more from.batches from.blocks ready all run at;
      }
