-- The cluster that a cut is of has received no block.
use Rattle.std.proofs.Common.{◌≡◌, List, [], ◌∷◌, Option, Some, None, sym, subst, ⊎_elim}
use Rattle.std.proofs.lemmas.Cmp.{nat_list_cmp_total}
use Rattle.std.proofs.lemmas.Map.Lookups.{exact_bytes}
use Rattle.std.specs.Ordering.{nat_cmp}
use Rattle.std.specs.Cmp.Lexicographic.{slice_cmp}
use Rattle.std.specs.FinMap.{entries, get}
use Rattle.bep_facts.specs.Maps.{found_after_insert, nothing_in_empty}
use Rattle.bep_record.specs.declared.entry.Entry.{Entry}
use Rattle.bep_model.specs.Tables.{Device, Folder, FileName}
use Rattle.bep_machine.specs.Pull.{new_pull}
use Rattle.bep_machine.specs.Replica.{Replica}
use Rattle.bep_tables.specs.declared.share.Share.{Share}
use Rattle.bep_tables.specs.declared.share.SharedFolder.{SharedFolder}
use Rattle.bep_tables.specs.Cut.{share_of}
use Rattle.bep_origin.specs.FromCut.{pulls_from, replica_from, replicas_from, with_share}
use Rattle.bep_converge.specs.Received.{PullsHaveHashes}
use Rattle.bep_converge.specs.Laws.{CutsHaveHashes}
use Rattle.bep_converge.proofs.HashesKept.{HaveTheirs, none_pulled, nothing_received, one_more}

pulls_have : (pulls : List (FileName × Entry)) → HaveTheirs (pulls_from pulls)
pulls_have [] = none_pulled
pulls_have (one ∷ more) = one_more (pulls_from more) one.0 (new_pull one.1) (nothing_received one.1.blocks) (pulls_have more)

replicas_have : (device : Device) (folders : List SharedFolder) (folder : Folder) (replica : Replica) → get (replicas_from device folders) folder ≡ Some replica → PullsHaveHashes replica
replicas_have device [] folder replica found = nothing_in_empty (slice_cmp nat_cmp) folder replica found
replicas_have device (shared ∷ folders) folder replica found = cases (share_of device shared.shares) found (replicas_have device folders folder replica)
  where
    cases : (share : Option Share) → get (with_share shared share (replicas_from device folders)) folder ≡ Some replica →
        (get (replicas_from device folders) folder ≡ Some replica → PullsHaveHashes replica) → PullsHaveHashes replica
    cases None found rest = rest found
    cases (Some share) found rest =
        ⊎_elim
        (λ here. subst (λ (r : Replica). PullsHaveHashes r) (sym here.1) (pulls_have (entries share.pulls)))
        (λ there. rest there.1)
        (found_after_insert nat_list_cmp_total exact_bytes (replicas_from device folders) shared.folder (replica_from shared.shares share) folder replica found)

pub cuts_have_hashes_lem : CutsHaveHashes
cuts_have_hashes_lem cut device = replicas_have device cut.folders
