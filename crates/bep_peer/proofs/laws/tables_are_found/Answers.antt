use Rattle.std.proofs.Common.{◌≡◌, ◌∙◌, List, [], ◌∷◌, map, refl, ap}
use Rattle.std.specs.Cmp.Lexicographic.{nat_list_cmp_total}
use Rattle.std.specs.FinMap.{entries}
use Rattle.std.proofs.lemmas.Map.Lookups.{exact_bytes}
use Rattle.bep_machine.specs.Replica.{Replica}
use Rattle.bep_folder.specs.Held.{Held}
use Rattle.bep_model.specs.Tables.{Folder}
use Rattle.bep_peer.proofs.Mapped.{changed, get-changed, entries-changed}
use Rattle.bep_peer.proofs.laws.tables_are_found.Goals as goal

names-changed : (es : List (Folder × Held)) → map (λ (e : Folder × Replica). e.0) (changed (λ (one : Held). one.tables) es) ≡ map (λ (e : Folder × Held). e.0) es
names-changed [] = refl
names-changed (e ∷ es) = ap (λ (names : List Folder). e.0 ∷ names) (names-changed es)

pub returns : goal.returns
returns c = record {
  found = λ member folder. get-changed nat_list_cmp_total exact_bytes (λ (one : Held). one.tables) member.folders folder;
  only = λ member.
      ap (map (λ (e : Folder × Replica). e.0)) (entries-changed nat_list_cmp_total exact_bytes (λ (one : Held). one.tables) member.folders)
      ∙ names-changed (entries member.folders);
}
