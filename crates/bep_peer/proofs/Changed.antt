-- The tables of a folder are those of what the device has of it.
use Rattle.std.proofs.Common.{◌≡◌, option_map}
use Rattle.std.specs.Cmp.Lexicographic.{nat_list_cmp_total}
use Rattle.std.specs.FinMap.{get, nat_cmp-IsAntisymmetric, slice_cmp-IsAntisymmetric}
use Rattle.bep_map.specs.NameMap.{ByName}
use Rattle.bep_model.specs.Tables.{Folder}
use Rattle.bep_folder.specs.Held.{Held}
use Rattle.bep_peer.specs.Member.{tables_in}
use Rattle.bep_peer.proofs.Mapped.{get-changed}

pub tables_at : (folders : ByName Held) (folder : Folder) → get (tables_in folders) folder ≡ option_map (λ (held : Held). held.tables) (get folders folder)
tables_at folders folder = get-changed nat_list_cmp_total (slice_cmp-IsAntisymmetric nat_cmp-IsAntisymmetric) (λ (held : Held). held.tables) folders folder
