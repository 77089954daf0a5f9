-- The parts of the cut that has a row's name alone.
use Rattle.std.proofs.Common.{◌≡◌, List, map, sym}
use Rattle.bep_tables.specs.declared.cut.CutParts.{CutParts}
use Rattle.bep_tables.specs.declared.link.LinkState.{LinkState}
use Rattle.bep_tables.specs.declared.share.SharedFolder.{SharedFolder}
use Rattle.bep_row.specs.declared.row.NameRow.{NameRow}
use Rattle.bep_row.specs.Row.{cut_with, folder_with}

pub cut_of_parts : (header : CutParts) (row : NameRow) (folders : List SharedFolder) (links : List LinkState) → folders ≡ map (folder_with row) header.folders → links ≡ header.links → cut_with header row ≡ record { folders = folders; links = links }
unfolding cut_with
cut_of_parts header row folders links are also = λ i. record { folders = sym are i; links = sym also i }
