-- What is known of a cut of which some names were read (this project's profile).
use Rattle.std.specs.Prelude.{◌≡◌, true, List}
use Rattle.bep_model.specs.Tables.{Tables, Folder, FileName}
use Rattle.bep_parts.specs.Parts.{only}
use Rattle.bep_rows.specs.declared.aim.Aim.{Aim}
use Rattle.bep_rows.specs.declared.stream.Stream.{Stream}
use Rattle.bep_rows.specs.Names.{Key, IsUpTo, among}
use Rattle.bep_rows.specs.Standing.{IsStanding}

-- these names were read, none of them above the last; what is answered is the answer to what the cut says of them
pub record IsReadTo (aim : Aim) (t : Tables) (keys : List Key) (stream : Stream) : Type 0 where
  pub up_to : (folder : Folder) (name : FileName) → among keys folder name ≡ true → IsUpTo stream.last (folder, name)
  pub standing : IsStanding aim (only (among keys) t) stream.standing
