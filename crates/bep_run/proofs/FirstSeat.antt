-- The seat that owns all objects gives each its row.
use Rattle.std.proofs.Common.{◌≡◌, ◌++◌, List, [], ◌∷◌, Option, Some, None, option_map, refl, ap, ◌∙◌}
use Rattle.atomic_table.specs.Seated.{TableId}
use Rattle.bep_fit.specs.declared.object.Object.{Object}
use Rattle.bep_fit.specs.declared.object.Object.TheVariants as objects
use Rattle.bep_history.specs.View.{beginning, first_row, other_rows}
use Rattle.bep_history.specs.declared.view.View.{View}
use Rattle.bep_links.specs.Link.{LinkBetween}
use Rattle.bep_peer.specs.Member.{Member}
use Rattle.bep_run.specs.inner.Kept.{IsFirstSeat, IsSeated, objects_of_links, objects_of_peers}

-- the first one's seat knows that its log is empty
pub first_seated : (table : Option TableId) (object : Object) (rest all : List Object) (seat own : Option View) → all ≡ object ∷ rest → IsFirstSeat table all seat → own ≡ option_map first_row seat → IsSeated table object 0 [] own
first_seated None object rest all seat own are first is = is ∙ ap (option_map first_row) first
first_seated (Some table) object rest all seat own are first is = (refl, is ∙ ap (option_map first_row) (first ∙ ap (λ os. Some (beginning os)) are))

-- the others are left
pub others_left : (table : Option TableId) (object : Object) (rest all : List Object) (seat now : Option View) → all ≡ object ∷ rest → IsFirstSeat table all seat → now ≡ option_map other_rows seat → IsFirstSeat table rest now
others_left None object rest all seat now are first is = is ∙ ap (option_map other_rows) first
others_left (Some table) object rest all seat now are first is = is ∙ ap (option_map other_rows) (first ∙ ap (λ os. Some (beginning os)) are)

-- ---- devices, and then links

pub device_seated : (table : Option TableId) (one : Member) (rest all : List Member) (links : List LinkBetween) (seat own : Option View) →
    all ≡ one ∷ rest → IsFirstSeat table (objects_of_peers all ++ objects_of_links links) seat → own ≡ option_map first_row seat → IsSeated table (objects.Device one.number) 0 [] own
device_seated table one rest all links seat own are =
    first_seated table (objects.Device one.number) (objects_of_peers rest ++ objects_of_links links) (objects_of_peers all ++ objects_of_links links) seat own (ap (λ these. objects_of_peers these ++ objects_of_links links) are)

pub devices_left : (table : Option TableId) (one : Member) (rest all : List Member) (links : List LinkBetween) (seat now : Option View) →
    all ≡ one ∷ rest → IsFirstSeat table (objects_of_peers all ++ objects_of_links links) seat → now ≡ option_map other_rows seat → IsFirstSeat table (objects_of_peers rest ++ objects_of_links links) now
devices_left table one rest all links seat now are =
    others_left table (objects.Device one.number) (objects_of_peers rest ++ objects_of_links links) (objects_of_peers all ++ objects_of_links links) seat now (ap (λ these. objects_of_peers these ++ objects_of_links links) are)

pub link_seated : (table : Option TableId) (one : LinkBetween) (rest all : List LinkBetween) (seat own : Option View) →
    all ≡ one ∷ rest → IsFirstSeat table (objects_of_links all) seat → own ≡ option_map first_row seat → IsSeated table (objects.Link one.ends.0 one.ends.1) 0 [] own
link_seated table one rest all seat own are = first_seated table (objects.Link one.ends.0 one.ends.1) (objects_of_links rest) (objects_of_links all) seat own (ap objects_of_links are)

pub links_left : (table : Option TableId) (one : LinkBetween) (rest all : List LinkBetween) (seat now : Option View) →
    all ≡ one ∷ rest → IsFirstSeat table (objects_of_links all) seat → now ≡ option_map other_rows seat → IsFirstSeat table (objects_of_links rest) now
links_left table one rest all seat now are = others_left table (objects.Link one.ends.0 one.ends.1) (objects_of_links rest) (objects_of_links all) seat now (ap objects_of_links are)
