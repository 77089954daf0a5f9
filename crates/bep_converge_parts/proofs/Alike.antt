-- What the reasons ask of a name in one cut they ask of it in another that says the same of it.
use Rattle.std.proofs.Common.{◌≡◌, ◌⊎◌, ◌∙◌, true, List, Contains, Option, None, Some, sym, subst, inl, inr, ⊎_elim}
use Rattle.std.specs.Prelude.{◌≤◌}
use Rattle.bep_record.specs.declared.entry.Entry.{Entry}
use Rattle.bep_record.specs.declared.folder_kind.FolderKind.{FolderKind}
use Rattle.bep_record.specs.declared.node.NodeParts.{NodeParts}
use Rattle.bep_record.specs.Node.{IsClean}
use Rattle.bep_record.specs.Vector.{counter_of}
use Rattle.bep_model.specs.Tables.{Tables, Device, Folder, FileName, Shares}
use Rattle.bep_model.specs.Foreign.{IsForeign, IsKnown}
use Rattle.bep_model.specs.Reasons.{Place}
use Rattle.bep_model.specs.Settled.{content_of_node}
use Rattle.bep_machine.specs.Effects.{content_owned}
use Rattle.bep_machine.specs.Replica.{version_of}
use Rattle.bep_converge.specs.ConvergeReasons.{AsksAtDevice, AsksThere, AsksToConverge, AsksWhole}
use Rattle.bep_converge.specs.Prevails.{IsAnywhere, IsAtTop, IsNoLocalChange, IsOwn, IsTop, TakesChanges}
use Rattle.bep_converge.specs.declared.converge_reason.ConvergeReason.{ConvergeReason}
use Rattle.bep_converge.specs.declared.converge_reason.ConvergeReason.TheVariants.{NothingPrevails, Concurrent, ContentDiffers, LocalOnly, StoreUnclean, StoreDiffers, SendOnly, WouldCopy}
use Rattle.bep_parts.specs.Parts.{Keeps, only}
use Rattle.bep_parts.proofs.Alike.{IsAlike, known_there, shares_there, turned, viewed_there}
use Rattle.bep_parts.proofs.OnlyFacts.{known_kept, only_alike}
use Rattle.bep_converge_parts.specs.Laws.{ConvergeFaultsByParts}

module _ (one other : Tables) (folder : Folder) (name : FileName) (alike : IsAlike one other folder name) where
  foreign_there : (device : Device) (entry : Entry) → IsForeign one device folder name entry → IsForeign other device folder name entry
  foreign_there device entry foreign = record {
    known_by =
        ⊎_elim
        (λ viewed. inl (viewed_there one other folder name alike device entry viewed))
        (λ rest.
        inr
        (⊎_elim
        (λ flying. inl ((alike.flying device entry).0 flying))
        (λ target. inr (sym (alike.target device) ∙ target))
        rest))
        foreign.known_by;
    valid = foreign.valid;
  }

  own_there : (device : Device) (entry : Entry) → IsOwn one device folder name entry → IsOwn other device folder name entry
  own_there device entry own = (sym (alike.own device) ∙ own.0, own.1)

  anywhere_there : (entry : Entry) → IsAnywhere one folder name entry → IsAnywhere other folder name entry
  anywhere_there entry any = (
    any.0,
    shares_there one other folder name alike any.0 any.1,
    ⊎_elim (λ own. inl (own_there any.0 entry own)) (λ foreign. inr (foreign_there any.0 entry foreign)) any.2,
  )

  takes_there : (device : Device) → TakesChanges one device folder → TakesChanges other device folder
  takes_there device takes = (takes.0, subst (λ (s : List (Device × FolderKind)). Contains s (device, takes.0)) alike.sharing takes.1, takes.2)

module _ (one other : Tables) (folder : Folder) (name : FileName) (alike : IsAlike one other folder name) where
  back : IsAlike other one folder name
  back = turned one other folder name alike

  top_there : (top : Entry) → IsTop one folder name top → IsTop other folder name top
  top_there top is = record {
    owner = is.owner;
    shares = shares_there one other folder name alike is.owner is.shares;
    owned = own_there one other folder name alike is.owner top is.owned;
    above_all = λ entry any. is.above_all entry (anywhere_there other one folder name back entry any);
  }

  whole_there : (reason : ConvergeReason) → AsksWhole one reason folder name → AsksWhole other reason folder name
  whole_there NothingPrevails asks = (asks.0, top_there asks.0 asks.1)
  whole_there Concurrent asks = λ a b any also. asks a b (anywhere_there other one folder name back a any) (anywhere_there other one folder name back b also)
  whole_there ContentDiffers asks = λ a b any also equal. asks a b (anywhere_there other one folder name back a any) (anywhere_there other one folder name back b also) equal
  whole_there LocalOnly asks = tt
  whole_there StoreUnclean asks = tt
  whole_there StoreDiffers asks = tt
  whole_there SendOnly asks = tt
  whole_there WouldCopy asks = tt

module _ (one other : Tables) (folder : Folder) (name : FileName) (alike : IsAlike one other folder name) where
  device_there : (reason : ConvergeReason) (device : Device) → AsksThere one reason folder name device → AsksThere other reason folder name device
  device_there NothingPrevails device asks = tt
  device_there Concurrent device asks = tt
  device_there ContentDiffers device asks = tt
  device_there LocalOnly device asks = subst IsNoLocalChange (alike.own device) asks
  device_there StoreUnclean device asks =
      subst (λ (n : Option NodeParts). IsClean n (other.own device folder name)) (alike.node device)
      (subst (λ (o : Option Entry). IsClean (one.node device folder name) o) (alike.own device) asks)
  device_there StoreDiffers device asks =
      subst (λ (n : Option NodeParts). content_of_node n ≡ content_owned (other.own device folder name)) (alike.node device)
      (subst (λ (o : Option Entry). content_of_node (one.node device folder name) ≡ content_owned o) (alike.own device) asks)
  device_there SendOnly device asks = λ top is.
      ⊎_elim
      (λ at. inl (subst (λ (o : Option Entry). IsAtTop o top) (alike.own device) at))
      (λ takes. inr (takes_there one other folder name alike device takes))
      (asks top (top_there other one folder name (turned one other folder name alike) top is))
  device_there WouldCopy device asks = λ entry any.
      subst (λ (o : Option Entry). counter_of entry.version device ≤ counter_of (version_of o) device) (alike.own device)
      (asks entry (anywhere_there other one folder name (turned one other folder name alike) entry any))

  at_there : (reason : ConvergeReason) (device : Option Device) → AsksAtDevice one reason folder name device → AsksAtDevice other reason folder name device
  at_there reason None asks = whole_there one other folder name alike reason asks
  at_there reason (Some device) asks = λ shares. device_there reason device (asks (shares_there other one folder name (turned one other folder name alike) device shares))

-- so of a place, where the name is known in one of them if it is in the other
asks_there : (one other : Tables) (reason : ConvergeReason) (place : Place) → IsAlike one other place.folder place.name → AsksToConverge one reason place → AsksToConverge other reason place
asks_there one other reason place alike asks = λ known.
    at_there one other place.folder place.name alike reason place.device
    (asks (known_there other one place.folder place.name (turned one other place.folder place.name alike) known))

pub converge_faults_by_parts_lem : ConvergeFaultsByParts
converge_faults_by_parts_lem t keeps reason place = (
  λ asks kept. asks_there (only keeps t) t reason place (only_alike keeps t place.folder place.name kept) asks,
  λ asks known.
      let kept = known_kept keeps t place.folder place.name known in
      asks_there t (only keeps t) reason place (turned (only keeps t) t place.folder place.name (only_alike keeps t place.folder place.name kept)) (asks kept) known,
)
