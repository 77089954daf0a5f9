-- A cut prevails exactly where none of the eight reasons fails anywhere.
use Rattle.std.proofs.Common.{◌≡◌, ◌∙◌, Bool, true, cond, Option, Some, None, sym, ap, inl, inr, ⊎_elim}
use Rattle.std.proofs.lemmas.Bool.{cases_Bool}
use Rattle.bep_record.specs.declared.entry.Entry.{Entry}
use Rattle.bep_record.specs.Content.{Deleted, content_of, content_of_kind}
use Rattle.bep_model.specs.Tables.{Tables, Device, Folder, FileName, Shares}
use Rattle.bep_model.specs.Foreign.{IsKnown}
use Rattle.bep_model.specs.Firm.{AreEqual}
use Rattle.bep_model.specs.Reasons.{Place}
use Rattle.bep_model.proofs.StaysFacts.{not_deleted}
use Rattle.bep_converge.specs.declared.converge_reason.ConvergeReason.{ConvergeReason}
use Rattle.bep_converge.specs.declared.converge_reason.ConvergeReason.TheVariants.{NothingPrevails, Concurrent, ContentDiffers, LocalOnly, StoreUnclean, StoreDiffers, SendOnly, WouldCopy}
use Rattle.bep_converge.specs.Prevails.{IsAnywhere, IsTop, IsAtTop, Prevails, AllPrevail}
use Rattle.bep_converge.specs.ConvergeReasons.{AsksWhole, AsksThere, AsksToConverge}
use Rattle.bep_converge.specs.Laws.{ConvergingIsFaultless}
use Rattle.bep_converge.proofs.VersionFacts.{equal_through}

-- ---- two tops

pub deleted_too : (top other : Entry) → content_of top ≡ content_of other → top.deleted ≡ true → other.deleted ≡ true
deleted_too top other same deleted =
    let gone : content_of top ≡ Deleted = ap (λ (b : Bool). cond b Deleted (content_of_kind top.kind top.blocks top.target)) deleted in
    ⊎_elim (λ is. is) (λ there. absurd (not_deleted other there (sym same ∙ gone))) (cases_Bool other.deleted)

-- who is at one of two tops of one version and content is at the other
pub at_other_top : (own : Option Entry) (top other : Entry) → AreEqual top.version other.version → content_of top ≡ content_of other → IsAtTop own top → IsAtTop own other
at_other_top None top other version same at = deleted_too top other same at
at_other_top (Some own) top other version same at = equal_through own.version top.version other.version at version

module _ (t : Tables) (folder : Folder) (name : FileName) (top : Entry) (prevails : Prevails t folder name top) where
  asks_whole : (reason : ConvergeReason) → AsksWhole t reason folder name
  asks_whole NothingPrevails = (top, prevails.top_of)
  asks_whole Concurrent = prevails.chain.in_line
  asks_whole ContentDiffers = prevails.chain.agree
  asks_whole LocalOnly = tt
  asks_whole StoreUnclean = tt
  asks_whole StoreDiffers = tt
  asks_whole SendOnly = tt
  asks_whole WouldCopy = tt

  same_top : (other : Entry) → IsTop t folder name other → AreEqual top.version other.version × (content_of top ≡ content_of other)
  same_top other is =
      let here : IsAnywhere t folder name top = (prevails.top_of.owner, prevails.top_of.shares, inl prevails.top_of.owned) in
      let there : IsAnywhere t folder name other = (is.owner, is.shares, inl is.owned) in
      let version : AreEqual top.version other.version = (is.above_all top here, prevails.top_of.above_all other there) in
      (version, prevails.chain.agree top other here there version)

  asks_there : (reason : ConvergeReason) (device : Device) → Shares t device folder → AsksThere t reason folder name device
  asks_there NothingPrevails device shares = tt
  asks_there Concurrent device shares = tt
  asks_there ContentDiffers device shares = tt
  asks_there LocalOnly device shares = (prevails.everywhere device shares).not_local
  asks_there StoreUnclean device shares = (prevails.everywhere device shares).clean
  asks_there StoreDiffers device shares = (prevails.everywhere device shares).holds
  asks_there SendOnly device shares = λ other is.
      let same = same_top other is in
      ⊎_elim
      (λ at. inl (at_other_top (t.own device folder name) top other same.0 same.1 at))
      (λ takes. inr takes)
      (prevails.everywhere device shares).takes
  asks_there WouldCopy device shares = (prevails.everywhere device shares).counted

asks_all : (t : Tables) → AllPrevail t → (reason : ConvergeReason) (folder : Folder) (name : FileName) (device : Option Device) → AsksToConverge t reason (record { folder = folder; name = name; device = device })
asks_all t all reason folder name None known = asks_whole t folder name (all folder name known).0 (all folder name known).1 reason
asks_all t all reason folder name (Some device) known = λ shares. asks_there t folder name (all folder name known).0 (all folder name known).1 reason device shares

module _ (t : Tables) (asks : (reason : ConvergeReason) (place : Place) → AsksToConverge t reason place) (folder : Folder) (name : FileName) (known : IsKnown t folder name) where
  whole : (reason : ConvergeReason) → AsksWhole t reason folder name
  whole reason = asks reason (record { folder = folder; name = name; device = None }) known

  there : (reason : ConvergeReason) (device : Device) → Shares t device folder → AsksThere t reason folder name device
  there reason device = asks reason (record { folder = folder; name = name; device = Some device }) known

  some_prevails : (top : Entry) × Prevails t folder name top
  some_prevails =
      let top = whole NothingPrevails in (
        top.0,
        record {
          chain = record { in_line = whole Concurrent; agree = whole ContentDiffers };
          top_of = top.1;
          everywhere = λ device shares. record {
            not_local = there LocalOnly device shares;
            clean = there StoreUnclean device shares;
            holds = there StoreDiffers device shares;
            takes = there SendOnly device shares top.0 top.1;
            counted = there WouldCopy device shares;
          };
        },
      )

pub converging_is_faultless_lem : ConvergingIsFaultless
converging_is_faultless_lem t = (λ all reason place. asks_all t all reason place.folder place.name place.device, λ asks folder name known. some_prevails t asks folder name known)
