-- What is known of a name once one device changed its record or file of a name alone.
use Rattle.std.proofs.Common.{◌≡◌, ◌≢◌, ◌⊎◌, ◌∙◌, ℕ, List, Contains, Option, IsSome, sym, ap, subst, inl, inr, ⊎_elim, arith}
use Rattle.std.proofs.lemmas.Bool.{cases_eq}
use Rattle.bep_record.specs.declared.entry.Entry.{Entry}
use Rattle.bep_record.specs.declared.node.NodeParts.{NodeParts}
use Rattle.bep_record.specs.declared.folder_kind.FolderKind.{FolderKind}
use Rattle.bep_record.specs.Node.{IsClean}
use Rattle.bep_record.specs.Vector.{counter_of}
use Rattle.bep_model.specs.declared.flight.Flight.{Flight}
use Rattle.bep_model.specs.Tables.{Tables, Device, Folder, FileName, Shares}
use Rattle.bep_model.specs.Foreign.{IsForeign, IsKnown}
use Rattle.bep_model.specs.Settled.{content_of_node}
use Rattle.bep_machine.specs.Effects.{content_owned}
use Rattle.bep_machine.specs.Replica.{version_of}
use Rattle.bep_converge.specs.Prevails.{IsOwn, IsAnywhere, IsNoLocalChange, IsAtTop, TakesChanges, LetsIn, Prevails}
use Rattle.bep_converge.specs.Awaits.{IsElsewhere, AwaitsRecord, AwaitsScan}
use Rattle.bep_converge.specs.Tops.{ChangesAlone, LeavesOthers}

-- ---- what is asked of a device's record and file alone

pub record IsInOrder (own : Option Entry) (node : Option NodeParts) : Type 0 where
  pub not_local : IsNoLocalChange own
  pub clean : IsClean node own
  pub holds : content_of_node node ≡ content_owned own

pub in_order_still : (own was : Option Entry) (node held : Option NodeParts) → own ≡ was → node ≡ held → IsInOrder was held → IsInOrder own node
in_order_still own was node held same_own same_node order =
    subst (λ (o : Option Entry). IsInOrder o node) (sym same_own) (subst (λ (n : Option NodeParts). IsInOrder was n) (sym same_node) order)

module _ (old new : Tables) (device : Device) (folder : Folder) (name : FileName) (alone : ChangesAlone old new device folder name) where
  -- ---- who shares what

  pub shares_before : (other : Device) (any : Folder) → Shares new other any → Shares old other any
  shares_before other any shares = (shares.0, subst (λ (s : List (Device × FolderKind)). Contains s (other, shares.0)) (alone.sharing any) shares.1)

  pub shares_after : (other : Device) (any : Folder) → Shares old other any → Shares new other any
  shares_after other any shares = (shares.0, subst (λ (s : List (Device × FolderKind)). Contains s (other, shares.0)) (sym (alone.sharing any)) shares.1)

  pub takes_after : (other : Device) (any : Folder) → TakesChanges old other any → TakesChanges new other any
  takes_after other any takes =
      (takes.0, subst (λ (s : List (Device × FolderKind)). Contains s (other, takes.0)) (sym (alone.sharing any)) takes.1, takes.2)

  -- ---- what is known

  pub foreign_before : (other : Device) (any : Folder) (one : FileName) (entry : Entry) → IsForeign new other any one entry → IsForeign old other any one entry
  foreign_before other any one entry foreign = record {
    known_by = ⊎_elim
        (λ viewed. inl (viewed.0, sym (alone.viewed other viewed.0 any one) ∙ viewed.1))
        (λ rest.
        ⊎_elim
        (λ flying. inr (inl (record {
          sender = flying.sender;
          shares = shares_before flying.sender any flying.shares;
          flight = flying.flight;
          sent = subst (λ (f : List Flight). Contains f flying.flight) (alone.flying flying.sender other) flying.sent;
          same_folder = flying.same_folder;
          carried = flying.carried;
          same_name = flying.same_name;
        })))
        (λ target. inr (inr (sym (alone.target other any one) ∙ target)))
        rest)
        foreign.known_by;
    valid = foreign.valid;
  }

  -- ---- a name of which only this device's own record and file may have changed

  module _ (any : Folder) (one : FileName) (own_there : (other : Device) → other ≢ device → new.own other any one ≡ old.own other any one)
      (node_there : (other : Device) → other ≢ device → new.node other any one ≡ old.node other any one) where
    elsewhere_was : (entry : Entry) → IsElsewhere new device any one entry → IsElsewhere old device any one entry
    elsewhere_was entry elsewhere =
        let other = elsewhere.0 in (
          other,
          shares_before other any elsewhere.1,
          ⊎_elim
              (λ own. inl (own.0, (sym (own_there other own.0) ∙ own.1.0, own.1.1)))
              (λ foreign. inr (foreign_before other any one entry foreign))
              elsewhere.2,
        )

    order_was : (other : Device) → other ≢ device → IsInOrder (old.own other any one) (old.node other any one) → IsInOrder (new.own other any one) (new.node other any one)
    order_was other apart = in_order_still (new.own other any one) (old.own other any one) (new.node other any one) (old.node other any one) (own_there other apart) (node_there other apart)

    -- it waits still for a record above the same version
    awaits_there : (version : List (ℕ × ℕ)) (held : Option NodeParts) → AwaitsRecord old device any one version held → AwaitsRecord new device any one version held
    awaits_there version held awaits = record {
      shares = shares_after device any awaits.shares;
      chain = record {
        in_line = λ first other here there. awaits.chain.in_line first other (elsewhere_was first here) (elsewhere_was other there);
        agree = λ first other here there. awaits.chain.agree first other (elsewhere_was first here) (elsewhere_was other there);
        within = λ entry here. awaits.chain.within entry (elsewhere_was entry here);
      };
      others = λ other apart shares.
          let way = awaits.others other apart (shares_before other any shares) in
          let own = own_there other apart in
          let order = order_was other apart (record { not_local = way.not_local; clean = way.clean; holds = way.holds }) in
          record {
            not_local = order.not_local;
            clean = order.clean;
            holds = order.holds;
            takes = ⊎_elim (λ takes. inl (takes_after other any takes)) (λ none. inr (own ∙ none.0, none.1)) way.takes;
            counted = let same = ap (λ (o : Option Entry). counter_of (version_of o) other) own in let counted = way.counted in omega arith;
          };
    }

  -- ---- the name itself

  pub own_stays : (other : Device) → other ≢ device → new.own other folder name ≡ old.own other folder name
  own_stays other apart = alone.own other folder name (λ place. apart place.0)

  node_stays : (other : Device) → other ≢ device → new.node other folder name ≡ old.node other folder name
  node_stays other apart = alone.node other folder name (λ place. apart place.0)

  pub in_order_there : (other : Device) → other ≢ device → IsInOrder (old.own other folder name) (old.node other folder name) → IsInOrder (new.own other folder name) (new.node other folder name)
  in_order_there = order_was folder name own_stays node_stays

  pub awaits_still : (version : List (ℕ × ℕ)) (held : Option NodeParts) → AwaitsRecord old device folder name version held → AwaitsRecord new device folder name version held
  awaits_still = awaits_there folder name own_stays node_stays

  -- what is known afterwards was known elsewhere, or is what the device has now
  pub known_after : (entry : Entry) → IsAnywhere new folder name entry → IsElsewhere old device folder name entry ⊎ IsOwn new device folder name entry
  known_after entry anywhere =
      let other = anywhere.0 in
      ⊎_elim
      (λ own.
      ⊎_elim
      (λ same. inr (subst (λ (d : Device). IsOwn new d folder name entry) same own))
      (λ apart. inl (elsewhere_was folder name own_stays node_stays entry (other, anywhere.1, inl (apart, own))))
      (cases_eq other device))
      (λ foreign. inl (elsewhere_was folder name own_stays node_stays entry (other, anywhere.1, inr foreign)))
      anywhere.2

-- ---- other names

module _ (old new : Tables) (device : Device) (folder : Folder) (name : FileName) (alone : ChangesAlone old new device folder name) where
  -- a name of which all that the tables say is as it was
  module _ (any : Folder) (one : FileName) (own_same : (other : Device) → new.own other any one ≡ old.own other any one)
      (node_same : (other : Device) → new.node other any one ≡ old.node other any one) where
    anywhere_before : (entry : Entry) → IsAnywhere new any one entry → IsAnywhere old any one entry
    anywhere_before entry anywhere = (
      anywhere.0,
      shares_before old new device folder name alone anywhere.0 any anywhere.1,
      ⊎_elim
          (λ own. inl (sym (own_same anywhere.0) ∙ own.0, own.1))
          (λ foreign. inr (foreign_before old new device folder name alone anywhere.0 any one entry foreign))
          anywhere.2,
    )

    lets_in_still : (other : Device) (top : Entry) → LetsIn old other any one top → LetsIn new other any one top
    lets_in_still other top lets =
        let own = own_same other in
        let order = in_order_still (new.own other any one) (old.own other any one) (new.node other any one) (old.node other any one) own (node_same other)
        (record { not_local = lets.not_local; clean = lets.clean; holds = lets.holds }) in
        record {
          not_local = order.not_local;
          clean = order.clean;
          holds = order.holds;
          takes = ⊎_elim
              (λ at. inl (subst (λ (o : Option Entry). IsAtTop o top) (sym own) at))
              (λ takes. inr (takes_after old new device folder name alone other any takes))
              lets.takes;
          counted = λ entry anywhere.
              let same = ap (λ (o : Option Entry). counter_of (version_of o) other) own in
              let was = lets.counted entry (anywhere_before entry anywhere) in
              omega arith;
        }

    pub prevails_still : (top : Entry) → Prevails old any one top → Prevails new any one top
    prevails_still top prevails = record {
      chain = record {
        in_line = λ first second here there. prevails.chain.in_line first second (anywhere_before first here) (anywhere_before second there);
        agree = λ first second here there. prevails.chain.agree first second (anywhere_before first here) (anywhere_before second there);
      };
      top_of = record {
        owner = prevails.top_of.owner;
        shares = shares_after old new device folder name alone prevails.top_of.owner any prevails.top_of.shares;
        owned = (own_same prevails.top_of.owner ∙ prevails.top_of.owned.0, prevails.top_of.owned.1);
        above_all = λ entry anywhere. prevails.top_of.above_all entry (anywhere_before entry anywhere);
      };
      everywhere = λ other shares. lets_in_still other top (prevails.everywhere other (shares_before old new device folder name alone other any shares));
    }

    pub known_before : IsKnown new any one → IsKnown old any one
    known_before known = (
      known.0,
      shares_before old new device folder name alone known.0 any known.1,
      ⊎_elim
          (λ node. inl (subst (λ (n : Option NodeParts). IsSome n) (node_same known.0) node))
          (λ rest.
          inr (⊎_elim
          (λ own. inl (subst (λ (o : Option Entry). IsSome o) (own_same known.0) own))
          (λ foreign. inr (foreign.0, foreign_before old new device folder name alone known.0 any one foreign.0 foreign.1))
          rest))
          known.2,
    )

    -- it awaits the device's scan still
    pub awaits_scan_still : AwaitsScan old device any one → AwaitsScan new device any one
    awaits_scan_still awaits =
        subst (λ (o : Option Entry). (¬ IsClean (new.node device any one) o) × AwaitsRecord new device any one (version_of o) (new.node device any one) → AwaitsScan new device any one) (own_same device)
        (λ parts. record { unclean = parts.0; awaits = parts.1 }) (
          subst (λ (n : Option NodeParts). ¬ IsClean n (old.own device any one)) (sym (node_same device)) awaits.unclean,
          subst (λ (n : Option NodeParts). AwaitsRecord new device any one (version_of (old.own device any one)) n) (sym (node_same device))
              (awaits_there old new device folder name alone any one (λ other apart. own_same other) (λ other apart. node_same other) (version_of (old.own device any one)) (old.node device any one) awaits.awaits),
        )

  -- each other name is such
  pub own_apart : (any : Folder) (one : FileName) → ¬ ((any ≡ folder) × (one ≡ name)) → (other : Device) → new.own other any one ≡ old.own other any one
  own_apart any one apart other = alone.own other any one (λ place. apart (place.1, place.2))

  pub node_apart : (any : Folder) (one : FileName) → ¬ ((any ≡ folder) × (one ≡ name)) → (other : Device) → new.node other any one ≡ old.node other any one
  node_apart any one apart other = alone.node other any one (λ place. apart (place.1, place.2))

  pub leaves_others : LeavesOthers old new folder name
  leaves_others = record {
    prevailing = λ any one top apart. prevails_still any one (own_apart any one apart) (node_apart any one apart) top;
    known = λ any one apart. known_before any one (own_apart any one apart) (node_apart any one apart);
  }
