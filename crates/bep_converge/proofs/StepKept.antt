-- What prevails goes on prevailing after a step of orderly peers: each device stays, or takes over a record that is above its own
-- one.
use Rattle.std.proofs.Common.{◌≡◌, ◌⊎◌, ◌≤◌, ℕ, List, Contains, Option, Some, None, IsSome, false, refl, sym, ap, subst, ◌∙◌, inl, inr, ⊎_elim, arith}
use Rattle.bep_record.specs.declared.entry.Entry.{Entry}
use Rattle.bep_record.specs.declared.node.NodeParts.{NodeParts}
use Rattle.bep_record.specs.declared.folder_kind.FolderKind.{FolderKind}
use Rattle.bep_record.specs.Content.{content_of}
use Rattle.bep_record.specs.Node.{IsClean}
use Rattle.bep_record.specs.Vector.{counter_of, IsAtMost}
use Rattle.bep_model.specs.Tables.{Tables, Device, Folder, FileName, Shares}
use Rattle.bep_model.specs.Foreign.{IsFlying, HasTrace, IsKnown}
use Rattle.bep_model.specs.Settled.{content_of_node}
use Rattle.bep_model.specs.Free.{IsNews, IsHad, MayWant}
use Rattle.bep_model.specs.Firm.{AreEqual}
use Rattle.bep_machine.specs.Effects.{content_owned}
use Rattle.bep_machine.specs.Replica.{version_of}
use Rattle.bep_converge.specs.Prevails.{IsOwn, IsAnywhere, IsChain, IsTop, IsNoLocalChange, IsAtTop, TakesChanges, LetsIn, Prevails, AllPrevail}
use Rattle.bep_converge.specs.Orderly.{Takes, StaysAt, MayCopy, IsOrderlyStep}
use Rattle.bep_converge.specs.Rises.{RisesAt, NoNameComes, GoesOnPrevailing}
use Rattle.bep_converge.specs.Laws.{StepsKeepPrevailing}
use Rattle.bep_converge.proofs.VersionFacts.{equal_itself, at_most_as, merge_is_target, news_is_above, news_supersedes, no_news_at_top}

-- a name is clean where it is unknown, and so where it is clean if it is known
clean_if_known : (node : Option NodeParts) (own : Option Entry) → (IsSome node ⊎ IsSome own → IsClean node own) → IsClean node own
clean_if_known None None clean = tt
clean_if_known None (Some entry) clean = clean (inr refl)
clean_if_known (Some node) own clean = clean (inl refl)

-- a record is of a known name
pub known_of : (t : Tables) (folder : Folder) (name : FileName) (entry : Entry) → IsAnywhere t folder name entry → IsKnown t folder name
known_of t folder name entry anywhere = (
  anywhere.0,
  anywhere.1,
  ⊎_elim
      (λ own. inr (inl (subst (λ (o : Option Entry). IsSome o) (sym own.0) refl)))
      (λ foreign. inr (inr (entry, foreign)))
      anywhere.2,
)

-- a record that a device may want is somewhere
pub wanted_anywhere : (t : Tables) (device : Device) (folder : Folder) (name : FileName) → Shares t device folder → (wants : MayWant t device folder name) → IsAnywhere t folder name wants.entry
wanted_anywhere t device folder name shares wants = (
  device,
  shares,
  inr (record {
    known_by = ⊎_elim (λ viewed. inl viewed) (λ target. inr (inr target)) wants.had;
    valid = wants.valid;
  }),
)

-- a device's own record stands in line with each other one
own_in_line : (t : Tables) (device : Device) (folder : Folder) (name : FileName) → Shares t device folder → IsChain t folder name →
    (own : Option Entry) → t.own device folder name ≡ own → IsNoLocalChange own → (entry : Entry) → IsAnywhere t folder name entry →
    IsAtMost (version_of own) entry.version ⊎ IsAtMost entry.version (version_of own)
own_in_line t device folder name shares chain None is valid entry anywhere = inl (λ id. omega arith)
own_in_line t device folder name shares chain (Some own) is valid entry anywhere = chain.in_line own entry (device, shares, inl (is, valid)) anywhere

module _ (t : Tables) (all : AllPrevail t) (new : Tables) (step : IsOrderlyStep t new) where
  shared_before : (device : Device) (folder : Folder) → Shares new device folder → Shares t device folder
  shared_before device folder shares = (shares.0, subst (λ (s : List (Device × FolderKind)). Contains s (device, shares.0)) (step.free.sharing folder) shares.1)

  pub shared_after : (device : Device) (folder : Folder) → Shares t device folder → Shares new device folder
  shared_after device folder shares = (shares.0, subst (λ (s : List (Device × FolderKind)). Contains s (device, shares.0)) (sym (step.free.sharing folder)) shares.1)

  -- ---- what a device does with a name

  all_clean : (device : Device) (folder : Folder) (name : FileName) → Shares t device folder → IsClean (t.node device folder name) (t.own device folder name)
  all_clean device folder name shares =
      clean_if_known (t.node device folder name) (t.own device folder name)
      (λ some.
      let trace : HasTrace t device folder name = ⊎_elim (λ node. inl node) (λ own. inr (inl own)) some in
      ((all folder name (device, shares, trace)).1.everywhere device shares).clean)

  -- of a name of which a device may want a record, what is wanted prevails or is below
  module _ (device : Device) (folder : Folder) (name : FileName) (shares : Shares t device folder) (wants : MayWant t device folder name) where
    known_by_wish : IsKnown t folder name
    known_by_wish = known_of t folder name wants.entry (wanted_anywhere t device folder name shares wants)

    lets_in : LetsIn t device folder name (all folder name known_by_wish).0
    lets_in = (all folder name known_by_wish).1.everywhere device shares

    wanted_in_line : IsAtMost (version_of (t.own device folder name)) wants.entry.version ⊎ IsAtMost wants.entry.version (version_of (t.own device folder name))
    wanted_in_line =
        own_in_line t device folder name shares (all folder name known_by_wish).1.chain (t.own device folder name) refl lets_in.not_local wants.entry
        (wanted_anywhere t device folder name shares wants)

    wanted_is_above : IsAtMost (version_of (t.own device folder name)) wants.entry.version
    wanted_is_above = news_is_above (t.own device folder name) wants.entry lets_in.not_local wanted_in_line wants.news

  no_copy : (device : Device) (folder : Folder) → Shares t device folder → ¬ MayCopy t device folder
  no_copy device folder shares copy =
      ⊎_elim
      (λ concurrent. ⊎_elim concurrent.0 concurrent.1 (wanted_in_line device folder copy.name shares copy.wants))
      (λ more.
      let counted = (lets_in device folder copy.name shares copy.wants).counted copy.wants.entry (wanted_anywhere t device folder copy.name shares copy.wants) in
      omega arith)
      copy.conflict

  abbrev StaysOrTakes : Device → Folder → FileName → Type 0
  StaysOrTakes device folder name = StaysAt t new device folder name ⊎ Takes t new device folder name

  pub stays_or_takes : (device : Device) (folder : Folder) (name : FileName) → Shares t device folder → StaysOrTakes device folder name
  stays_or_takes device folder name shares =
      ⊎_elim
      (λ stays. inl stays)
      (λ rest.
      ⊎_elim
      (λ takes. inr takes)
      (λ more.
      absurd
      (⊎_elim
      (λ records. records.0 (all_clean device folder name shares))
      (λ copies. no_copy device folder shares copies.0)
      more))
      rest)
      (step.orderly device folder name shares)

  -- what is taken over has the target's version
  taken_version : (device : Device) (folder : Folder) (name : FileName) → Shares t device folder → (takes : Takes t new device folder name) → AreEqual takes.taken.version takes.wants.entry.version
  taken_version device folder name shares takes =
      merge_is_target (version_of (t.own device folder name)) takes.wants.entry.version takes.taken.version
      (wanted_is_above device folder name shares takes.wants) takes.version

  taken_file : (device : Device) (folder : Folder) (name : FileName) → Shares t device folder → (takes : Takes t new device folder name) → content_of_node (new.node device folder name) ≡ content_of takes.taken
  taken_file device folder name shares takes =
      ⊎_elim
      (λ fetched. fetched)
      (λ had. had.1 ∙ (lets_in device folder name shares takes.wants).holds ∙ had.0)
      takes.file.content

  -- ---- each record was known before, or stands for one that was

  pub record StandsFor (folder : Folder) (name : FileName) (entry : Entry) : Type 0 where
    pub was : Entry
    pub known : IsAnywhere t folder name was
    pub version : AreEqual entry.version was.version
    pub content : content_of entry ≡ content_of was

  itself : (folder : Folder) (name : FileName) (entry : Entry) → IsAnywhere t folder name entry → StandsFor folder name entry
  itself folder name entry known = record { was = entry; known = known; version = equal_itself entry.version; content = refl }

  own_before : (device : Device) (folder : Folder) (name : FileName) (entry : Entry) → Shares t device folder → IsOwn new device folder name entry → StandsFor folder name entry
  own_before device folder name entry shares own =
      ⊎_elim
      (λ stays. itself folder name entry (device, shares, inl (sym stays.0 ∙ own.0, own.1)))
      (λ takes.
      let same : Some takes.taken ≡ Some entry = sym takes.own ∙ own.0 in
      let is : takes.taken ≡ entry = cc in
      subst (λ (e : Entry). StandsFor folder name e) is
      (record {
        was = takes.wants.entry;
        known = wanted_anywhere t device folder name shares takes.wants;
        version = taken_version device folder name shares takes;
        content = takes.content;
      }))
      (stays_or_takes device folder name shares)

  had_before : (device : Device) (folder : Folder) (name : FileName) (entry : Entry) → Shares t device folder → entry.invalid ≡ false → IsHad new device folder name entry → StandsFor folder name entry
  had_before device folder name entry shares valid had =
      itself folder name entry (
        device,
        shares,
        inr (record {
          known_by = ⊎_elim
              (λ was. ⊎_elim (λ viewed. inl viewed) (λ target. inr (inr target)) was)
              (λ flying. inr (inl flying))
              (step.free.had device folder name entry shares had);
          valid = valid;
        }),
      )

  flown_before : (device : Device) (folder : Folder) (name : FileName) (entry : Entry) → Shares t device folder → entry.invalid ≡ false → IsFlying new device folder name entry → StandsFor folder name entry
  flown_before device folder name entry here valid flying =
      let shares = shared_before flying.sender folder flying.shares in
      itself folder name entry
      (⊎_elim
      (λ was. (
        device,
        here,
        inr (record {
          known_by = inr (inl (record { sender = flying.sender; shares = shares; flight = flying.flight; sent = was; same_folder = flying.same_folder; carried = flying.carried; same_name = flying.same_name }));
          valid = valid;
        }),
      ))
      (λ carries. (
        flying.sender,
        shares,
        inl (
          subst (λ (in_folder : Folder). t.own flying.sender in_folder name ≡ Some entry) flying.same_folder
              (subst (λ (at_name : FileName). t.own flying.sender flying.flight.folder at_name ≡ Some entry) flying.same_name (carries entry flying.carried valid)),
          valid,
        ),
      ))
      (step.free.flying flying.sender device flying.flight flying.sent))

  pub known_before : (folder : Folder) (name : FileName) (entry : Entry) → IsAnywhere new folder name entry → StandsFor folder name entry
  known_before folder name entry anywhere =
      let shares = shared_before anywhere.0 folder anywhere.1 in
      ⊎_elim
      (λ own. own_before anywhere.0 folder name entry shares own)
      (λ foreign.
      ⊎_elim
      (λ viewed. had_before anywhere.0 folder name entry shares foreign.valid (inl viewed))
      (λ rest.
      ⊎_elim
      (λ flying. flown_before anywhere.0 folder name entry shares foreign.valid flying)
      (λ target. had_before anywhere.0 folder name entry shares foreign.valid (inr target))
      rest)
      foreign.known_by)
      anywhere.2

  no_name_comes : NoNameComes t new
  no_name_comes folder name known =
      let device = known.0 in
      let shares = shared_before device folder known.1 in
      let taken : Takes t new device folder name → IsKnown t folder name = λ takes. known_by_wish device folder name shares takes.wants in
      ⊎_elim
      (λ node.
      ⊎_elim
      (λ stays. (device, shares, inl (subst (λ (n : Option NodeParts). IsSome n) stays.1 node)))
      taken
      (stays_or_takes device folder name shares))
      (λ rest.
      ⊎_elim
      (λ own.
      ⊎_elim
      (λ stays. (device, shares, inr (inl (subst (λ (o : Option Entry). IsSome o) stays.0 own))))
      taken
      (stays_or_takes device folder name shares))
      (λ foreign.
      let before = known_before folder name foreign.0 (device, known.1, inr foreign.1) in
      known_of t folder name before.was before.known)
      rest)
      known.2

  -- ---- a name that prevails

  module _ (folder : Folder) (name : FileName) (top : Entry) (prevails : Prevails t folder name top) where
    within_top : (entry : Entry) → IsAnywhere new folder name entry → IsAtMost entry.version top.version
    within_top entry anywhere =
        let before = known_before folder name entry anywhere in
        at_most_as entry.version top.version before.was.version top.version before.version (equal_itself top.version) (prevails.top_of.above_all before.was before.known)

    chain_after : IsChain new folder name
    chain_after = record {
      in_line = λ one other here there.
          let a = known_before folder name one here in
          let b = known_before folder name other there in
          ⊎_elim
          (λ within. inl (at_most_as one.version other.version a.was.version b.was.version a.version b.version within))
          (λ within. inr (at_most_as other.version one.version b.was.version a.was.version b.version a.version within))
          (prevails.chain.in_line a.was b.was a.known b.known);
      agree = λ one other here there same.
          let a = known_before folder name one here in
          let b = known_before folder name other there in
          let equal : AreEqual a.was.version b.was.version = (
            λ id. let x = a.version.1 id in let y = same.0 id in let z = b.version.0 id in omega arith,
            λ id. let x = a.version.0 id in let y = same.1 id in let z = b.version.1 id in omega arith,
          ) in
          a.content ∙ prevails.chain.agree a.was b.was a.known b.known equal ∙ sym b.content;
    }

    owner_stays : new.own prevails.top_of.owner folder name ≡ Some top
    owner_stays =
        ⊎_elim
        (λ stays. stays.0 ∙ prevails.top_of.owned.0)
        (λ takes.
        let news : IsNews (Some top) takes.wants.entry = subst (λ (o : Option Entry). IsNews o takes.wants.entry) prevails.top_of.owned.0 takes.wants.news in
        let within = prevails.top_of.above_all takes.wants.entry (wanted_anywhere t prevails.top_of.owner folder name prevails.top_of.shares takes.wants) in
        let valid = prevails.top_of.owned.1 in
        absurd (⊎_elim (λ local. cc) (λ newer. newer within) news))
        (stays_or_takes prevails.top_of.owner folder name prevails.top_of.shares)

    top_after : IsTop new folder name top
    top_after = record {
      owner = prevails.top_of.owner;
      shares = shared_after prevails.top_of.owner folder prevails.top_of.shares;
      owned = (owner_stays, prevails.top_of.owned.1);
      above_all = within_top;
    }

    -- a device that takes changes goes on to
    still_takes_changes : (device : Device) → TakesChanges t device folder → TakesChanges new device folder
    still_takes_changes device takes =
        (takes.0, subst (λ (s : List (Device × FolderKind)). Contains s (device, takes.0)) (sym (step.free.sharing folder)) takes.1, takes.2)

    -- no record counts more than one of which this was asked before
    counts_no_more : (device : Device) (counted : ℕ) → ((entry : Entry) → IsAnywhere t folder name entry → counter_of entry.version device ≤ counted) →
        (entry : Entry) → IsAnywhere new folder name entry → counter_of entry.version device ≤ counted
    counts_no_more device counted asked entry anywhere =
        let before = known_before folder name entry anywhere in
        let a = before.version.0 device in
        let b = asked before.was before.known in
        omega arith

    module _ (device : Device) (shares : Shares t device folder) where
      was : LetsIn t device folder name top
      was = prevails.everywhere device shares

      lets_in_staying : StaysAt t new device folder name → LetsIn new device folder name top
      lets_in_staying stays = record {
        not_local = subst (λ (o : Option Entry). IsNoLocalChange o) (sym stays.0) was.not_local;
        clean =
            subst (λ (o : Option Entry). IsClean (new.node device folder name) o) (sym stays.0)
            (subst (λ (n : Option NodeParts). IsClean n (t.own device folder name)) (sym stays.1) was.clean);
        holds = ap content_of_node stays.1 ∙ was.holds ∙ ap content_owned (sym stays.0);
        takes = ⊎_elim
            (λ at. inl (subst (λ (o : Option Entry). IsAtTop o top) (sym stays.0) at))
            (λ takes. inr (still_takes_changes device takes))
            was.takes;
        counted =
            subst (λ (o : Option Entry). (entry : Entry) → IsAnywhere new folder name entry → counter_of entry.version device ≤ counter_of (version_of o) device) (sym stays.0)
            (counts_no_more device (counter_of (version_of (t.own device folder name)) device) was.counted);
      }

      -- who takes a record over isn't send only: at the top there is none to take
      taker_takes_changes : Takes t new device folder name → TakesChanges t device folder
      taker_takes_changes takes =
          ⊎_elim
          (λ same.
          ⊎_elim
          (λ at. absurd
          (no_news_at_top (t.own device folder name) top takes.wants.entry was.not_local at
          (prevails.top_of.above_all takes.wants.entry (wanted_anywhere t device folder name shares takes.wants)) same takes.wants.news))
          (λ takes_changes. takes_changes)
          was.takes)
          (λ takes_changes. takes_changes)
          takes.fits

      lets_in_taking : Takes t new device folder name → LetsIn new device folder name top
      lets_in_taking takes =
          let above = wanted_is_above device folder name shares takes.wants in
          subst (λ (o : Option Entry). IsNoLocalChange o × IsClean (new.node device folder name) o × (content_of_node (new.node device folder name) ≡ content_owned o) ×
          ((entry : Entry) → IsAnywhere new folder name entry → counter_of entry.version device ≤ counter_of (version_of o) device) → LetsIn new device folder name top)
          takes.own
          (λ parts. record {
            not_local = parts.0;
            clean = parts.1;
            holds = parts.2;
            takes = inr (still_takes_changes device (taker_takes_changes takes));
            counted = parts.3;
          }) (
            takes.valid,
            takes.file.clean,
            taken_file device folder name shares takes,
            counts_no_more device (counter_of takes.taken.version device)
                (λ entry anywhere.
                let a = was.counted entry anywhere in
                let b = above device in
                let c = takes.version.from_target device in
                omega arith),
          )

    prevails_after : Prevails new folder name top
    prevails_after = record {
      chain = chain_after;
      top_of = top_after;
      everywhere = λ device shares.
          let before = shared_before device folder shares in
          ⊎_elim (lets_in_staying device before) (lets_in_taking device before) (stays_or_takes device folder name before);
    }

  -- ---- the whole

  pub rises : (device : Device) (folder : Folder) (name : FileName) → Shares t device folder → Takes t new device folder name → RisesAt t new device folder name
  rises device folder name shares takes = record {
    entry = takes.wants.entry;
    known = wanted_anywhere t device folder name shares takes.wants;
    above = news_supersedes (t.own device folder name) takes.wants.entry (lets_in device folder name shares takes.wants).not_local
        (wanted_is_above device folder name shares takes.wants) takes.wants.news;
    own = takes.taken;
    recorded = takes.own;
    version = taken_version device folder name shares takes;
    content = takes.content;
    file = taken_file device folder name shares takes ∙ takes.content;
  }

  pub goes_on : GoesOnPrevailing t new
  goes_on = record {
    all = λ folder name known.
        let before = all folder name (no_name_comes folder name known) in
        (before.0, prevails_after folder name before.0 before.1);
    same = prevails_after;
    rise = λ device folder name shares.
        ⊎_elim (λ stays. inl stays) (λ takes. inr (rises device folder name shares takes)) (stays_or_takes device folder name shares);
    names = no_name_comes;
  }

pub steps_keep_prevailing_lem : StepsKeepPrevailing
steps_keep_prevailing_lem old new all step = goes_on old all new step
