-- Links come and go, devices restart or are reset, and sessions begin.
use Rattle.std.proofs.Common.{◌≡◌, ◌==◌, ◌||◌, Bool, true, false, cond, List, [], ◌∷◌, ◌++◌, map, Some, Contains, option_map, refl, sym, ap, subst, ◌∙◌, inr, ⊎_elim, if◌then◌else◌, eq-eqb}
use Rattle.std.proofs.lemmas.Bool.{ne_eqb}
use Rattle.std.proofs.Math.Dec.{T}
use Rattle.std.specs.declared.cmp.Ordering.TheVariants.{Less}
use Rattle.std.specs.Ordering.{nat_cmp, eq_by_cmp}
use Rattle.std.specs.List.{AllByRecursion, flat_map}
use Rattle.std.specs.List.Sorted.{IsStrictlySortedBy}
use Rattle.std.specs.FinMap.Entries.{below_all}
use Rattle.std.specs.Cmp.{nat_cmp_total}
use Rattle.std.specs.Cmp.Lexicographic.{slice_cmp, nat_list_cmp_total}
use Rattle.std.proofs.lemmas.Map.Lookups.{exact_bytes}
use Rattle.std.specs.FinMap.{entries, entries_sorted, is_sorted, find, get, get-empty, get-entries, nat_cmp-IsAntisymmetric}
use Rattle.bep_facts.specs.Entries.{both_hold, is_Less}
use Rattle.bep_facts.specs.Orders.{not_less_itself}
use Rattle.bep_facts.specs.Maps.{get-insert_here, same_key}
use Rattle.bep_facts.specs.Members.{Contains-first, Contains-more, Contains-one, Contains-flat_map, Contains-from_flat_map, not_in_none}
use Rattle.bep_index.specs.declared.send.Plan.{Plan}
use Rattle.bep_model.specs.Tables.{Device, Folder}
use Rattle.bep_machine.specs.declared.message.Announced.{Announced}
use Rattle.bep_machine.specs.Replica.{Replica}
use Rattle.bep_machine.specs.Link.{Link, connected, lost}
use Rattle.bep_machine.specs.Peer.{Peer, new_session, is_shared_with, announced, config_for}
use Rattle.bep_machine.specs.Cluster.{Cluster, with_peer, without_links}
use Rattle.bep_machine.specs.Exchange.{NamesNot, NamesOnce}
use Rattle.bep_machine.specs.Steps.{without_pulls, restarted, anew_under, reset_to}
use Rattle.bep_machine.specs.LinkEffects.{ConnectOpens, LoseEmpties, IsEmpty, RestartForgets, ResetStartsOver, IsConfigFor, BeginOpens}
use Rattle.bep_machine.proofs.FoundAfter.{get-mapped}
use Rattle.bep_machine.proofs.GapEntries.{entry_is_found}
use Rattle.bep_machine.proofs.GapLinks.{peer_here, peer_apart}

-- ---- links

pub connect_opens : ConnectOpens
connect_opens old down room =
    (connected old, inr ((λ up. let never : true ≡ false = sym up ∙ down in absurd (cc)), inr (room, (refl, refl))), refl, refl, (refl, refl))

pub lose_empties : LoseEmpties
lose_empties old up =
    (lost old, inr ((λ down. let never : true ≡ false = sym up ∙ down in absurd (cc)), (refl, refl)), refl, refl, (refl, refl))

lost_where : (link : Link) (b : Bool) → b ≡ true → ((if b then lost link else link).up ≡ false) × IsEmpty (if b then lost link else link)
lost_where link true is = (refl, (refl, refl))
lost_where link false is = absurd (cc)

either_true : (a b : Bool) → (a ≡ true) → ((a || b) ≡ true) × ((b || a) ≡ true)
either_true true true is = (refl, refl)
either_true true false is = (refl, refl)
either_true false b is = absurd (cc)

neither_true : (a b : Bool) → a ≡ false → b ≡ false → (a || b) ≡ false
neither_true true b a_is b_is = absurd (cc)
neither_true false true a_is b_is = absurd (cc)
neither_true false false a_is b_is = refl

stays_unless : (link : Link) (b : Bool) → b ≡ false → (if b then lost link else link) ≡ link
stays_unless link true is = absurd (cc)
stays_unless link false is = refl

pub restart_forgets : RestartForgets
restart_forgets device old = (
  new,
  (refl, refl),
  record {
    sessions = ap (λ (p : Peer). p.sessions) here;
    replicas = λ folder replica there. (
      without_pulls replica,
      ap (λ (p : Peer). get p.replicas folder) here ∙ get-mapped nat_list_cmp_total without_pulls (old.peer device).replicas folder ∙ ap (option_map without_pulls) there,
      record { kind = refl; others = refl; index = refl; views = refl; store = refl; pulls = refl },
    );
    lower = λ other. lost_where (old.link device other) ((device == device) || (other == device)) (either_true (device == device) (other == device) (eq-eqb device device refl)).0;
    upper = λ other. lost_where (old.link other device) ((other == device) || (device == device)) (either_true (device == device) (other == device) (eq-eqb device device refl)).1;
    others = λ other apart. peer_apart old device (restarted (old.peer device)) other apart;
    apart = λ one other one_apart other_apart. stays_unless (old.link one other) ((one == device) || (other == device)) (neither_true (one == device) (other == device) (ne_eqb one device one_apart) (ne_eqb other device other_apart));
  },
)
  where
    new : Cluster
    new = without_links (with_peer old device (restarted (old.peer device))) device

    here : new.peer device ≡ restarted (old.peer device)
    here = peer_here old device (restarted (old.peer device))

pub reset_starts_over : ResetStartsOver
reset_starts_over device id old above = record {
  made = new;
  comes = inr (above, (refl, refl));
  fits = record {
    sessions = ap (λ (p : Peer). p.sessions) here;
    replicas = λ folder replica there. (
      anew_under id replica,
      ap (λ (p : Peer). get p.replicas folder) here ∙ get-mapped nat_list_cmp_total (anew_under id) (old.peer device).replicas folder ∙ ap (option_map (anew_under id)) there,
      record { kind = refl; others = refl; index = refl; views = refl; store = refl; pulls = refl },
    );
    lower = λ other. lost_where (old.link device other) ((device == device) || (other == device)) (either_true (device == device) (other == device) (eq-eqb device device refl)).0;
    upper = λ other. lost_where (old.link other device) ((other == device) || (device == device)) (either_true (device == device) (other == device) (eq-eqb device device refl)).1;
    others = λ other apart. peer_apart old device (reset_to id (old.peer device)) other apart;
    apart = λ one other one_apart other_apart. stays_unless (old.link one other) ((one == device) || (other == device)) (neither_true (one == device) (other == device) (ne_eqb one device one_apart) (ne_eqb other device other_apart));
  };
  only = λ state answer row. ⊎_elim (λ refused. absurd (above refused.0)) (λ resets. resets.1) row;
}
  where
    new : Cluster
    new = without_links (with_peer old device (reset_to id (old.peer device))) device

    here : new.peer device ≡ reset_to id (old.peer device)
    here = peer_here old device (reset_to id (old.peer device))

-- ---- what a ClusterConfig tells

found_stands : {V : Type 0} (es : List (Folder × V)) (folder : Folder) (value : V) → find (slice_cmp nat_cmp) folder es ≡ Some value → Contains es (folder, value)
found_stands [] folder value found = absurd (cc)
found_stands {V} (first ∷ more) folder value found = by_test (eq_by_cmp (slice_cmp nat_cmp) folder first.0) refl found (found_stands more folder value)
  where
    by_test : (b : Bool) → eq_by_cmp (slice_cmp nat_cmp) folder first.0 ≡ b → cond b (Some first.1) (find (slice_cmp nat_cmp) folder more) ≡ Some value → (find (slice_cmp nat_cmp) folder more ≡ Some value → Contains more (folder, value)) → Contains (first ∷ more) (folder, value)
    by_test true tied here later =
        subst (λ (f : Folder). Contains (first ∷ more) (f, value)) (sym (same_key exact_bytes folder first.0 tied))
        (subst (λ (v : V). Contains (first ∷ more) (first.0, v)) (cc) (Contains-first first more))
    by_test false apart there later = Contains-more first more (folder, value) (later there)

abbrev folders_of : List Announced → List Folder
folders_of named = map (λ (one : Announced). one.folder) named

-- what rises is named once
not_above : (folder : Folder) (named : List Announced) → AllByRecursion (λ name. slice_cmp nat_cmp folder name ≡ Less) (folders_of named) → NamesNot folder named
not_above folder [] above = tt
not_above folder (one ∷ more) above =
    ((λ same. not_less_itself nat_list_cmp_total folder (subst (λ (f : Folder). slice_cmp nat_cmp folder f ≡ Less) same above.0)), not_above folder more above.1)

named_once : (named : List Announced) → IsStrictlySortedBy (slice_cmp nat_cmp) (folders_of named) → NamesOnce named
unfolding IsStrictlySortedBy
named_once [] rise = tt
named_once (one ∷ more) rise = (not_above one.folder more rise.0, named_once more rise.1)

module _ (other : Device) (old : Peer) where
  abbrev names : Folder × Replica → List Announced
  names one = if is_shared_with other one.1 then announced other one.0 one.1 ∷ [] else []

  names_shared : (one : Folder × Replica) (b : Bool) → b ≡ true → Contains (if b then announced other one.0 one.1 ∷ [] else []) (announced other one.0 one.1)
  names_shared one true is = Contains-first (announced other one.0 one.1) []
  names_shared one false is = absurd (cc)

  named_shared : (one : Folder × Replica) (told : Announced) (b : Bool) → Contains (if b then announced other one.0 one.1 ∷ [] else []) told → (b ≡ true) × (announced other one.0 one.1 ≡ told)
  named_shared one told true stands = (refl, Contains-one (announced other one.0 one.1) told stands)
  named_shared one told false stands = absurd (not_in_none told stands)

  -- names of folders above this one, and names in order
  all_above : (folder : Folder) (es : List (Folder × Replica)) → T (below_all (slice_cmp nat_cmp) folder es) → AllByRecursion (λ name. slice_cmp nat_cmp folder name ≡ Less) (folders_of (flat_map names es))
  all_above folder [] below = tt
  all_above folder (one ∷ more) below =
      let parts = both_hold _ _ below in
      cases (is_shared_with other one.1) (is_Less _ parts.0) (all_above folder more parts.1)
    where
      cases : (b : Bool) → slice_cmp nat_cmp folder one.0 ≡ Less → AllByRecursion (λ name. slice_cmp nat_cmp folder name ≡ Less) (folders_of (flat_map names more)) →
          AllByRecursion (λ name. slice_cmp nat_cmp folder name ≡ Less) (folders_of ((if b then announced other one.0 one.1 ∷ [] else []) ++ flat_map names more))
      cases true above rest = (above, rest)
      cases false above rest = rest

  one_more : (one : Folder × Replica) (later : List Announced) (b : Bool) → AllByRecursion (λ name. slice_cmp nat_cmp one.0 name ≡ Less) (folders_of later) → IsStrictlySortedBy (slice_cmp nat_cmp) (folders_of later) →
      IsStrictlySortedBy (slice_cmp nat_cmp) (folders_of ((if b then announced other one.0 one.1 ∷ [] else []) ++ later))
  unfolding IsStrictlySortedBy
  one_more one later true above rest = (above, rest)
  one_more one later false above rest = rest

  names_rise : (es : List (Folder × Replica)) → T (is_sorted (slice_cmp nat_cmp) es) → IsStrictlySortedBy (slice_cmp nat_cmp) (folders_of (flat_map names es))
  unfolding IsStrictlySortedBy
  names_rise [] sorted = tt
  names_rise (one ∷ more) sorted =
      let parts = both_hold _ _ sorted in
      one_more one (flat_map names more) (is_shared_with other one.1) (all_above one.0 more parts.0) (names_rise more parts.1)

  config_rises : IsStrictlySortedBy (slice_cmp nat_cmp) (folders_of (config_for other old))
  config_rises = names_rise (entries old.replicas) (entries_sorted old.replicas)

  config_is_for : IsConfigFor other old (config_for other old)
  config_is_for = record {
    once = named_once (config_for other old) config_rises;
    rise = config_rises;
    told = λ one stands.
        let from = Contains-from_flat_map names (entries old.replicas) one stands in
        let shared = named_shared from.0 one (is_shared_with other from.0.1) from.2 in
        let there = entry_is_found old.replicas from.0.0 from.0.1 from.1 in (
          from.0.1,
          ap (get old.replicas) (sym (ap (λ (a : Announced). a.folder) shared.1)) ∙ there,
          shared.0,
          record {
            index_id = sym (ap (λ (a : Announced). a.index_id) shared.1);
            sequence = sym (ap (λ (a : Announced). a.sequence) shared.1);
            known_id = sym (ap (λ (a : Announced). a.known_id) shared.1);
            known_sequence = sym (ap (λ (a : Announced). a.known_sequence) shared.1);
          },
        );
    all = λ folder shares.
        let stands = found_stands (entries old.replicas) folder shares.0 (sym (get-entries old.replicas folder) ∙ shares.1) in (
          announced other folder shares.0,
          Contains-flat_map names (entries old.replicas) (folder, shares.0) (announced other folder shares.0) stands (names_shared (folder, shares.0) (is_shared_with other shares.0) shares.2),
          refl,
        );
  }

-- ---- a session begins

pub begin_opens : BeginOpens
begin_opens other sight old free none = (
  _,
  new_session sight.epoch,
  config_for other old,
  inr ((λ down. let never : true ≡ false = sym free.up ∙ down in absurd (cc)), inr (none, inr ((λ full. let never : true ≡ false = sym full ∙ free.room in absurd (cc)), (refl, refl)))),
  get-insert_here nat_cmp_total nat_cmp-IsAntisymmetric old.sessions other (new_session sight.epoch),
  record { current = refl; unconfigured = refl; unnamed = λ folder. get-empty {X = Plan} (slice_cmp nat_cmp) folder; unasked = refl; next = refl },
  config_is_for other old,
  refl,
  refl,
  refl,
)
