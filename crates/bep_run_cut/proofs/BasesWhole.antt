-- The bases of copies are whole where the copies are: no event changes which devices there are, who shares a folder, or which
-- links a device knows.
use Rattle.std.proofs.Common.{◌≡◌, ◌≢◌, ◌≤◌, ◌∙◌, List, [], ◌∷◌, length, map, Option, Some, None, option_map, Contains, IsSome, refl, sym, ap, subst, arith}
use Rattle.std.specs.Prelude.{fold}
use Rattle.std.proofs.Math.Path.{fun_ext}
use Rattle.std.proofs.lemmas.List.{length-map}
use Rattle.std.proofs.lemmas.Map.Lookups.{exact_bytes}
use Rattle.std.specs.Cmp.Lexicographic.{nat_list_cmp_total}
use Rattle.std.specs.FinMap.{empty, entries, from_entries, get, keys, same_map}
use Rattle.std.specs.List.{AllByRecursion}
use Rattle.std.specs.List.Sorted.{IsStrictlyIncreasing, IsStrictlySortedBy}
use Rattle.bep_facts.specs.Members.{Contains-from_image, Contains-image}
use Rattle.bep_map.specs.NameMap.{ByName}
use Rattle.bep_record.specs.declared.folder_kind.FolderKind.{FolderKind}
use Rattle.bep_record.specs.declared.limits.TheConstants.{MAX_FOLDERS}
use Rattle.bep_model.specs.Tables.{Device, Folder}
use Rattle.bep_machine.specs.HalfLaws.{ReplaysKeepSharing, shared_as}
use Rattle.bep_machine.specs.Replica.{Replica}
use Rattle.bep_folder.specs.Held.{Held}
use Rattle.bep_links.specs.Link.{LinkBetween}
use Rattle.bep_peer.proofs.Mapped.{changed, entries-changed, get-changed}
use Rattle.bep_peer.specs.Laws.{NoMoreTables, TablesAreFound}
use Rattle.bep_peer.specs.Member.{Member, tables_of}
use Rattle.bep_peer.specs.network.Network.{ends_of, in_order}
use Rattle.bep_tables.specs.Cut.{ends_cmp}
use Rattle.bep_tables.specs.Names.{Names, with_names}
use Rattle.bep_cut.specs.Cut.{seen, with_folders}
use Rattle.bep_cut.specs.Parts.{AgreeOnLinks, AgreeOnSharing, Has, Knows, ShareSome}
use Rattle.bep_fit.specs.Logs.{events_of}
use Rattle.bep_log.specs.LoggedLink.{LoggedBetween}
use Rattle.bep_log.specs.LoggedPeer.{LoggedMember}
use Rattle.bep_run_cut.specs.RunCut.{IsLinkReplayedCopy, IsReplayedCopy, links_base, links_now, members_base, members_now}
use Rattle.bep_run_cut.specs.Whole.{AreWhole}
use Rattle.bep_run_cut.proofs.Replaying.{ends_kept, numbers_kept}

-- ---- maps with the same keys

abbrev key_of : {V : Type 0} → Folder × V → Folder
key_of one = one.0

abbrev nothing_of : {V : Type 0} → V → Unit {0}
nothing_of value = tt

module _ {V : Type 0} where
  names-changed : (es : List (Folder × V)) → map key_of (changed nothing_of es) ≡ map key_of es
  names-changed [] = refl
  names-changed (e ∷ es) = ap (λ (names : List Folder). e.0 ∷ names) (names-changed es)

  -- the same keys, each with nothing
  abbrev keyed : ByName V → ByName (Unit {0})
  keyed m = from_entries (changed nothing_of (entries m))

  keyed_keys : (m : ByName V) → map key_of (entries (keyed m)) ≡ keys m
  keyed_keys m = ap (map key_of) (entries-changed nat_list_cmp_total exact_bytes nothing_of m) ∙ names-changed (entries m)

  pub same_keys : (m n : ByName V) → ((folder : Folder) → option_map nothing_of (get m folder) ≡ option_map nothing_of (get n folder)) → keys m ≡ keys n
  same_keys m n same =
      let both : keyed m ≡ keyed n = same_map nat_list_cmp_total exact_bytes (keyed m) (keyed n) (λ folder.
      get-changed nat_list_cmp_total exact_bytes nothing_of m folder ∙ same folder ∙ sym (get-changed nat_list_cmp_total exact_bytes nothing_of n folder)) in
      sym (keyed_keys m) ∙ ap (λ (all : ByName (Unit {0})). map key_of (entries all)) both ∙ keyed_keys n

-- ---- what no event changes of a device

-- its number, the links that it knows, and the others that share each folder of its
record Shown : Type 0 where
  pub number : Device
  pub linked : List Device
  pub others : Folder → Option (List Device)

abbrev others_of : Held → List Device
others_of held = held.tables.others

abbrev shown : Member → Shown
shown member = record { number = member.number; linked = member.linked; others = λ folder. option_map others_of (get member.folders folder) }

others_in : (found : Option Held) → option_map others_of found ≡ option_map (λ (replica : Replica). replica.others) (option_map (λ (held : Held). held.tables) found)
others_in None = refl
others_in (Some held) = refl

others_as : (found : Option Replica) → option_map (λ (replica : Replica). replica.others) found ≡ option_map (λ (shared : FolderKind × List Device). shared.1) (option_map shared_as found)
others_as None = refl
others_as (Some replica) = refl

nothing_as : (found : Option Held) → option_map nothing_of found ≡ option_map (λ (others : List Device). tt) (option_map others_of found)
nothing_as None = refl
nothing_as (Some held) = refl

some_of : {A B : Type 0} (f : A → B) (found : Option A) → IsSome (option_map f found) → IsSome found
some_of f None has = absurd (cc)
some_of f (Some one) has = refl

some_map : {A B : Type 0} (f : A → B) (found : Option A) → IsSome found → IsSome (option_map f found)
some_map f None has = absurd (cc)
some_map f (Some one) has = refl

held_of : (found : Option Held) (others : List Device) → option_map others_of found ≡ Some others → (held : Held) × (found ≡ Some held) × (held.tables.others ≡ others)
held_of None others is = absurd (cc)
held_of (Some held) others is = (held, refl, cc)

module _ (keeps : ReplaysKeepSharing) (law : TablesAreFound) (only : NoMoreTables) where
  others_shown : (member : Member) (folder : Folder) →
      option_map others_of (get member.folders folder) ≡ option_map (λ (shared : FolderKind × List Device). shared.1) (option_map shared_as (get (tables_of member).replicas folder))
  others_shown member folder =
      others_in (get member.folders folder)
      ∙ ap (option_map (λ (replica : Replica). replica.others)) (sym (law member folder))
      ∙ others_as (get (tables_of member).replicas folder)

  others_kept : (peer : LoggedMember) → IsReplayedCopy peer → (folder : Folder) → option_map others_of (get peer.base.folders folder) ≡ option_map others_of (get peer.now.folders folder)
  others_kept peer replayed folder =
      others_shown peer.base folder
      ∙ ap (option_map (λ (shared : FolderKind × List Device). shared.1)) (sym (keeps peer.now.number (tables_of peer.base) (tables_of peer.now) (events_of peer.log) replayed.replays folder))
      ∙ sym (others_shown peer.now folder)

  shown_kept : (peer : LoggedMember) → IsReplayedCopy peer → shown peer.base ≡ shown peer.now
  shown_kept peer replayed = λ i. record {
    number = replayed.number i;
    linked = replayed.linked i;
    others = fun_ext (others_kept peer replayed) i;
  }

  all_shown : (peers : List LoggedMember) → AllByRecursion IsReplayedCopy peers → map shown (members_base peers) ≡ map shown (members_now peers)
  all_shown [] each = refl
  all_shown (peer ∷ more) each = λ i. shown_kept peer each.0 i ∷ all_shown more each.1 i

  keys_kept : (peer : LoggedMember) → IsReplayedCopy peer → keys (tables_of peer.base).replicas ≡ keys (tables_of peer.now).replicas
  keys_kept peer replayed =
      only peer.base
      ∙ same_keys peer.base.folders peer.now.folders (λ folder.
      nothing_as (get peer.base.folders folder)
      ∙ ap (option_map (λ (others : List Device). tt)) (others_kept peer replayed folder)
      ∙ sym (nothing_as (get peer.now.folders folder)))
      ∙ sym (only peer.now)

  folders_kept : (peers : List LoggedMember) → AllByRecursion IsReplayedCopy peers → (names : Names) →
      fold with_folders names (map seen (members_base peers)) ≡ fold with_folders names (map seen (members_now peers))
  folders_kept [] each names = refl
  folders_kept (peer ∷ more) each names =
      folders_kept more each.1 (with_folders names (seen peer.base))
      ∙ ap (λ (those : List Folder). fold with_folders (with_names names those) (map seen (members_now more))) (keys_kept peer each.0)

-- ---- devices that are shown alike

module _ (members others : List Member) (same : map shown members ≡ map shown others) where
  -- one of the devices is shown as the other one is
  twin : (member : Member) → Contains others member → (one : Member) × Contains members one × (shown one ≡ shown member)
  twin member there =
      Contains-from_image shown members (shown member) (subst (λ (all : List Shown). Contains all (shown member)) (sym same) (Contains-image shown others member there))

shares : (one other : Member) → shown one ≡ shown other → (folder : Folder) → IsSome (get one.folders folder) → IsSome (get other.folders folder)
shares one other same folder has =
    some_of others_of (get other.folders folder) (subst (λ (s : Shown). IsSome (s.others folder)) same (some_map others_of (get one.folders folder) has))

module _ (members others : List Member) (same : map shown members ≡ map shown others) where
  has : (device : Device) (folder : Folder) → Has others device folder → Has members device folder
  has device folder having =
      let found = twin members others same having.member having.there in
      record {
        member = found.0;
        there = found.1;
        number = ap (λ (s : Shown). s.number) found.2 ∙ having.number;
        shares = shares having.member found.0 (sym found.2) folder having.shares;
      }

  knows : (device other : Device) → Knows others device other → Knows members device other
  knows device other knowing =
      let found = twin members others same knowing.member knowing.there in
      record {
        member = found.0;
        there = found.1;
        number = ap (λ (s : Shown). s.number) found.2 ∙ knowing.number;
        linked = subst (λ (devices : List Device). Contains devices other) (sym (ap (λ (s : Shown). s.linked) found.2)) knowing.linked;
      }

module _ (members others : List Member) (same : map shown members ≡ map shown others) where
  agree_on_sharing : AgreeOnSharing members → AgreeOnSharing others
  agree_on_sharing agree member folder held device there is =
      let found = twin members others same member there in
      let number = ap (λ (s : Shown). s.number) found.2 in
      let was = held_of (get found.0.folders folder) held.tables.others (ap (λ (s : Shown). s.others folder) found.2 ∙ ap (option_map others_of) is) in
      let fits = agree found.0 folder was.0 device found.1 was.1 in (
        λ named.
            let apart = fits.0 (subst (λ (ds : List Device). Contains ds device) (sym was.2) named) in
            (subst (λ (n : Device). device ≢ n) number apart.0, has others members (sym same) device folder apart.1),
        λ having.
            subst (λ (ds : List Device). Contains ds device) was.2
            (fits.1 (subst (λ (n : Device). device ≢ n) (sym number) having.0, has members others same device folder having.1)),
      )

  agree_on_links : (links : List LinkBetween) → AgreeOnLinks members links → AgreeOnLinks others links
  agree_on_links links agree lower upper =
      let fits = agree lower upper in (
        λ stands. let both = fits.0 stands in (both.0, knows others members (sym same) lower upper both.1, knows others members (sym same) upper lower both.2),
        λ both. fits.1 (both.0, knows members others same lower upper both.1, knows members others same upper lower both.2),
      )

  share_some : ShareSome members → ShareSome others
  share_some some member there =
      let found = twin members others same member there in
      let shared = some found.0 found.1 in
      (shared.0, shares found.0 member found.2 shared.0 shared.1)

-- links with the same ends
agree_by_ends : (members : List Member) (links others : List LinkBetween) → ends_of links ≡ ends_of others → AgreeOnLinks members links → AgreeOnLinks members others
agree_by_ends members links others same agree lower upper =
    let fits = agree lower upper in (
      λ stands. fits.0 (subst (λ (ends : List (Device × Device)). Contains ends (lower, upper)) (sym same) stands),
      λ both. subst (λ (ends : List (Device × Device)). Contains ends (lower, upper)) same (fits.1 both),
    )

-- ---- the whole

pub bases_whole : ReplaysKeepSharing → TablesAreFound → NoMoreTables → (peers : List LoggedMember) (links : List LoggedBetween) → AllByRecursion IsReplayedCopy peers → AllByRecursion IsLinkReplayedCopy links →
    AreWhole (members_now peers) (links_now links) → AreWhole (members_base peers) (links_base links)
bases_whole keeps law only peers links each links_each whole =
    let members = members_now peers in
    let bases = members_base peers in
    let same : map shown members ≡ map shown bases = sym (all_shown keeps law only peers each) in
    let numbers = sym (numbers_kept peers each) in
    let ends = sym (ends_kept links links_each) in
    let parts = whole.parts in
    let long = length-map peers (λ (copy : LoggedMember). copy.now) in
    let base_long = length-map peers (λ (copy : LoggedMember). copy.base) in
    let links_long = length-map links (λ (copy : LoggedBetween). copy.now) in
    let base_links_long = length-map links (λ (copy : LoggedBetween). copy.base) in
    let few = parts.few_devices in
    let few_links = whole.few in
    record {
      parts = record {
        devices = subst IsStrictlyIncreasing numbers parts.devices;
        rising = subst (IsStrictlySortedBy ends_cmp) ends parts.rising;
        few_devices = omega (arith, few, long, base_long);
        few_folders = subst (λ (names : Names). length (keys names) ≤ MAX_FOLDERS) (sym (folders_kept keeps law only peers each empty)) parts.few_folders;
        sharing = agree_on_sharing members bases same parts.sharing;
        linked = agree_by_ends bases (links_now links) (links_base links) ends (agree_on_links members bases same (links_now links) parts.linked);
        some = share_some members bases same parts.some;
      };
      known = λ device other knowing.
          subst (λ (all : List (Device × Device)). Contains all (in_order device other)) ends (whole.known device other (knows members bases same device other knowing));
      few = omega (arith, few_links, links_long, base_links_long);
    }
