-- What renewing the views of another device makes of the tables, and what it leaves as it was.
use Rattle.std.proofs.Common.{◌≡◌, ◌<◌, ℕ, T, Bool, true, false, cond, List, [], ◌∷◌, Option, Some, None, IsSome, Result, Ok, Err, OnOk, OnErr, Contains, option_map, length, refl, sym, ap, subst, ◌∙◌, arith}
use Rattle.std.proofs.Math.Facts.{eqb_yes, yes_eqb}
use Rattle.std.specs.Prelude.{unwrap_or, ◌==◌}
use Rattle.std.specs.FinMap.{nat_cmp-IsAntisymmetric, get, insert, get-insert}
use Rattle.std.specs.Ordering.{nat_cmp, eq_by_cmp}
use Rattle.std.specs.Cmp.{nat_cmp_total}
use Rattle.std.specs.Cmp.Lexicographic.{slice_cmp, nat_list_cmp_total}
use Rattle.std.proofs.lemmas.Map.Lookups.{exact_bytes}
use Rattle.bep_facts.specs.Maps.{get-insert_here, insert-twice, insert-what_is_there, remove-insert, same_key}
use Rattle.bep_map.specs.NameMap.{ByName}
use Rattle.bep_index.specs.Listing.{Listing}
use Rattle.bep_index.specs.View.{cleared}
use Rattle.bep_model.specs.Tables.{Device, Folder}
use Rattle.bep_machine.specs.declared.message.Announced.{Announced}
use Rattle.bep_machine.specs.Exchange.{all_renewed, known_under, renewed}
use Rattle.bep_machine.specs.Peer.{Session}
use Rattle.bep_machine.specs.Replica.{ByDevice, Replica, with_view}
use Rattle.bep_folder.specs.Held.{Held}
use Rattle.bep_folder.specs.Views.{exchanged, unchanged, with_exchanged}
use Rattle.bep_peer.specs.Member.{IsMember, tables_in}
use Rattle.bep_peer.specs.inner.Renew.{AreFramed, AreSharedBy, IsUnder, frame_of}
use Rattle.bep_peer.specs.inner.Index.{IsSharedBy}
use Rattle.bep_peer.proofs.MemberFacts.{has_tables, tables-given, tables-same}

-- the parts of a folder that no change of a view touches
abbrev Frame : Type 0
Frame = Device × (Folder × (List Device × ℕ))

-- ---- frames

framed_insert : (folders : ByName Held) (folder : Folder) (was now : Held) → get folders folder ≡ Some was → frame_of now ≡ frame_of was → AreFramed folders (insert folders folder now)
framed_insert folders folder was now has same other =
    ap (option_map frame_of) (get-insert nat_list_cmp_total folders folder now other) ∙ cases (eq_by_cmp (slice_cmp nat_cmp) other folder) refl
  where
    cases : (b : Bool) → eq_by_cmp (slice_cmp nat_cmp) other folder ≡ b → option_map frame_of (cond b (Some now) (get folders other)) ≡ option_map frame_of (get folders other)
    cases true tied = ap Some same ∙ sym (ap (option_map frame_of) (ap (get folders) (same_key exact_bytes other folder tied) ∙ has))
    cases false apart = refl

pub framed_then : (old new later : ByName Held) → AreFramed old new → AreFramed new later → AreFramed old later
framed_then old new later first second folder = second folder ∙ first folder

framed_back : (old new : ByName Held) → AreFramed old new → (folder : Folder) (held : Held) → get new folder ≡ Some held → (was : Held) × (get old folder ≡ Some was) × (frame_of held ≡ frame_of was)
framed_back old new framed folder held is = cases (get old folder) refl (sym (framed folder) ∙ ap (option_map frame_of) is)
  where
    cases : (found : Option Held) → get old folder ≡ found → option_map frame_of found ≡ Some (frame_of held) → (was : Held) × (get old folder ≡ Some was) × (frame_of held ≡ frame_of was)
    cases None at e = absurd (cc)
    cases (Some was) at e = let one : frame_of was ≡ frame_of held = same_some (frame_of was) (frame_of held) e in (was, at, sym one)
      where
        same_some : (one other : Frame) → Some one ≡ Some other → one ≡ other
        same_some one other is = cc

pub shared_framed : (old new : ByName Held) → AreFramed old new → (folder : Folder) (other : Device) → IsSharedBy old folder other → IsSharedBy new folder other
shared_framed old new framed folder other shared =
    let back = framed_back new old (λ one. sym (framed one)) folder shared.0 shared.1 in
    (back.0, back.1, subst (λ (others : List Device). Contains others other) (ap (λ (f : Frame). f.1.1.0) back.2) shared.2)

pub are_shared_framed : (old new : ByName Held) → AreFramed old new → (other : Device) (named : List Announced) → AreSharedBy old other named → AreSharedBy new other named
are_shared_framed old new framed other [] all = tt
are_shared_framed old new framed other (one ∷ more) all = (shared_framed old new framed one.folder other all.0, are_shared_framed old new framed other more all.1)

pub member_framed : (number : Device) (old new : ByName Held) (sessions : ByDevice Session) (linked : List Device) → AreFramed old new → IsMember number old sessions linked → IsMember number new sessions linked
member_framed number old new sessions linked framed member = record {
  own = λ folder held is.
      let back = framed_back old new framed folder held is in
      let was = member.own folder back.0 back.1 in
      (ap (λ (f : Frame). f.0) back.2 ∙ was.0, ap (λ (f : Frame). f.1.0) back.2 ∙ was.1);
  named = λ other session folder has named. shared_framed old new framed folder other (member.named other session folder has named);
  linked_to = member.linked_to;
}

-- ---- the folders that are named

pub rest_shorter : (one : Announced) (more named : List Announced) → named ≡ one ∷ more → length more < length named
rest_shorter one more named split = subst (λ (list : List Announced). length more < length list) (sym split) (omega arith)

-- ---- views

known : (id : ℕ) (view : Listing) → view.id ≡ id → known_under id view ≡ view
known id view is = cases (view.id == id) (yes_eqb is)
  where
    cases : (b : Bool) → T b → cond b view (cleared id) ≡ view
    cases true holds = refl
    cases false never = absurd never

apart_under : (id : ℕ) (found : Option Listing) → ¬ IsUnder id found → known_under id (unwrap_or found (cleared 0)) ≡ cleared id
apart_under id None apart = cases (0 == id) refl
  where
    cases : (b : Bool) → (0 == id) ≡ b → cond b (cleared 0) (cleared id) ≡ cleared id
    cases true tied = let yes : T (0 == id) = subst T (sym tied) tt in ap cleared (eqb_yes yes)
    cases false untied = refl
apart_under id (Some view) apart = cases (view.id == id) refl
  where
    cases : (b : Bool) → (view.id == id) ≡ b → cond b view (cleared id) ≡ cleared id
    cases true tied = let yes : T (view.id == id) = subst T (sym tied) tt in absurd (apart (eqb_yes yes))
    cases false untied = refl

-- a view under the announced id stays
renewed_under : (tables : ByName Replica) (one : Announced) (other : Device) (replica : Replica) → get tables one.folder ≡ Some replica → IsUnder one.index_id (get replica.views other) → renewed other one (get tables one.folder) tables ≡ tables
renewed_under tables one other replica has under =
    ap (λ (found : Option Replica). renewed other one found tables) has
    ∙ ap (insert tables one.folder) (same (get replica.views other) refl under)
    ∙ insert-what_is_there nat_list_cmp_total exact_bytes tables one.folder replica has
  where
    same : (found : Option Listing) → get replica.views other ≡ found → IsUnder one.index_id found → with_view replica other (known_under one.index_id (unwrap_or found (cleared 0))) ≡ replica
    same None at never = absurd never
    same (Some view) at is =
        ap (with_view replica other) (known one.index_id view is)
        ∙ ap (λ (views : ByDevice Listing). let made : Replica = record replica { views = views } in made) (insert-what_is_there nat_cmp_total nat_cmp-IsAntisymmetric replica.views other view at)

-- and one under another id becomes empty
renewed_given : (old new : ByName Held) (one : Announced) (other : Device) (held : Held) → get old one.folder ≡ Some held → ¬ IsUnder one.index_id (get held.tables.views other) →
    new ≡ insert old one.folder (with_exchanged held other (Some (cleared one.index_id))) → tables_in new ≡ renewed other one (get (tables_in old) one.folder) (tables_in old)
renewed_given old new one other held has apart is =
    ap tables_in is
    ∙ tables-given old one.folder (with_exchanged held other (Some (cleared one.index_id)))
    ∙ ap (λ (view : Listing). insert (tables_in old) one.folder (with_view held.tables other view)) (sym (apart_under one.index_id (get held.tables.views other) apart))
    ∙ sym (ap (λ (found : Option Replica). renewed other one found (tables_in old)) (has_tables old one.folder held has))

-- what was known comes back
views_back : (views : ByDevice Listing) (other : Device) (empty : Listing) (found : Option Listing) → get views other ≡ found → exchanged (insert views other empty) other found ≡ views
views_back views other empty None at = remove-insert nat_cmp_total nat_cmp-IsAntisymmetric views other empty at
views_back views other empty (Some before) at =
    insert-twice nat_cmp_total nat_cmp-IsAntisymmetric views other empty before
    ∙ insert-what_is_there nat_cmp_total nat_cmp-IsAntisymmetric views other before at

-- the folder's tables are those which it was given
same_given : (old new : ByName Held) (folder : Folder) (given later : Held) → tables_in new ≡ tables_in (insert old folder given) → get new folder ≡ Some later → later.tables ≡ given.tables
same_given old new folder given later same at =
    let is : Some later.tables ≡ Some given.tables =
    sym (has_tables new folder later at)
    ∙ ap (λ (tables : ByName Replica). get tables folder) same
    ∙ has_tables (insert old folder given) folder given (get-insert_here nat_list_cmp_total exact_bytes old folder given) in cc

pub viewed_still : (old new : ByName Held) (folder : Folder) (other : Device) (held later : Held) (empty : Listing) → tables_in new ≡ tables_in (insert old folder (with_exchanged held other (Some empty))) → get new folder ≡ Some later →
    IsSome (get later.tables.views other)
viewed_still old new folder other held later empty same at =
    subst (λ (found : Option Listing). IsSome found)
    (sym (ap (λ (r : Replica). get r.views other) (same_given old new folder (with_exchanged held other (Some empty)) later same at) ∙ get-insert_here nat_cmp_total nat_cmp-IsAntisymmetric held.tables.views other empty)) refl

pub tables_back : (old new back : ByName Held) (folder : Folder) (other : Device) (held later : Held) (empty : Listing) → get old folder ≡ Some held →
    tables_in new ≡ tables_in (insert old folder (with_exchanged held other (Some empty))) → get new folder ≡ Some later →
    back ≡ insert new folder (with_exchanged later other (get held.tables.views other)) → tables_in back ≡ tables_in old
tables_back old new back folder other held later empty has same at is =
    ap tables_in is
    ∙ tables-given new folder (with_exchanged later other (get held.tables.views other))
    ∙ ap (insert (tables_in new) folder) (ap (λ (r : Replica). let made : Replica = record r { views = exchanged r.views other (get held.tables.views other) } in made) (same_given old new folder first later same at) ∙ given)
    ∙ ap (λ (tables : ByName Replica). insert tables folder held.tables) (same ∙ tables-given old folder first)
    ∙ insert-twice nat_list_cmp_total exact_bytes (tables_in old) folder first.tables held.tables
    ∙ insert-what_is_there nat_list_cmp_total exact_bytes (tables_in old) folder held.tables (has_tables old folder held has)
  where
    first : Held
    first = with_exchanged held other (Some empty)

    given : record first.tables { views = exchanged first.tables.views other (get held.tables.views other) } ≡ held.tables
    given = ap (λ (views : ByDevice Listing). let made : Replica = record held.tables { views = views } in made) (views_back held.tables.views other empty (get held.tables.views other) refl)

-- a folder whose view is exchanged
pub framed_exchanged : (old new : ByName Held) (folder : Folder) (other : Device) (held : Held) (view : Option Listing) → get old folder ≡ Some held → new ≡ insert old folder (with_exchanged held other view) → AreFramed old new
framed_exchanged old new folder other held view has is =
    subst (λ (folders : ByName Held). AreFramed old folders) (sym is) (framed_insert old folder held (with_exchanged held other view) has refl)

-- and one that stays
pub framed_unchanged : (old new : ByName Held) (folder : Folder) (held : Held) → get old folder ≡ Some held → new ≡ insert old folder (unchanged held) → AreFramed old new
framed_unchanged old new folder held has is = subst (λ (folders : ByName Held). AreFramed old folders) (sym is) (framed_insert old folder held (unchanged held) has refl)

pub tables_unchanged : (old new : ByName Held) (folder : Folder) (held : Held) → get old folder ≡ Some held → new ≡ insert old folder (unchanged held) → tables_in new ≡ tables_in old
tables_unchanged old new folder held has is = ap tables_in is ∙ tables-same old folder held (unchanged held) has refl

-- what holds holds on an error
pub on_err : {T E A : Type 0} (result : Result T E) → A → OnErr result A
on_err (Ok done) holds = tt
on_err (Err error) holds = holds

-- ---- one folder after the other

module _ (other : Device) (one : Announced) (more named : List Announced) (is : named ≡ one ∷ more) (old : ByName Held) where
  pub shared_first : AreSharedBy old other named → IsSharedBy old one.folder other
  shared_first shared = (subst (λ (all : List Announced). AreSharedBy old other all) is shared).0

  pub shared_rest : AreSharedBy old other named → AreSharedBy old other more
  shared_rest shared = (subst (λ (all : List Announced). AreSharedBy old other all) is shared).1

  module _ (held : Held) (has : get old one.folder ≡ Some held) where
    -- the first one's view is under its id already
    pub renewed_rest : {T E : Type 0} (result : Result T E) (new : ByName Held) → IsUnder one.index_id (get held.tables.views other) → OnOk result (tables_in new ≡ all_renewed other more (tables_in old)) →
        OnOk result (tables_in new ≡ all_renewed other named (tables_in old))
    renewed_rest (Ok done) new under rest =
        rest
        ∙ ap (all_renewed other more) (sym (renewed_under (tables_in old) one other held.tables (has_tables old one.folder held has) under))
        ∙ sym (ap (λ (all : List Announced). all_renewed other all (tables_in old)) is)
    renewed_rest (Err error) new under rest = tt

    -- the first one's view is cleared, and then the others are renewed
    pub renewed_both : (next new : ByName Held) (empty : Listing) → (¬ IsUnder one.index_id (get held.tables.views other)) → empty ≡ cleared one.index_id →
        next ≡ insert old one.folder (with_exchanged held other (Some empty)) → tables_in new ≡ all_renewed other more (tables_in next) → tables_in new ≡ all_renewed other named (tables_in old)
    renewed_both next new empty apart cleared_is next_is rest =
        rest
        ∙ ap (all_renewed other more) (renewed_given old next one other held has apart (next_is ∙ ap (λ (view : Listing). insert old one.folder (with_exchanged held other (Some view))) cleared_is))
        ∙ sym (ap (λ (all : List Announced). all_renewed other all (tables_in old)) is)
