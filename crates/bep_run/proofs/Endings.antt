-- The logs of copies whose seats came together fit.
use Rattle.std.proofs.Common.{◌≡◌, ◌++◌, List, [], ◌∷◌, map, Option, Some, None, Contains, refl, sym, ap, subst, ◌∙◌, ⊎_elim}
use Rattle.std.specs.List.{AllByRecursion}
use Rattle.std.proofs.lemmas.List.Elements.{Contains-append_cases, Contains-append_right, Contains-push_cases}
use Rattle.atomic_table.specs.Seated.{TableId}
use Rattle.bep_facts.specs.Members.{Contains-first, Contains-from_image, holds_of_member, not_in_none}
use Rattle.bep_fit.specs.declared.object.Object.{Object}
use Rattle.bep_fit.specs.Fit.{AreOfOneRound, first_round}
use Rattle.bep_fit.specs.Logs.{HasLog, ObjectLog}
use Rattle.bep_fit.specs.Replayed.{objects_of}
use Rattle.bep_history.specs.Chair.{joined_with}
use Rattle.bep_history.specs.Laws.{PartsFit}
use Rattle.bep_history.specs.View.{IsTold, row}
use Rattle.bep_history.specs.declared.view.Row.{Row}
use Rattle.bep_history.specs.declared.view.View.{View}
use Rattle.bep_log.specs.LoggedLink.{LoggedBetween}
use Rattle.bep_log.specs.LoggedPeer.{LoggedMember}
use Rattle.bep_peer.specs.network.Network.{Network, cluster_of}
use Rattle.bep_run_check.specs.Log.{IsLogged}
use Rattle.bep_run_cut.specs.RunCut.{AreTheSame, IsRunCut, RunState, device_log, link_log, logs_of}
use Rattle.bep_run.specs.inner.Ending.{HaveLog, KnowsDevices, KnowsEach, KnowsLinks}
use Rattle.bep_run.specs.inner.Kept.{DoFit, IsAbout, IsSeated}
use Rattle.bep_run.specs.Origin.{BeginsAs}
use Rattle.bep_run.proofs.Begins.{same_cluster_of}

-- ---- copies one by one

pub knows_none : {A : Type 0} (log_of : A → ObjectLog) (table : Option TableId) (copies : List A) (rows : List Row) → copies ≡ [] → KnowsEach log_of table copies rows
knows_none log_of None copies rows none = tt
knows_none log_of (Some table) copies rows none = λ copy stands. absurd (not_in_none copy (subst (λ all. Contains all copy) none stands))

-- what was known stays so, as another seat comes to it
pub still_has : (seat : Option View) (old : View) (one : Row) → Contains old.rows one → Contains (joined_with seat old).rows one
still_has None old one stands = stands
still_has (Some its) old one stands = Contains-append_right its.rows old.rows one stands

-- with the copy whose seat came
pub knows_with : {A : Type 0} (log_of : A → ObjectLog) (table : Option TableId) (copies : List A) (copy : A) (seat : Option View) (old : View) (rows : List Row) →
    rows ≡ (joined_with seat old).rows → KnowsEach log_of table copies old.rows → IsSeated table (log_of copy).object (log_of copy).round (log_of copy).events seat → KnowsEach log_of table (copies ++ copy ∷ []) rows
knows_with log_of None copies copy seat old rows are knows seated = tt
knows_with {A} log_of (Some table) copies copy seat old rows are knows seated = λ one stands. subst (λ rs. HaveLog rs (log_of one)) (sym are) (have one stands)
  where
    known : HaveLog (joined_with seat old).rows (log_of copy)
    known = (
      seated.0,
      subst (λ (s : Option View). Contains (joined_with s old).rows (row (log_of copy).object (log_of copy).events)) (sym seated.1)
          (Contains-first (row (log_of copy).object (log_of copy).events) old.rows),
    )

    have : (one : A) → Contains (copies ++ copy ∷ []) one → HaveLog (joined_with seat old).rows (log_of one)
    have one stands =
        ⊎_elim
        (λ before. let has = knows one before in (has.0, still_has seat old (row (log_of one).object (log_of one).events) has.1))
        (λ (last : copy ≡ one). subst (λ z. HaveLog (joined_with seat old).rows (log_of z)) last known)
        (Contains-push_cases copies copy one stands)

pub knows_still : {A : Type 0} (log_of : A → ObjectLog) (table : Option TableId) (copies : List A) (old new : List Row) → ((one : Row) → Contains old one → Contains new one) → KnowsEach log_of table copies old → KnowsEach log_of table copies new
knows_still log_of None copies old new still knows = tt
knows_still log_of (Some table) copies old new still knows = λ copy stands. let has = knows copy stands in (has.0, still (row (log_of copy).object (log_of copy).events) has.1)

-- ---- all of them

first_is_zero : (logs : List ObjectLog) → ((log : ObjectLog) → Contains logs log → log.round ≡ 0) → first_round logs ≡ 0
first_is_zero [] zero = refl
first_is_zero (log ∷ more) zero = zero log (Contains-first log more)

module _ (copies : List LoggedMember) (links : List LoggedBetween) (rows : List Row) (table : TableId) (devices_known : KnowsDevices (Some table) copies rows) (links_known : KnowsLinks (Some table) links rows) where
  has_log : (log : ObjectLog) → Contains (logs_of copies links) log → HaveLog rows log
  has_log log stands =
      ⊎_elim
      (λ here. let found = Contains-from_image device_log copies log here in subst (HaveLog rows) found.2 (devices_known found.0 found.1))
      (λ there. let found = Contains-from_image link_log links log there in subst (HaveLog rows) found.2 (links_known found.0 found.1))
      (Contains-append_cases (map device_log copies) (map link_log links) log stands)

  one_round : AreOfOneRound (logs_of copies links)
  one_round log stands = (has_log log stands).0 ∙ sym (first_is_zero (logs_of copies links) (λ one stands'. (has_log one stands').0))

-- each object of the cluster that all began as has a log
objects_logged : (origin : Network) (run : RunState) (object : Object) → IsRunCut run → AreTheSame run.bases origin.members origin.links → Contains (objects_of (cluster_of origin).config) object → HasLog run.logs object
objects_logged origin run object cut same stands =
    let listed = cut.replayed.objects ∙ ap (λ cluster. objects_of cluster.config) (same_cluster_of run.bases origin same) in
    Contains-from_image (λ (log : ObjectLog). log.object) run.logs object (subst (λ os. Contains os object) (sym listed) stands)

pub logs_fit : (start : Option Network) (table : Option TableId) (run : RunState) (copies : List LoggedMember) (links : List LoggedBetween) (listed : List Object) (whole : View) →
    PartsFit → IsTold listed whole → IsAbout start listed → IsRunCut run → AllByRecursion IsLogged run.logs → BeginsAs start run.bases → run.logs ≡ logs_of copies links →
    KnowsDevices table copies whole.rows → KnowsLinks table links whole.rows → DoFit start table run.logs
logs_fit None table run copies links listed whole fit told about cut logged begins are devices_known links_known = tt
logs_fit (Some origin) None run copies links listed whole fit told about cut logged begins are devices_known links_known = tt
logs_fit (Some origin) (Some table) run copies links listed whole fit told about cut logged begins are devices_known links_known =
    fit listed whole run.logs told
    (λ log stands. (has_log copies links whole.rows table devices_known links_known log (subst (λ ls. Contains ls log) are stands)).1)
    (λ object stands. objects_logged origin run object cut begins (subst (λ os. Contains os object) (sym about) stands))
    (λ log stands. (holds_of_member IsLogged run.logs log logged stands).ticketed.rise)
    (subst AreOfOneRound (sym are) (one_round copies links whole.rows table devices_known links_known))
