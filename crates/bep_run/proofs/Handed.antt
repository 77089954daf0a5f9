-- A cluster that is handed to threads, with a history of its devices and links.
use Rattle.std.proofs.Common.{◌≡◌, ◌++◌, ℕ, List, [], Option, Some, refl, sym, ap, subst, ◌∙◌}
use Rattle.atomic_table.specs.Seated.{TableId}
use Rattle.atomic_table.specs.declared.shared.Seat.{Seat}
use Rattle.bep_fit.specs.declared.object.Object.{Object}
use Rattle.bep_fit.specs.declared.stamped.Stamped.{Stamped}
use Rattle.bep_fit.specs.Fit.{Fits}
use Rattle.bep_fit.specs.FitLaws.{FittingLogsAreOneRun}
use Rattle.bep_fit.specs.Logs.{ObjectLog}
use Rattle.bep_history.specs.Chair.{IsNamed}
use Rattle.bep_history.specs.View.{beginning, view_of}
use Rattle.bep_history.specs.declared.view.View.{View}
use Rattle.bep_peer.specs.network.Network.{Network, cluster_of}
use Rattle.bep_run_cut.specs.OneRun.{IsRunOf}
use Rattle.bep_run_cut.specs.RunCut.{IsRunCut, RunState}
use Rattle.bep_run.specs.inner.Kept.{DoFit, IsAbout, IsFirstSeat, objects_of_links, objects_of_peers}
use Rattle.bep_run.proofs.Distinct.{objects_are}

pub named_as : (table : Option TableId) (id : TableId) → table ≡ Some id → IsNamed table id
named_as table id is = subst (λ t. IsNamed t id) (sym is) refl

pub about_these : (start : Option Network) (cluster : Network) (listed : List Object) → start ≡ Some cluster → listed ≡ objects_of_peers cluster.members ++ objects_of_links cluster.links → IsAbout start listed
about_these start cluster listed is are = subst (λ s. IsAbout s listed) (sym is) (objects_are cluster ∙ sym are)

pub first_seat_of : (table : Option TableId) (id : TableId) (place : Seat Stamped View) (listed these : List Object) (seat : Option View) → table ≡ Some id → seat ≡ Some (view_of place) → place.me ≡ (beginning listed, []) → listed ≡ these → IsFirstSeat table these seat
first_seat_of table id place listed these seat is sits owns are =
    subst (λ t. IsFirstSeat t these seat) (sym is) (sits ∙ ap (λ m. Some m.0) owns ∙ ap (λ os. Some (beginning os)) are)

pub fit_where_known : (start : Option Network) (table : Option TableId) (origin : Network) (id : TableId) (logs : List ObjectLog) → start ≡ Some origin → table ≡ Some id → DoFit start table logs → (count : ℕ) × Fits logs count
fit_where_known start table origin id logs is is' fit =
    subst (λ t. DoFit (Some origin) t logs) is' (subst (λ s. DoFit s table logs) is fit)

pub one_run_of : FittingLogsAreOneRun → (run : RunState) → IsRunCut run → (count : ℕ) × Fits run.logs count → (count : ℕ) × IsRunOf run count
one_run_of law run cut fit = (fit.0, law run.logs (cluster_of run.bases) (cluster_of run.present) fit.0 cut.sound cut.replayed cut.nodes fit.1)
