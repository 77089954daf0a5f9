-- The logs of a run cut, where those of its copies are quiet.
use Rattle.std.proofs.Common.{◌≡◌, ◌++◌, ◌&&◌, Bool, true, false, List, [], ◌∷◌, map, Option, Some, None, Contains, refl, ap, subst, ◌∙◌, ⊎_elim}
use Rattle.std.proofs.lemmas.List.Elements.{Contains-append_cases}
use Rattle.bep_facts.specs.Members.{Contains-cons_cases, Contains-from_image, not_in_none}
use Rattle.bep_fit.specs.declared.stamped.Stamped.{Stamped}
use Rattle.bep_fit.specs.Logs.{ObjectLog}
use Rattle.bep_fit.specs.Replayed.{AreQuietLogs, AreResetOf}
use Rattle.bep_log.specs.LoggedLink.{LoggedBetween}
use Rattle.bep_log.specs.LoggedPeer.{LoggedMember}
use Rattle.bep_machine.specs.declared.step.Step.{Step}
use Rattle.bep_machine.specs.declared.step.Step.TheVariants.{Edit, Remove, Scan, Override, Revert, Connect, Lose, Begin, Deliver, Announce, StartPull, Ask, Finish, Restart, Reset}
use Rattle.bep_machine.specs.Steps.{IsQuiet, reset_by}
use Rattle.bep_peer.specs.network.Network.{Network}
use Rattle.bep_run_cut.specs.RunCut.{device_log, link_log, logs_of}
use Rattle.bep_run.specs.Quiet.{AreStill, are_quiet, device_logs, is_quiet, link_logs, quiet_log, quiet_logs}

-- ---- two tests

pub both_pass : (a b : Bool) → a ≡ true → b ≡ true → (a && b) ≡ true
both_pass a b one other = ap (λ x. x && b) one ∙ other

pub first_passes : (a b : Bool) → (a && b) ≡ true → a ≡ true
first_passes true b both = refl
first_passes false b both = absurd (cc)

pub rest_passes : (a b : Bool) → (a && b) ≡ true → b ≡ true
rest_passes true b both = both
rest_passes false b both = absurd (cc)

-- ---- what the tests say

quiet_step : (step : Step) → is_quiet step ≡ true → IsQuiet step × (reset_by step ≡ [])
quiet_step (Edit device folder name node) is = absurd (cc)
quiet_step (Remove device folder name) is = absurd (cc)
quiet_step (Scan device folder name) is = (tt, refl)
quiet_step (Override device folder name) is = absurd (cc)
quiet_step (Revert device folder name) is = absurd (cc)
quiet_step (Connect one other) is = (tt, refl)
quiet_step (Lose one other) is = (tt, refl)
quiet_step (Begin device other) is = (tt, refl)
quiet_step (Deliver device other) is = (tt, refl)
quiet_step (Announce device other folder) is = (tt, refl)
quiet_step (StartPull device folder name) is = (tt, refl)
quiet_step (Ask device other folder name) is = (tt, refl)
quiet_step (Finish device folder name) is = (tt, refl)
quiet_step (Restart device) is = (tt, refl)
quiet_step (Reset device id) is = absurd (cc)

quiet_one : (log : List Stamped) (one : Stamped) → are_quiet log ≡ true → Contains log one → is_quiet one.event.step ≡ true
quiet_one [] one quiet stands = absurd (not_in_none one stands)
quiet_one (first ∷ more) one quiet stands =
    ⊎_elim
    (λ here. subst (λ (s : Stamped). is_quiet s.event.step ≡ true) here (first_passes (is_quiet first.event.step) (are_quiet more) quiet))
    (λ later. quiet_one more one (rest_passes (is_quiet first.event.step) (are_quiet more) quiet) later)
    (Contains-cons_cases first more one stands)

quiet_among : {A : Type 0} (f : A → List Stamped) (origin : Network) (these : List A) (x : A) → quiet_logs (Some origin) (map f these) ≡ true → Contains these x → are_quiet (f x) ≡ true
quiet_among f origin [] x quiet stands = absurd (not_in_none x stands)
quiet_among f origin (y ∷ these) x quiet stands =
    ⊎_elim
    (λ here. subst (λ z. are_quiet (f z) ≡ true) here (first_passes (are_quiet (f y)) (quiet_logs (Some origin) (map f these)) quiet))
    (λ later. quiet_among f origin these x (rest_passes (are_quiet (f y)) (quiet_logs (Some origin) (map f these)) quiet) later)
    (Contains-cons_cases y these x stands)

-- ---- of copies, and of the run cut that holds them

-- with the copy of the next one
pub quiet_with : {A : Type 0} (f : A → List Stamped) (start : Option Network) (these : List A) (one : A) → quiet_logs start (map f these) ≡ true → quiet_log start (f one) ≡ true → quiet_logs start (map f (these ++ one ∷ [])) ≡ true
quiet_with f start [] one quiet is = ap (λ b. b && true) is
quiet_with f start (x ∷ these) one quiet is =
    both_pass (quiet_log start (f x)) (quiet_logs start (map f (these ++ one ∷ [])))
    (first_passes (quiet_log start (f x)) (quiet_logs start (map f these)) quiet)
    (quiet_with f start these one (rest_passes (quiet_log start (f x)) (quiet_logs start (map f these)) quiet) is)

quiet_log_of : (origin : Network) (copies : List LoggedMember) (links : List LoggedBetween) (log : ObjectLog) → quiet_logs (Some origin) (device_logs copies) ≡ true → quiet_logs (Some origin) (link_logs links) ≡ true →
    Contains (logs_of copies links) log → are_quiet log.events ≡ true
quiet_log_of origin copies links log quiet quiet_links stands =
    ⊎_elim
    (λ here. let found = Contains-from_image device_log copies log here in
    subst (λ (l : ObjectLog). are_quiet l.events ≡ true) found.2 (quiet_among (λ (copy : LoggedMember). copy.log) origin copies found.0 quiet found.1))
    (λ there. let found = Contains-from_image link_log links log there in
    subst (λ (l : ObjectLog). are_quiet l.events ≡ true) found.2 (quiet_among (λ (copy : LoggedBetween). copy.log) origin links found.0 quiet_links found.1))
    (Contains-append_cases (map device_log copies) (map link_log links) log stands)

pub still_so : (start : Option Network) (logs : List ObjectLog) (copies : List LoggedMember) (links : List LoggedBetween) → logs ≡ logs_of copies links →
    quiet_logs start (device_logs copies) ≡ true → quiet_logs start (link_logs links) ≡ true → AreStill start logs
still_so None logs copies links are quiet quiet_links = tt
still_so (Some origin) logs copies links are quiet quiet_links =
    let each : (log : ObjectLog) (one : Stamped) → Contains logs log → Contains log.events one → IsQuiet one.event.step × (reset_by one.event.step ≡ []) =
    λ log one stands within. quiet_step one.event.step (quiet_one log.events one (quiet_log_of origin copies links log quiet quiet_links (subst (λ all. Contains all log) are stands)) within) in
    (λ log one stands within. (each log one stands within).0, λ log one stands within device resets. subst (λ all. Contains all device) (each log one stands within).1 resets)

pub still_where_known : (start : Option Network) (origin : Network) (logs : List ObjectLog) → start ≡ Some origin → AreStill start logs → AreQuietLogs logs × AreResetOf logs []
still_where_known start origin logs is still = subst (λ known. AreStill known logs) is still
