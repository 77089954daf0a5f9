-- What holds of every session, and what a request makes of it (this project's profile).
use Rattle.std.specs.Prelude.{◌≡◌, ◌<◌, ◌≤◌, ◌+◌, ◌++◌, ◌∷◌, ℕ, Bool, false, List, [], length, refl}
use Rattle.std.specs.Coded.{Coded, code_by, coded×, coded_ℕ, coded_bool, coded_list}
use Rattle.std.specs.FinMap.{empty, code}
use Rattle.bep_map.specs.NameMap.{ByName}
use Rattle.bep_index.specs.declared.send.Plan.{Plan}
use Rattle.bep_machine.specs.declared.limits.TheConstants.{MAX_OUTSTANDING, MAX_REQUEST_ID}
use Rattle.bep_machine.specs.declared.message.Request.{Request}
use Rattle.bep_machine.specs.Peer.{Session}

-- a session is stored as its parts, by the codes of a plan and of a request
abbrev pub session_code : Coded Plan → Coded Request → Coded Session
session_code plan request =
    code_by (ℕ × (Bool × (ByName Plan × (List Request × ℕ))))
    (coded× coded_ℕ (coded× coded_bool (coded× (code (coded_list coded_ℕ) plan) (coded× (coded_list request) coded_ℕ))))
    (λ s. (s.epoch, (s.configured, (s.cursors, (s.outstanding, s.next)))))
    (λ p. record { epoch = p.0; configured = p.1.0; cursors = p.1.1.0; outstanding = p.1.1.1.0; next = p.1.1.1.1 }) (λ _. refl)

-- at most 64 requests are outstanding, numbers go to 2147483647, and no folder is named before the ClusterConfig came
pub record IsSession (session : Session) : Type 0 where
  pub few : length session.outstanding ≤ MAX_OUTSTANDING
  pub numbered : session.next ≤ MAX_REQUEST_ID + 1
  pub unnamed : session.configured ≡ false → session.cursors ≡ empty

-- the request can be the next one
pub record IsNext (session : Session) (request : Request) : Type 0 where
  pub few : length session.outstanding < MAX_OUTSTANDING
  pub left : session.next ≤ MAX_REQUEST_ID
  pub number : request.id ≡ session.next

-- it is outstanding from now on
abbrev pub with_request : Session → Request → Session
with_request session request =
    record session { outstanding = session.outstanding ++ request ∷ []; next = session.next + 1 }
