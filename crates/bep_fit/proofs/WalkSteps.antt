-- A walk begins, goes on past an event that agrees, and ends where the logs fit.
use Rattle.std.proofs.Common.{◌≡◌, ◌<◌, Bool, true, false, cond, List, [], ◌∷◌, ◌++◌, map, Contains, refl, sym, ap, subst, ◌∙◌, ⊎_elim}
use Rattle.std.proofs.lemmas.Bool.{eq-eqb, ne_eqb}
use Rattle.std.proofs.lemmas.List.{append-nil, append_assoc}
use Rattle.std.proofs.lemmas.List.Elements.{Contains-append_cases, filter-append}
use Rattle.std.specs.List.{filter}
use Rattle.bep_facts.specs.Members.{Contains-from_image, Contains-one, not_in_none}
use Rattle.bep_fit.specs.declared.stamped.Stamped.{Stamped}
use Rattle.bep_fit.specs.Logs.{HasLog, ObjectLog, named, touches}
use Rattle.bep_fit.specs.Merge.{IsLogged}
use Rattle.bep_fit.specs.Walk.{AgreesNext, AllRise, ComesNext, IsNext, IsWalked, Left, WalkBegins, WalkEnds, WalkGoesOn, after, past, start}
use Rattle.bep_fit.proofs.Faultless.{entries_of, ticket_of}
use Rattle.bep_fit.proofs.OneList.{list_fits}
use Rattle.bep_fit.proofs.WalkFacts.{done_below, in_past, left_rises, log_there, next_stands, of_walk, past_above, rises-push}

abbrev log_of : Left → ObjectLog
log_of one = one.log

-- ---- it begins

abbrev whole : ObjectLog → Left
whole log = record { log = log; events = log.events }

start_logs : (logs : List ObjectLog) → map log_of (start logs) ≡ logs
start_logs [] = refl
start_logs (log ∷ more) = ap (λ ls. log ∷ ls) (start_logs more)

pub walk_begins : WalkBegins
walk_begins logs = record {
  logs_of = start_logs logs;
  parts = λ one there. let found = Contains-from_image whole logs one there in subst (λ (l : Left). l.log.events ≡ l.events) found.2 refl;
  below = λ one early late there is left. absurd (not_in_none early is);
  rises = tt;
  logged = λ one is. absurd (not_in_none one is);
  there = λ one object is names. absurd (not_in_none one is);
}

-- ---- it goes on

module _ (done : List Stamped) (event : Stamped) (log : ObjectLog) where
  abbrev passes : Stamped → Bool
  passes one = touches one log

  -- the part of one event more
  part_with : (b : Bool) → touches event log ≡ b → filter passes (done ++ event ∷ []) ≡ filter passes done ++ cond b (event ∷ []) []
  part_with b is = filter-append passes done (event ∷ []) ∙ ap (λ c. filter passes done ++ cond c (event ∷ []) []) is

  moved_part : (left : List Stamped) (b : Bool) → touches event log ≡ b → ComesNext event b left → filter passes (done ++ event ∷ []) ++ past event.ticket left ≡ filter passes done ++ left
  moved_part [] true is comes = absurd comes
  moved_part (next ∷ more) true is comes =
      ap (λ zs. zs ++ past event.ticket (next ∷ more)) (part_with true is) ∙
      ap (λ b. (filter passes done ++ event ∷ []) ++ cond b more (next ∷ more)) (eq-eqb next.ticket event.ticket (ap ticket_of comes)) ∙
      append_assoc (filter passes done) (event ∷ []) more ∙
      ap (λ z. filter passes done ++ z ∷ more) (sym comes)
  moved_part [] false is comes = ap (λ zs. zs ++ []) (part_with false is ∙ append-nil (filter passes done))
  moved_part (next ∷ more) false is comes =
      ap (λ zs. zs ++ past event.ticket (next ∷ more)) (part_with false is ∙ append-nil (filter passes done)) ∙
      ap (λ b. filter passes done ++ cond b more (next ∷ more)) (ne_eqb next.ticket event.ticket comes)

module _ (logs : List ObjectLog) (walk : List Left) (done : List Stamped) (event : Stamped) (rise : AllRise logs) (walked : IsWalked logs walk done) (next : IsNext walk event) (agrees : AgreesNext logs walk event) where
  abbrev moved : Left → Left
  moved one = record { log = one.log; events = past event.ticket one.events }

  after_logs : (ws : List Left) → map log_of (map moved ws) ≡ map log_of ws
  after_logs [] = refl
  after_logs (one ∷ more) = ap (λ ls. one.log ∷ ls) (after_logs more)

  -- what is done, or the event
  one_more : (P : Stamped → Type 0) → ((one : Stamped) → Contains done one → P one) → P event → (one : Stamped) → Contains (done ++ event ∷ []) one → P one
  one_more P old new one stands =
      ⊎_elim (λ is. old one is) (λ last. subst P (Contains-one event one last) new) (Contains-append_cases done (event ∷ []) one stands)

  abbrev IsBelow : Left → Type 0
  IsBelow one = (early late : Stamped) → Contains (done ++ event ∷ []) early → Contains one.events late → early.ticket < late.ticket

  moved_below : (one : Left) → Contains walk one → IsBelow (moved one)
  moved_below one there early late is left =
      one_more (λ (e : Stamped). e.ticket < late.ticket)
      (λ e old. walked.below one e late there old (in_past event.ticket one.events late left))
      (past_above event.ticket one.events (left_rises logs walk done walked rise one there) (λ first more are. next.least one first more there are) late left)
      early is

  pub goes_on : IsWalked logs (after event.ticket walk) (done ++ event ∷ [])
  goes_on = record {
    logs_of = after_logs walk ∙ walked.logs_of;
    parts = λ one there.
        let found = Contains-from_image moved walk one there in
        subst (λ (l : Left). l.log.events ≡ filter (λ (e : Stamped). touches e l.log) (done ++ event ∷ []) ++ l.events) found.2
        (walked.parts found.0 found.1 ∙ sym (moved_part done event found.0.log found.0.events (touches event found.0.log) refl (agrees.next found.0 found.1)));
    below = λ one early late there is left.
        let found = Contains-from_image moved walk one there in
        subst IsBelow found.2 (moved_below found.0 found.1) early late is left;
    rises = rises-push ticket_of done event walked.rises (done_below logs walk done walked rise event next);
    logged = one_more (λ e. IsLogged entries_of logs e) walked.logged (next.some.0.log, log_there logs walk done walked next.some.0 next.some.2, next_stands logs walk done walked rise event next);
    there = λ one object is. one_more (λ e. Contains (named e) object → HasLog logs object) (λ e old. walked.there e object old) (agrees.there object) one is;
  }

pub walk_goes_on : WalkGoesOn
walk_goes_on logs walk done event rise walked next agrees = goes_on logs walk done event rise walked next agrees

-- ---- it ends

pub walk_ends : WalkEnds
walk_ends logs walk done rounds walked empty = list_fits logs done rounds (record {
  rises = walked.rises;
  parts = λ log there.
      let at = of_walk logs walk done walked log there in
      let part = filter (λ (e : Stamped). touches e at.0.log) done in
      subst (λ (l : ObjectLog). l.events ≡ filter (λ (e : Stamped). touches e l) done) at.2
      (walked.parts at.0 at.1 ∙ ap (λ es. part ++ es) (empty at.0 at.1) ∙ append-nil part);
  logged = walked.logged;
  there = walked.there;
})
