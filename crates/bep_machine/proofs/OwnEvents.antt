-- An object replays a log where it replays its own events in it.
use Rattle.std.proofs.Common.{◌≡◌, Bool, true, false, if◌then◌else◌, List, [], ◌∷◌, refl, subst}
use Rattle.std.specs.List.{filter}
use Rattle.bep_machine.specs.declared.logged.Logged.{Logged}
use Rattle.bep_machine.specs.Halves.{guards_of, touches_device, touches_link, SaysNoMore, PeerHalf, LinkHalf, OnlyIf, Replays}
use Rattle.bep_machine.specs.HalfLaws.{DevicesReplayTheirOwn, LinksReplayTheirOwn}
use Rattle.bep_machine.proofs.HalfSteps.{untouched}

module _ {S : Type 0} (touches : Logged → Bool) (Half : Logged → S → S → Type 0) where
  -- what an event makes of the object
  abbrev OneStep : Logged → S → S → Type 0
  OneStep event old new = OnlyIf (touches event) (Half event old new) old new

  stays_untouched : (half : Type 0) (old : S) (b : Bool) → b ≡ false → OnlyIf b half old old
  stays_untouched half old true is = absurd (cc)
  stays_untouched half old false is = refl

  pub to_own : (old new : S) (logged : List Logged) → Replays OneStep old logged new → Replays OneStep old (filter touches logged) new
  to_own old new [] replayed = replayed
  to_own old new (event ∷ more) (next, step, rest) = cases (touches event) refl (to_own next new more rest)
    where
      cases : (b : Bool) → touches event ≡ b → Replays OneStep next (filter touches more) new → Replays OneStep old (if b then event ∷ filter touches more else filter touches more) new
      cases true is later = (next, step, later)
      cases false is later =
          subst (λ s. Replays OneStep s (filter touches more) new) (untouched (Half event old next) (touches event) is step) later

  pub from_own : (old new : S) (logged : List Logged) → Replays OneStep old (filter touches logged) new → Replays OneStep old logged new
  from_own old new [] replayed = replayed
  from_own old new (event ∷ more) replayed = cases (touches event) refl (λ next. from_own next new more) replayed
    where
      cases : (b : Bool) → touches event ≡ b → ((next : S) → Replays OneStep next (filter touches more) new → Replays OneStep next more new) → Replays OneStep old (if b then event ∷ filter touches more else filter touches more) new → Replays OneStep old (event ∷ more) new
      cases true is later (next, step, rest) = (next, step, later next rest)
      cases false is later left = (old, stays_untouched (Half event old old) old (touches event) is, later old left)

pub devices_replay_their_own_lem : DevicesReplayTheirOwn
devices_replay_their_own_lem device old new logged = (
  to_own (λ event. touches_device (guards_of event.step) device) (λ event old new. SaysNoMore event.step event.failed event.kept event.traffic × PeerHalf event.step event.failed event.kept event.traffic old new) old new logged,
  from_own (λ event. touches_device (guards_of event.step) device) (λ event old new. SaysNoMore event.step event.failed event.kept event.traffic × PeerHalf event.step event.failed event.kept event.traffic old new) old new logged,
)

pub links_replay_their_own_lem : LinksReplayTheirOwn
links_replay_their_own_lem lower upper old new logged = (
  to_own (λ event. touches_link (guards_of event.step) lower upper) (λ event old new. SaysNoMore event.step event.failed event.kept event.traffic × LinkHalf event.step event.traffic old new) old new logged,
  from_own (λ event. touches_link (guards_of event.step) lower upper) (λ event old new. SaysNoMore event.step event.failed event.kept event.traffic × LinkHalf event.step event.traffic old new) old new logged,
)
