-- Round after round: each takes one off the list of all that is behind.
use Rattle.std.proofs.Common.{◌≡◌, ◌⊎◌, ◌∙◌, ◌+◌, ◌≤◌, ℕ, suc, List, [], ◌∷◌, length, Option, Some, None, Result, Ok, Err, Contains, refl, sym, ap, subst, inl, inr, ⊎_elim, arith}
use Rattle.bep_facts.specs.Members.{not_in_none, Contains-first, Contains-more, Contains-cons_cases}
use Rattle.bep_record.specs.declared.entry.Entry.{Entry}
use Rattle.bep_model.specs.Tables.{Tables, Shares}
use Rattle.bep_machine.specs.Cluster.{Cluster}
use Rattle.bep_machine.specs.HalfLaws.{StepHasHalves}
use Rattle.bep_machine.specs.Said.{tables_of_cluster}
use Rattle.bep_machine.specs.Steps.{Event, IsRun}
use Rattle.bep_peer.specs.Member.{Member}
use Rattle.bep_converge.specs.Arrival.{Behind, HasAllBehind}
use Rattle.bep_converge.specs.Bring.{IsReady}
use Rattle.bep_converge.specs.Ended.{IsEnded}
use Rattle.bep_converge.specs.Laws.{PrevailingGoesOn}
use Rattle.bep_converge.specs.Prevails.{Prevails, AllPrevail}
use Rattle.bep_converge.specs.Watched.{IsBehindOwner}
use Rattle.bep_rounds.specs.Finding.{IsFound, IsWanted}
use Rattle.bep_rounds.specs.Rounds.{IfAllMade, IsAllBrought, IsBrought, IsOutside, IsQuietRun, behind_of}
use Rattle.bep_rounds.specs.declared.error.RoundError.{RoundError}
use Rattle.bep_rounds.specs.declared.wanted.Wanted.{Wanted}
use Rattle.bep_rounds.proofs.QuietRuns.{no_step, both_runs}

-- ---- one that is taken off a list

record IsWithout (one : Behind) (behind : List Behind) : Type 0 where
  more : List Behind
  shorter : length behind ≡ suc (length more)
  among : (x : Behind) → Contains more x → Contains behind x
  others : (x : Behind) → Contains behind x → (x ≡ one) ⊎ Contains more x

without : (one : Behind) (behind : List Behind) → Contains behind one → IsWithout one behind
without one [] member = absurd (not_in_none one member)
without one (first ∷ more) member =
    ⊎_elim
    (λ same. record {
      more = more;
      shorter = refl;
      among = λ x there. Contains-more first more x there;
      others = λ x there. ⊎_elim (λ is. inl (sym is ∙ same)) (λ later. inr later) (Contains-cons_cases first more x there);
    })
    (λ later.
    let rest = without one more later in
    record {
      more = first ∷ rest.more;
      shorter = ap suc rest.shorter;
      among = λ x there.
          ⊎_elim
          (λ is. subst (λ (b : Behind). Contains (first ∷ more) b) is (Contains-first first more))
          (λ left. Contains-more first more x (rest.among x left))
          (Contains-cons_cases first rest.more x there);
      others = λ x there.
          ⊎_elim
          (λ is. inr (subst (λ (b : Behind). Contains (first ∷ rest.more) b) is (Contains-first first rest.more)))
          (λ left. ⊎_elim (λ is. inl is) (λ other. inr (Contains-more first rest.more x other)) (rest.others x left))
          (Contains-cons_cases first more x there);
    })
    (Contains-cons_cases first more one member)

-- who is behind is on the list of all who are: it can stand first
record IsFirst (t : Tables) (one : Behind) (behind : List Behind) : Type 0 where
  more : List Behind
  shorter : length behind ≡ suc (length more)
  all : HasAllBehind t (one ∷ more)

stands_first : (c : Cluster) (wanted : Wanted) (top : Entry) (behind : List Behind) → IsBehindOwner c wanted.device wanted.owner wanted.folder wanted.name top → HasAllBehind (tables_of_cluster c) behind →
    IsFirst (tables_of_cluster c) (behind_of wanted top) behind
stands_first c wanted top behind is has =
    let listed = has.all wanted.device wanted.folder wanted.name top is.prevails is.device_shares is.below in
    let rest = without listed.0 behind listed.1 in
    let t = tables_of_cluster c in
    record {
      more = rest.more;
      shorter = rest.shorter;
      all = record {
        each = λ one member.
            ⊎_elim
            (λ same. subst (λ (b : Behind). Shares t b.device b.folder × Prevails t b.folder b.name b.top) same (is.device_shares, is.prevails))
            (λ later. has.each one (rest.among one later))
            (Contains-cons_cases (behind_of wanted top) rest.more one member);
        all = λ device folder name any prevails shares not_at.
            let found = has.all device folder name any prevails shares not_at in
            ⊎_elim
            (λ same. (
              behind_of wanted top,
              Contains-first (behind_of wanted top) rest.more,
              sym listed.2 ∙ ap (λ (b : Behind). b.device) (sym same) ∙ found.2,
              sym listed.3 ∙ ap (λ (b : Behind). b.folder) (sym same) ∙ found.3,
              sym listed.4 ∙ ap (λ (b : Behind). b.name) (sym same) ∙ found.4,
            ))
            (λ later. (found.0, Contains-more (behind_of wanted top) rest.more found.0 later, found.2, found.3, found.4))
            (rest.others found.0 found.1);
      };
    }

-- ---- in the loop

-- the cluster is ready for the rounds that bring all that is behind, which are so many at most
pub record AreWithin (left : ℕ) (now : Cluster) : Type 0 where
  pub behind : List Behind
  pub few : length behind ≤ left
  pub ready : IsReady (length behind) now
  pub all : HasAllBehind (tables_of_cluster now) behind

-- so many rounds of the loop are left of so many
pub record StillBrings (most left : ℕ) (old now : Cluster) : Type 0 where
  pub quiet : IsQuietRun old now
  pub within : (behind : List Behind) → length behind ≤ most → IsReady (length behind) old → HasAllBehind (tables_of_cluster old) behind → AreWithin left now

pub first_brings : (most left : ℕ) (old : Cluster) → most ≤ left → StillBrings most left old old
first_brings most left old all = record {
  quiet = no_step old;
  within = λ behind few ready has. record { behind = behind; few = omega arith; ready = ready; all = has };
}

-- the next round can be made
pub record NextRound (left : ℕ) (now : Cluster) (wanted : Wanted) : Type 0 where
  pub top : Entry
  pub more : List Behind
  pub few : length more + 1 ≤ left
  pub ready : IsReady (length more + 1) now
  pub behind : IsBehindOwner now wanted.device wanted.owner wanted.folder wanted.name top
  pub all : HasAllBehind (tables_of_cluster now) (behind_of wanted top ∷ more)

next_of : (left : ℕ) (now : Cluster) (wanted : Wanted) → IsWanted now wanted → AreWithin left now → NextRound left now wanted
next_of left now wanted is within =
    let behind = is within.ready.prevails in
    let first = stands_first now wanted behind.0 within.behind behind.1 within.all in
    let shorter : length within.behind ≡ length first.more + 1 = let s = first.shorter in omega arith in
    record {
      top = behind.0;
      more = first.more;
      few = let few = within.few in omega arith;
      ready = subst (λ (n : ℕ). IsReady n now) shorter within.ready;
      behind = behind.1;
      all = first.all;
    }

module _ (most left : ℕ) (old now : Cluster) (still : StillBrings most left old now) where
  pub next_round : (wanted : Wanted) → IsWanted now wanted → (behind : List Behind) → length behind ≤ most → IsReady (length behind) old → HasAllBehind (tables_of_cluster old) behind → NextRound left now wanted
  next_round wanted is behind few ready has = next_of left now wanted is (still.within behind few ready has)

  -- and where it was made, one fewer is left
  pub brings_next : (less : ℕ) (new : Cluster) (wanted : Wanted) → left ≡ less + 1 → IsWanted now wanted → IsQuietRun now new →
      ((turns : ℕ) (top : Entry) → IsReady (turns + 1) now → IsBehindOwner now wanted.device wanted.owner wanted.folder wanted.name top → IsBrought turns now new wanted top) →
      StillBrings most less old new
  brings_next less new wanted same is quiet brings = record {
    quiet = both_runs old now new still.quiet quiet;
    within = λ behind few ready has.
        let next = next_round wanted is behind few ready has in
        let brought = brings (length next.more) next.top next.ready next.behind in
        record {
          behind = next.more;
          few = let room = next.few in omega arith;
          ready = brought.kept.ready;
          all = brought.fewer next.more next.all;
        };
  }

-- ---- at the end

-- who shares what stays the same
same_config : StepHasHalves → (old new : Cluster) (events : List Event) → IsRun old events new → new.config ≡ old.config
same_config halves old new [] run = ap (λ (c : Cluster). c.config) run
same_config halves old new (event ∷ more) run =
    same_config halves run.0 new more run.2
    ∙ ⊎_elim (λ undone. ap (λ (c : Cluster). c.config) undone.1) (λ made. made.2.config) (halves event old run.0 run.1)

pub all_brought : PrevailingGoesOn → StepHasHalves → (old new : Cluster) (turns : ℕ) → IsReady turns old → IsQuietRun old new → IsEnded (tables_of_cluster new) → IsAllBrought old new
all_brought goes_on halves old new turns ready quiet ended = record {
  ended = ended;
  goes = goes_on (tables_of_cluster old) ready.prevails old new quiet.events ready.sound ready.hashes refl quiet.run quiet.quiet quiet.unreset;
  config = same_config halves old new quiet.events quiet.run;
}

module _ (goes_on : PrevailingGoesOn) (halves : StepHasHalves) (most left : ℕ) (old now : Cluster) (still : StillBrings most left old now) where
  -- where none is found to be behind, all was brought
  pub none_is_left : IsFound now None (AllPrevail (tables_of_cluster now) → IsEnded (tables_of_cluster now)) →
      (behind : List Behind) → length behind ≤ most → IsReady (length behind) old → HasAllBehind (tables_of_cluster old) behind → IsAllBrought old now
  none_is_left found behind few ready has =
      all_brought goes_on halves old now (length behind) ready still.quiet (found (still.within behind few ready has).ready.prevails)

  -- and none is, once no round of the loop is left
  pub last_found : left ≡ 0 → (members : List Member) (found : Option Wanted) → IsFound now found (AllPrevail (tables_of_cluster now) → IsEnded (tables_of_cluster now)) →
      (behind : List Behind) → length behind ≤ most → IsReady (length behind) old → HasAllBehind (tables_of_cluster old) behind → IfAllMade members (Ok found) (IsAllBrought old now)
  last_found none members None found behind few ready has = none_is_left found behind few ready has
  last_found none members (Some wanted) is behind few ready has = absurd (let next = next_round most left old now still wanted is behind few ready has in let room = next.few in omega arith)

-- an error from outside is all that was made
pub at_error : (so : Type 0) (members : List Member) (result : Result (Option Wanted) RoundError) (error : RoundError) → result ≡ Err error → IsOutside members error → IfAllMade members result so
at_error so members result error is outside = subst (λ (r : Result (Option Wanted) RoundError). IfAllMade members r so) (sym is) outside
