-- Each step keeps the rule.
use Rattle.std.proofs.Common.{◌≡◌, ◌≢◌, ◌<◌, ℕ, zero, suc, ◌+◌, Bool, true, false, if◌then◌else◌, eqb, List, [], ◌∷◌, ◌++◌, set, Contains, refl, sym, ap, ◌∙◌, subst, ⊎_elim, eq-eqb, ne_eqb, arith}
use Rattle.std.specs.Prelude.{slice_index, MatchBool}
use Rattle.std.proofs.lemmas.Bool.{eqb-true}
use Rattle.std.proofs.lemmas.List.Elements.{Contains-append_left, Contains-push_cases}
use mathlib.Core.Option.{none, some, some-ne-none, some-injective}
use lib.ListN.{get_elem?}
use prog.Atomic.{either}
use Rattle.atomic_table.specs.Table as table
use Rattle.atomic_table.specs.Table.{State, Me, Act, Valid, step, keeps, stepped, opening, Allows, Splits, Joins}
use Rattle.atomic_table.proofs.Lists.{exchanged}
use Rattle.bep_facts.specs.Members.{Contains-from_image, Contains-one, not_in_none}
use Rattle.bep_fit.specs.declared.object.Object.{Object}
use Rattle.bep_fit.specs.declared.stamped.Stamped.{Stamped}
use Rattle.bep_fit.specs.Logs.{named}
use Rattle.bep_history.specs.declared.view.Row.{Row}
use Rattle.bep_history.specs.declared.view.View.{View}
use Rattle.bep_history.specs.Parts.{is_about, part_of}
use Rattle.bep_history.specs.inner.Rule.{Adds, Draws, GivesUp, IsKept, Knows, Learns}
use Rattle.bep_history.specs.View.{AreDistinct, IsAbove, IsTold, MayAdd, beginning, nothing, row, row_with, with_event, with_ticket, without_ticket}
use Rattle.bep_history.proofs.Filtered.{filter-push, filter-push_other, kept-passes}
use Rattle.bep_history.proofs.Apart.{apart_beginning, apart_with}
use Rattle.bep_history.proofs.EachSeat.{each_push, each_set}

abbrev St : Type 0
St = State Stamped View

abbrev Seat : Type 0
Seat = Me Stamped View

module _ (objects : List Object) where
  abbrev Rule : St → Type 0
  Rule = IsKept objects

  pub knows_nothing : (history : List Stamped) (next : ℕ) (owner : Object → ℕ) (drawer : ℕ → ℕ) (seat : ℕ) → Knows objects history next owner drawer seat nothing
  knows_nothing history next owner drawer seat = record {
    rows = λ one stands. absurd (not_in_none one stands);
    drawn = λ ticket stands. absurd (not_in_none ticket stands);
    claims = λ event stands. absurd (not_in_none event stands);
    apart = tt;
  }

  -- ---- how it begins

  pub begins : AreDistinct objects → Rule (opening (1 ∷ []) [] (beginning objects))
  begins distinct = record {
    history = [];
    next = 1;
    owner = λ _. 0;
    drawer = λ _. 0;
    word = refl;
    begun = omega arith;
    is_history = record { one_ticket = λ one other stands. absurd (not_in_none one stands); there = λ one object stands. absurd (not_in_none one stands) };
    below = λ event stands. absurd (not_in_none event stands);
    knows = first;
  }
    where
      knows_all : Knows objects [] 1 (λ _. 0) (λ _. 0) 0 (beginning objects)
      knows_all = record {
        rows = λ one stands. let found = Contains-from_image (λ object. row object []) objects one stands in
            (refl, sym (ap (λ (z : Row). z.events) found.2), subst (λ (z : Row). Contains objects z.object) found.2 found.1);
        drawn = λ ticket stands. absurd (not_in_none ticket stands);
        claims = λ event stands. absurd (not_in_none event stands);
        apart = apart_beginning objects distinct;
      }

      first : (seat : ℕ) (old : View) → get_elem? (beginning objects ∷ []) seat ≡ some old → Knows objects [] 1 (λ _. 0) (λ _. 0) seat old
      first zero old at = subst (Knows objects [] 1 (λ _. 0) (λ _. 0) 0) (some-injective _ _ at) knows_all
      first (suc seat) old at = absurd (some-ne-none old (sym at))

  -- ---- steps that change no word

  -- the seat knows the same history, and has another view
  same_history : (s : St) (kept : Rule s) (words : List ℕ) (seat : ℕ) (new : View) → words ≡ s.words → Knows objects kept.history kept.next kept.owner kept.drawer seat new
      → Rule record { words = words; homes = s.homes; views = set s.views seat new }
  same_history s kept words seat new same mine = record {
    history = kept.history;
    next = kept.next;
    owner = kept.owner;
    drawer = kept.drawer;
    word = same ∙ kept.word;
    begun = kept.begun;
    is_history = kept.is_history;
    below = kept.below;
    knows = each_set (Knows objects kept.history kept.next kept.owner kept.drawer) s.views seat new (λ j v _ at. kept.knows j v at) mine;
  }

  unread : (s : St) → Rule s → set s.words 0 (slice_index s.words 0) ≡ s.words
  unread s kept = subst (λ (ws : List ℕ). set ws 0 (slice_index ws 0) ≡ ws) (sym kept.word) refl

  pub gives_up : (slots id : ℕ) (me : Seat) → Allows Rule slots id me 0 (λ n. n) (GivesUp (step slots 0 0 0 none) me)
  gives_up slots id me s kept homes at fits =
      let mine = kept.knows id me.0 at in
      (without_ticket me.0, keeps, tt, same_history s kept _ id (without_ticket me.0) (unread s kept) (record { rows = mine.rows; drawn = λ ticket stands. absurd (not_in_none ticket stands); claims = mine.claims; apart = mine.apart }), refl)

  pub learns : (slots id : ℕ) (me : Seat) → Allows Rule slots id me 0 (λ n. n) (Learns objects (step slots 0 0 0 none) me)
  learns slots id me s kept homes at fits =
      let mine = kept.knows id me.0 at in
      let told : IsTold objects me.0 = record { history = kept.history; is_history = kept.is_history; parts = λ one stands. (mine.rows one stands).1; claims = mine.claims } in
      (me.0, keeps, tt, same_history s kept _ id me.0 (unread s kept) mine, (told, refl))

  -- the same, where the objects have another name
  pub learns_of : (slots id : ℕ) (me : Seat) (names : List Object) → names ≡ objects → Allows Rule slots id me 0 (λ n. n) (Learns names (step slots 0 0 0 none) me)
  learns_of slots id me names same = subst (λ (os : List Object). Allows Rule slots id me 0 (λ n. n) (Learns os (step slots 0 0 0 none) me)) (sym same) (learns slots id me)

  pub enters : (slots : ℕ) → table.Enters Rule slots 0 (λ _ w. w ≡ nothing)
  enters slots s kept homes fits = (
    nothing,
    record {
      history = kept.history;
      next = kept.next;
      owner = kept.owner;
      drawer = kept.drawer;
      word = kept.word;
      begun = kept.begun;
      is_history = kept.is_history;
      below = kept.below;
      knows = each_push (Knows objects kept.history kept.next kept.owner kept.drawer) s.views nothing kept.knows (knows_nothing _ _ _ _ _);
    },
    refl,
  )

  -- ---- a ticket is drawn

  pub draws : (slots id old : ℕ) (me : Seat) → Allows Rule slots id me 0 (λ n. either (eqb n old) (old + 1) n) (Draws (step slots 0 old (old + 1) none) me)
  draws slots id old me s kept homes at fits = cases (eqb (slice_index s.words 0) old) refl
    where
      found : ℕ
      found = slice_index s.words 0

      next_is : found ≡ kept.next
      next_is = ap (λ (ws : List ℕ). slice_index ws 0) kept.word

      cases : (b : Bool) → eqb found old ≡ b
          → (w : View) × (a : Act Stamped) × Valid s.homes me.1 a × Rule (stepped s 0 (either b (old + 1) found) id me.1 w a)
          × MatchBool b ((◌≡◌ {A = Seat} (w, table.carried_after me.1 a) (with_ticket found me.0, me.1)) × (0 < found) × IsAbove found me.0) (◌≡◌ {A = Seat} (w, table.carried_after me.1 a) me)
      cases false is = (me.0, keeps, tt, same_history s kept _ id me.0 (unread s kept) (kept.knows id me.0 at), refl)
      cases true is =
          let mine = kept.knows id me.0 at in
          let here : found ≡ old = eqb-true found old is in
          let is_next : kept.next ≡ found = sym next_is in
          let drawer : ℕ → ℕ = λ ticket. either (eqb ticket found) id (kept.drawer ticket) in
          let as_before : (ticket : ℕ) → ticket < kept.next → drawer ticket ≡ kept.drawer ticket =
          λ ticket low. ap (λ b. either b id (kept.drawer ticket)) (ne_eqb ticket found (λ e. omega (arith, e, low, is_next))) in (
            with_ticket found me.0,
            keeps,
            tt,
            record {
              history = kept.history;
              next = old + 1;
              owner = kept.owner;
              drawer = drawer;
              word = ap (λ (ws : List ℕ). set ws 0 (old + 1)) kept.word;
              begun = omega arith;
              is_history = kept.is_history;
              below = λ event stands. let low = kept.below event stands in omega (arith, low, here, is_next);
              knows =
                  each_set (Knows objects kept.history (old + 1) kept.owner drawer) s.views id (with_ticket found me.0)
                  (λ j v other there.
                  let theirs = kept.knows j v there in
                  record {
                    rows = theirs.rows;
                    drawn = λ ticket stands. let has = theirs.drawn ticket stands in (as_before ticket has.1 ∙ has.0, (let low : ticket < kept.next = has.1 in omega (arith, low, here, is_next)), has.2);
                    claims = theirs.claims;
                    apart = theirs.apart;
                  })
                  (record {
                    rows = mine.rows;
                    drawn = λ ticket stands. let same : found ≡ ticket = Contains-one found ticket stands in (
                      ap (λ b. either b id (kept.drawer ticket)) (eq-eqb ticket found (sym same)),
                      omega (arith, same, here),
                      λ event there is_its. let low = kept.below event there in omega (arith, low, is_its, same, is_next),
                    );
                    claims = mine.claims;
                    apart = mine.apart;
                  });
            },
            (
              refl,
              (let low = kept.begun in omega (arith, low, is_next)),
              λ one event has stands.
                  let low = kept.below event (kept-passes (is_about one.object) kept.history event (subst (λ es. Contains es event) (mine.rows one has).1 stands)).0 in
                  omega (arith, low, is_next),
            ),
          )

  -- what is told where the expected ticket was found
  pub drawn_above : (next found : ℕ) (old new : Seat) → found ≡ next
      → MatchBool (eqb found next) ((new ≡ (with_ticket found old.0, old.1)) × (0 < found) × IsAbove found old.0) (new ≡ old) → (0 < found) × IsAbove found old.0
  drawn_above next found old new same drew =
      let told = subst (λ b. MatchBool b ((new ≡ (with_ticket found old.0, old.1)) × (0 < found) × IsAbove found old.0) (new ≡ old)) (eq-eqb found next same) drew in
      (told.1, told.2)

  -- ---- an event is added

  never_zero : (n : ℕ) → either (eqb n 0) 0 n ≡ n
  never_zero n = exchanged n 0 0 (λ z. z ≡ n) (λ e. sym e) (λ _. refl)

  pub adds : (slots id : ℕ) (me : Seat) (event : Stamped) → MayAdd objects me.0 event → Allows Rule slots id me 0 (λ n. either (eqb n 0) 0 n) (Adds (step slots 0 0 0 (some event)) me)
  adds slots id me event may s kept homes at fits = (
    with_event event me.0,
    keeps,
    tt,
    record {
      history = history;
      next = kept.next;
      owner = kept.owner;
      drawer = kept.drawer;
      word = ap (set s.words 0) (never_zero (slice_index s.words 0)) ∙ (unread s kept ∙ kept.word);
      begun = kept.begun;
      is_history = record { one_ticket = one_ticket; there = there };
      below = below;
      knows = each_set (Knows objects history kept.next kept.owner kept.drawer) s.views id (with_event event me.0) others own;
    },
    λ other said. ap (λ (z : Stamped). (with_event z me.0, me.1)) (some-injective _ _ said),
  )
    where
      history : List Stamped
      history = kept.history ++ event ∷ []

      mine : Knows objects kept.history kept.next kept.owner kept.drawer id me.0
      mine = kept.knows id me.0 at

      drawn : (kept.drawer event.ticket ≡ id) × (event.ticket < kept.next) × ((one : Stamped) → Contains kept.history one → one.ticket ≢ event.ticket)
      drawn = mine.drawn event.ticket may.drawn

      one_ticket : (one other : Stamped) → Contains history one → Contains history other → one.ticket ≡ other.ticket → one ≡ other
      one_ticket one other stands stands' same =
          ⊎_elim
          (λ old. ⊎_elim
          (λ old'. kept.is_history.one_ticket one other old old' same)
          (λ (new' : event ≡ other). absurd (drawn.2 one old (same ∙ ap (λ (z : Stamped). z.ticket) (sym new'))))
          (Contains-push_cases kept.history event other stands'))
          (λ (new : event ≡ one). ⊎_elim
          (λ old'. absurd (drawn.2 other old' (sym same ∙ ap (λ (z : Stamped). z.ticket) (sym new))))
          (λ (new' : event ≡ other). sym new ∙ new')
          (Contains-push_cases kept.history event other stands'))
          (Contains-push_cases kept.history event one stands)

      there : (one : Stamped) (object : Object) → Contains history one → Contains (named one) object → Contains objects object
      there one object stands names =
          ⊎_elim
          (λ old. kept.is_history.there one object old names)
          (λ (new : event ≡ one).
          let has = may.there object (subst (λ (z : Stamped). Contains (named z) object) (sym new) names) in
          subst (Contains objects) has.2 (mine.rows has.0 has.1).2)
          (Contains-push_cases kept.history event one stands)

      below : (one : Stamped) → Contains history one → one.ticket < kept.next
      below one stands =
          ⊎_elim
          (λ old. kept.below one old)
          (λ (new : event ≡ one). subst (λ (z : Stamped). z.ticket < kept.next) new drawn.1)
          (Contains-push_cases kept.history event one stands)

      -- an object of another seat isn't touched
      untouched : (j : ℕ) (one : Row) → j ≢ id → kept.owner one.object ≡ j → Contains objects one.object → is_about one.object event ≡ false
      untouched j one other is listed = cases (is_about one.object event) refl
        where
          cases : (b : Bool) → is_about one.object event ≡ b → b ≡ false
          cases false touches = refl
          cases true touches =
              let has = may.owned one.object listed touches in
              absurd (other (sym is ∙ (ap kept.owner (sym has.2) ∙ (mine.rows has.0 has.1).0)))

      others : (j : ℕ) (v : View) → j ≢ id → get_elem? s.views j ≡ some v → Knows objects history kept.next kept.owner kept.drawer j v
      others j v other has =
          let theirs = kept.knows j v has in
          record {
            rows = λ one stands. let is = theirs.rows one stands in
                (is.0, is.1 ∙ sym (filter-push_other (is_about one.object) kept.history event (untouched j one other is.0 is.2)), is.2);
            drawn = λ ticket stands. let is = theirs.drawn ticket stands in (
              is.0,
              is.1,
              λ one in_history its.
                  ⊎_elim
                  (λ old. is.2 one old its)
                  (λ (new : event ≡ one). other (sym is.0 ∙ (ap kept.drawer (sym its ∙ ap (λ (z : Stamped). z.ticket) (sym new)) ∙ drawn.0)))
                  (Contains-push_cases kept.history event one in_history),
            );
            claims = λ one stands. Contains-append_left kept.history (event ∷ []) one (theirs.claims one stands);
            apart = theirs.apart;
          }

      own : Knows objects history kept.next kept.owner kept.drawer id (with_event event me.0)
      own = record {
        rows = λ one stands.
            let found = Contains-from_image (row_with event) me.0.rows one stands in
            let is = mine.rows found.0 found.1 in
            let object = found.0.object in
            subst (λ (z : Row). (kept.owner z.object ≡ id) × (z.events ≡ part_of z.object history) × Contains objects z.object) found.2
            (is.0, ap (λ es. if is_about object event then es ++ event ∷ [] else es) is.1 ∙ sym (filter-push (is_about object) kept.history event), is.2);
        drawn = λ ticket stands. absurd (not_in_none ticket stands);
        claims = λ one stands. Contains-append_left kept.history (event ∷ []) one (mine.claims one stands);
        apart = apart_with event me.0.rows mine.apart;
      }
