-- What each move of a sender or a receiver does to one folder between them: they stay in step.
use Rattle.std.proofs.Common.{◌≡◌, ◌≢◌, ◌⊎◌, ◌≤◌, ◌==◌, ◌&&◌, nat_le, ℕ, Bool, true, false, if◌then◌else◌, List, [], ◌∷◌, ◌++◌, Option, Some, None, refl, sym, ap, subst, ◌∙◌, inl, inr, ⊎_elim, arith}
use Rattle.std.proofs.lemmas.Bool.{cases_Bool}
use Rattle.std.proofs.lemmas.Bool.Decides.{nat_tests}
use Rattle.std.specs.Ordering.{nat_cmp}
use Rattle.std.specs.Cmp.Lexicographic.{slice_cmp}
use Rattle.std.proofs.lemmas.Option.{same_Some}
use Rattle.bep_facts.specs.Maps.{nothing_in_empty}
use Rattle.bep_record.specs.declared.entry.Entry.{Entry}
use Rattle.bep_index.specs.declared.send.Plan.{Plan}
use Rattle.bep_index.specs.declared.send.Plan.TheVariants.{Full, Above}
use Rattle.bep_index.specs.Listing.{Listing}
use Rattle.bep_index.specs.Index.{IsIndex, after_put}
use Rattle.bep_index.specs.Batch.{last_sequence}
use Rattle.bep_index.specs.View.{cleared, replaced, amended}
use Rattle.bep_index.specs.Laws.{FoundIsOfBatchOrBefore, BatchIsFound, OthersAreKept}
use Rattle.bep_model.specs.Tables.{Folder}
use Rattle.bep_machine.specs.declared.message.Message.{Message}
use Rattle.bep_machine.specs.declared.message.Message.TheVariants as messages
use Rattle.bep_machine.specs.declared.message.Announced.{Announced}
use Rattle.bep_machine.specs.Exchange.{cursor_after}
use Rattle.bep_machine.specs.Gapless.{HasNoGap}
use Rattle.bep_machine.proofs.GapFacts.{IsSent, keeps_up_after_put, keeps_up_when_amended, keeps_up_when_replaced}
use Rattle.bep_machine.proofs.GapFlow.{Part, Whole, Further, Other, part_of, AfterPart, Flows, flows_with_other, flows_with_further, flows_with_whole, none_with_other, none_flows_through, flows_after_put, EachSays, ConfigSays, ConfigsSay, SaysId, SaysPoint, configs_say_with, start_of, IsFlow, IsInStep}

-- ---- where a view stands

same_id : (index view : Listing) → view.id ≡ index.id → start_of index view ≡ Some view.sequence
same_id index view same = by_test (view.id == index.id) refl
  where
    by_test : (b : Bool) → (view.id == index.id) ≡ b → (if b then Some view.sequence else None) ≡ Some view.sequence
    by_test true e = refl
    by_test false e = absurd (grind (arith, nat_tests))

other_id : (index view : Listing) → view.id ≢ index.id → start_of index view ≡ None
other_id index view apart = by_test (view.id == index.id) refl
  where
    by_test : (b : Bool) → (view.id == index.id) ≡ b → (if b then Some view.sequence else None) ≡ None
    by_test true e = absurd (apart (grind (arith, nat_tests)))
    by_test false e = refl

pub same_id_or_not : (index view : Listing) → (view.id ≡ index.id) ⊎ (view.id ≢ index.id)
same_id_or_not index view =
    ⊎_elim (λ same. inl (grind (arith, nat_tests))) (λ apart. inr (λ same. grind (arith, nat_tests))) (cases_Bool (view.id == index.id))

-- ---- the sender

-- it puts a record
pub in_step_after_put : (folder : Folder) (index view : Listing) (cursor : Option Plan) (Named : Type 0) (queue back : List Message) (put : Entry) → IsIndex index → IsInStep folder index view cursor Named queue back → IsInStep folder (after_put index put) view cursor Named queue back
in_step_after_put folder index view cursor Named queue back put is_index step = record {
  earlier = step.earlier;
  keeps_up = λ same. keeps_up_after_put index view put is_index (step.keeps_up same);
  flow = flow cursor step.flow;
  ids = step.ids;
  points = step.points;
  named = step.named;
}
  where
    flow : (cursor : Option Plan) → IsFlow folder index (start_of index view) queue cursor → IsFlow folder (after_put index put) (start_of index view) queue cursor
    flow None flows = flows
    flow (Some Full) flows = flows
    flow (Some (Above end)) flows = (flows_after_put folder index put is_index (start_of index view) queue end flows.0, omega (arith, flows.1))

-- it sends what isn't of the folder's index
pub in_step_sending_other : (folder : Folder) (index view : Listing) (cursor : Option Plan) (Named : Type 0) (queue back : List Message) (message : Message) → part_of folder message ≡ Other → ConfigSays folder (SaysId index) message → IsInStep folder index view cursor Named queue back → IsInStep folder index view cursor Named (queue ++ message ∷ []) back
in_step_sending_other folder index view cursor Named queue back message other says step = record {
  earlier = step.earlier;
  keeps_up = step.keeps_up;
  flow = flow cursor step.flow;
  ids = configs_say_with folder (SaysId index) queue message says step.ids;
  points = step.points;
  named = step.named;
}
  where
    flow : (cursor : Option Plan) → IsFlow folder index (start_of index view) queue cursor → IsFlow folder index (start_of index view) (queue ++ message ∷ []) cursor
    flow None flows = none_with_other folder queue message other flows
    flow (Some Full) flows = none_with_other folder queue message other flows
    flow (Some (Above end)) flows = (flows_with_other folder index (start_of index view) queue end message other flows.0, flows.1)

-- it announces the whole index, or what is above its cursor
pub in_step_sending_whole : (folder : Folder) (index view : Listing) (Named : Type 0) (queue back : List Message) (message : Message) (batch : List Entry) → part_of folder message ≡ Whole batch → ConfigSays folder (SaysId index) message → IsSent index 0 batch → IsInStep folder index view (Some Full) Named queue back → IsInStep folder index view (Some (Above (last_sequence 0 batch))) Named (queue ++ message ∷ []) back
in_step_sending_whole folder index view Named queue back message batch whole says sent step = record {
  earlier = step.earlier;
  keeps_up = step.keeps_up;
  flow = (flows_with_whole folder index (start_of index view) queue message batch whole sent step.flow, sent.behind);
  ids = configs_say_with folder (SaysId index) queue message says step.ids;
  points = λ none. absurd (cc);
  named = step.named;
}

pub in_step_sending_further : (folder : Folder) (index view : Listing) (end : ℕ) (Named : Type 0) (queue back : List Message) (message : Message) (batch : List Entry) → part_of folder message ≡ Further batch → ConfigSays folder (SaysId index) message → IsSent index end batch → IsInStep folder index view (Some (Above end)) Named queue back → IsInStep folder index view (Some (Above (last_sequence end batch))) Named (queue ++ message ∷ []) back
in_step_sending_further folder index view end Named queue back message batch further says sent step = record {
  earlier = step.earlier;
  keeps_up = step.keeps_up;
  flow = (flows_with_further folder index (start_of index view) queue end message batch further sent step.flow.0, sent.behind);
  ids = configs_say_with folder (SaysId index) queue message says step.ids;
  points = λ none. absurd (cc);
  named = step.named;
}

-- it takes the receiver's ClusterConfig, which tells its cursor
pub in_step_with_cursor : (folder : Folder) (index view : Listing) (Named : Type 0) (queue back : List Message) (one : Announced) → SaysPoint index view one → IsInStep folder index view None Named queue back → IsInStep folder index view (Some (cursor_after index one.known_id one.known_sequence)) Named queue back
in_step_with_cursor folder index view Named queue back one says step = record {
  earlier = step.earlier;
  keeps_up = step.keeps_up;
  flow = flow ((index.id == one.known_id) && (nat_le 1 one.known_sequence && nat_le one.known_sequence index.sequence)) refl;
  ids = step.ids;
  points = λ none. absurd (cc);
  named = step.named;
}
  where
    flow : (b : Bool) → ((index.id == one.known_id) && (nat_le 1 one.known_sequence && nat_le one.known_sequence index.sequence)) ≡ b → IsFlow folder index (start_of index view) queue (Some (if b then Above one.known_sequence else Full))
    flow true e =
        let id : one.known_id ≡ index.id = grind (arith, nat_tests) in
        let small : one.known_sequence ≤ index.sequence = grind (arith, nat_tests) in
        let point = says id in
        (subst (λ (start : Option ℕ). Flows folder index start queue one.known_sequence) (sym (same_id index view point.0 ∙ ap Some point.1)) (none_flows_through folder index queue one.known_sequence step.flow), small)
    flow false e = step.flow

-- it takes another message
pub in_step_less_back : (folder : Folder) (index view : Listing) (cursor : Option Plan) (Named : Type 0) (queue : List Message) (first : Message) (back : List Message) → IsInStep folder index view cursor Named queue (first ∷ back) → IsInStep folder index view cursor Named queue back
in_step_less_back folder index view cursor Named queue first back step = record {
  earlier = step.earlier;
  keeps_up = step.keeps_up;
  flow = step.flow;
  ids = step.ids;
  points = λ none. (step.points none).1;
  named = step.named;
}

-- ---- the receiver

-- it sends a message, which tells its point if it is a ClusterConfig
pub in_step_more_back : (folder : Folder) (index view : Listing) (cursor : Option Plan) (Named : Type 0) (queue back : List Message) (message : Message) → ConfigSays folder (SaysPoint index view) message → IsInStep folder index view cursor Named queue back → IsInStep folder index view cursor Named queue (back ++ message ∷ [])
in_step_more_back folder index view cursor Named queue back message says step = record {
  earlier = step.earlier;
  keeps_up = step.keeps_up;
  flow = step.flow;
  ids = step.ids;
  points = λ none. configs_say_with folder (SaysPoint index view) back message says (step.points none);
  named = step.named;
}

-- the flow of a queue without its first message, which isn't of the folder's index
rest_of_flow : (folder : Folder) (index : Listing) (start : Option ℕ) (first : Message) (queue : List Message) (cursor : Option Plan) → part_of folder first ≡ Other → IsFlow folder index start (first ∷ queue) cursor → IsFlow folder index start queue cursor
rest_of_flow folder index start first queue None other flows = flows.1
rest_of_flow folder index start first queue (Some Full) other flows = flows.1
rest_of_flow folder index start first queue (Some (Above end)) other flows =
    (subst (λ (part : Part). AfterPart index part start (λ next. Flows folder index next queue end)) other flows.0, flows.1)

-- it takes what isn't of the folder's index, and keeps its view
pub in_step_taking_other : (folder : Folder) (index view : Listing) (cursor : Option Plan) (Named : Type 0) (first : Message) (queue back : List Message) → part_of folder first ≡ Other → IsInStep folder index view cursor Named (first ∷ queue) back → IsInStep folder index view cursor Named queue back
in_step_taking_other folder index view cursor Named first queue back other step = record {
  earlier = step.earlier;
  keeps_up = step.keeps_up;
  flow = rest_of_flow folder index (start_of index view) first queue cursor other step.flow;
  ids = step.ids.1;
  points = step.points;
  named = step.named;
}

-- its view of another index is cleared, and takes the id of this one
nothing_known : (index view : Listing) → view.id ≢ index.id → IsIndex index → HasNoGap index (cleared index.id)
nothing_known index view apart is_index = record {
  held = λ name entry there small. absurd (omega (arith, small, (is_index.numbered name entry there).1));
  named = λ name entry seen. nothing_in_empty (slice_cmp nat_cmp) name entry seen;
  behind = omega arith;
}

on_from_nowhere : (index : Listing) (part : Part) (start : Option ℕ) (rest : Option ℕ → Type 0) → (rest None → rest start) → AfterPart index part None rest → AfterPart index part start rest
on_from_nowhere index (Whole batch) start rest more after = after
on_from_nowhere index (Further batch) start rest more after = absurd (let e = after.1 in cc)
on_from_nowhere index Other start rest more after = more after

from_nowhere : (folder : Folder) (index : Listing) (start : Option ℕ) (queue : List Message) (end : ℕ) → Flows folder index None queue end → Flows folder index start queue end
from_nowhere folder index start [] end flows = absurd (cc)
from_nowhere folder index start (first ∷ more) end flows =
    on_from_nowhere index (part_of folder first) start (λ next. Flows folder index next more end) (from_nowhere folder index start more end) flows

said_nowhere : (folder : Folder) (index view other : Listing) → view.id ≢ index.id → (named : List Announced) → EachSays folder (SaysPoint index view) named → EachSays folder (SaysPoint index other) named
said_nowhere folder index view other apart [] says = tt
said_nowhere folder index view other apart (one ∷ more) says =
    ((λ about known. absurd (apart (says.0 about known).0)), said_nowhere folder index view other apart more says.1)

told_nowhere : (folder : Folder) (index view other : Listing) → view.id ≢ index.id → (queue : List Message) → ConfigsSay folder (SaysPoint index view) queue → ConfigsSay folder (SaysPoint index other) queue
told_nowhere folder index view other apart [] all = tt
told_nowhere folder index view other apart (first ∷ more) all = (by_message first all.0, told_nowhere folder index view other apart more all.1)
  where
    by_message : (message : Message) → ConfigSays folder (SaysPoint index view) message → ConfigSays folder (SaysPoint index other) message
    by_message (messages.ClusterConfig named) says = said_nowhere folder index view other apart named says
    by_message (messages.Index named batch) says = tt
    by_message (messages.IndexUpdate named batch) says = tt
    by_message (messages.Request request) says = tt
    by_message (messages.Response response) says = tt

flow_from_nowhere : (folder : Folder) (index : Listing) (start : Option ℕ) (queue : List Message) (cursor : Option Plan) → IsFlow folder index None queue cursor → IsFlow folder index start queue cursor
flow_from_nowhere folder index start queue None flows = flows
flow_from_nowhere folder index start queue (Some Full) flows = flows
flow_from_nowhere folder index start queue (Some (Above end)) flows = (from_nowhere folder index start queue end flows.0, flows.1)

-- it takes a ClusterConfig that tells another id than that of its view
pub in_step_cleared : (folder : Folder) (index view : Listing) (cursor : Option Plan) (Named Later : Type 0) (first : Message) (queue back : List Message) → part_of folder first ≡ Other → view.id ≢ index.id → IsIndex index → IsInStep folder index view cursor Named (first ∷ queue) back → IsInStep folder index (cleared index.id) cursor Later queue back
in_step_cleared folder index view cursor Named Later first queue back other apart is_index step = record {
  earlier = omega arith;
  keeps_up = λ same. nothing_known index view apart is_index;
  flow =
      flow_from_nowhere folder index (start_of index (cleared index.id)) queue cursor
      (rest_of_flow folder index None first queue cursor other
      (subst (λ (start : Option ℕ). IsFlow folder index start (first ∷ queue) cursor) (other_id index view apart) step.flow));
  ids = step.ids.1;
  points = λ none. told_nowhere folder index view (cleared index.id) apart back (step.points none);
  named = λ later. refl;
}

-- the session names it, or doesn't, where the view is of this index
pub in_step_named : (folder : Folder) (index view : Listing) (cursor : Option Plan) (Named Later : Type 0) (queue back : List Message) → (Later → view.id ≡ index.id) → IsInStep folder index view cursor Named queue back → IsInStep folder index view cursor Later queue back
in_step_named folder index view cursor Named Later queue back named step = record {
  earlier = step.earlier;
  keeps_up = step.keeps_up;
  flow = step.flow;
  ids = step.ids;
  points = step.points;
  named = named;
}

-- nothing is on its way, and no session was begun
pub in_step_anew : (folder : Folder) (index view : Listing) (Named : Type 0) → (¬ Named) → view.id ≤ index.id → (view.id ≡ index.id → HasNoGap index view) → IsInStep folder index view None Named [] []
in_step_anew folder index view Named never earlier keeps = record {
  earlier = earlier;
  keeps_up = keeps;
  flow = tt;
  ids = tt;
  points = λ none. tt;
  named = λ named. absurd (never named);
}

-- ---- the receiver takes what is of the index

module _ (folder : Folder) (index : Listing) (first : Message) (queue : List Message) (batch : List Entry) where
  whole_taken : (start : Option ℕ) (cursor : Option Plan) → part_of folder first ≡ Whole batch → IsFlow folder index start (first ∷ queue) cursor → IsSent index 0 batch × IsFlow folder index (Some (last_sequence 0 batch)) queue cursor × (cursor ≢ None)
  whole_taken start None whole flows = let never : Whole batch ≡ Other = sym whole ∙ flows.0 in absurd (cc)
  whole_taken start (Some Full) whole flows = let never : Whole batch ≡ Other = sym whole ∙ flows.0 in absurd (cc)
  whole_taken start (Some (Above end)) whole flows =
      let after = subst (λ (part : Part). AfterPart index part start (λ next. Flows folder index next queue end)) whole flows.0 in
      (after.0, (after.1, flows.1), λ none. cc)

  further_taken : (low : ℕ) (cursor : Option Plan) → part_of folder first ≡ Further batch → IsFlow folder index (Some low) (first ∷ queue) cursor → IsSent index low batch × IsFlow folder index (Some (last_sequence low batch)) queue cursor × (cursor ≢ None)
  further_taken low None further flows = let never : Further batch ≡ Other = sym further ∙ flows.0 in absurd (cc)
  further_taken low (Some Full) further flows = let never : Further batch ≡ Other = sym further ∙ flows.0 in absurd (cc)
  further_taken low (Some (Above end)) further flows =
      let after = subst (λ (part : Part). AfterPart index part (Some low) (λ next. Flows folder index next queue end)) further flows.0 in
      let same = sym (same_Some low after.0 after.1) in
      (subst (λ l. IsSent index l batch) same after.2, (subst (λ l. Flows folder index (Some (last_sequence l batch)) queue end) same after.3, flows.1), λ none. cc)

module _ (found : FoundIsOfBatchOrBefore) (taken : BatchIsFound) (others : OthersAreKept) where
  -- it takes an Index
  pub in_step_taking_whole : (folder : Folder) (index view : Listing) (cursor : Option Plan) (Named : Type 0) (first : Message) (queue back : List Message) (batch : List Entry) → part_of folder first ≡ Whole batch → Named → IsIndex index → IsInStep folder index view cursor Named (first ∷ queue) back → IsInStep folder index (replaced view batch) cursor Named queue back
  in_step_taking_whole folder index view cursor Named first queue back batch whole named is_index step =
      let same = step.named named in
      let comes = whole_taken folder index first queue batch (start_of index view) cursor whole step.flow in
      record {
        earlier = step.earlier;
        keeps_up = λ _. keeps_up_when_replaced found taken others index view batch is_index comes.0;
        flow = subst (λ (start : Option ℕ). IsFlow folder index start queue cursor) (sym (same_id index (replaced view batch) same)) comes.1;
        ids = step.ids.1;
        points = λ none. absurd (comes.2 none);
        named = λ _. same;
      }

  -- it takes an IndexUpdate
  pub in_step_taking_further : (folder : Folder) (index view : Listing) (cursor : Option Plan) (Named : Type 0) (first : Message) (queue back : List Message) (batch : List Entry) → part_of folder first ≡ Further batch → Named → IsIndex index → IsInStep folder index view cursor Named (first ∷ queue) back → IsInStep folder index (amended view batch) cursor Named queue back
  in_step_taking_further folder index view cursor Named first queue back batch further named is_index step =
      let same = step.named named in
      let comes = further_taken folder index first queue batch view.sequence cursor further
      (subst (λ (start : Option ℕ). IsFlow folder index start (first ∷ queue) cursor) (same_id index view same) step.flow) in
      record {
        earlier = step.earlier;
        keeps_up = λ _. keeps_up_when_amended found taken others index view batch is_index (step.keeps_up same) comes.0;
        flow = subst (λ (start : Option ℕ). IsFlow folder index start queue cursor) (sym (same_id index (amended view batch) same)) comes.1;
        ids = step.ids.1;
        points = λ none. absurd (comes.2 none);
        named = λ _. same;
      }
