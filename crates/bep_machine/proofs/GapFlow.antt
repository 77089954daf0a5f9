-- What is on its way from a sender to a receiver brings the receiver's view to the sender's cursor, batch by batch.
use Rattle.std.proofs.Common.{◌≡◌, ◌≤◌, ◌==◌, ℕ, if◌then◌else◌, List, [], ◌∷◌, ◌++◌, Option, Some, None, refl, sym, subst}
use Rattle.std.specs.Bool.{⊤}
use Rattle.bep_record.specs.declared.entry.Entry.{Entry}
use Rattle.bep_index.specs.declared.send.Plan.{Plan}
use Rattle.bep_index.specs.declared.send.Plan.TheVariants.{Full, Above}
use Rattle.bep_index.specs.Listing.{Listing}
use Rattle.bep_index.specs.Index.{IsIndex, after_put}
use Rattle.bep_index.specs.Batch.{last_sequence}
use Rattle.bep_model.specs.Tables.{Folder}
use Rattle.bep_machine.specs.declared.message.Message.{Message}
use Rattle.bep_machine.specs.declared.message.Message.TheVariants as messages
use Rattle.bep_machine.specs.declared.message.Announced.{Announced}
use Rattle.bep_machine.specs.Exchange.{same_bytes}
use Rattle.bep_machine.specs.Gapless.{HasNoGap}
use Rattle.bep_machine.proofs.GapFacts.{IsSent, sent_after_put}

-- what a message is to a folder: all of an index, more of it, or nothing of it
pub data Part : Type 0 where
  Whole : List Entry → Part
  Further : List Entry → Part
  Other : Part

abbrev pub part_of : Folder → Message → Part
part_of folder (messages.Index named batch) = if same_bytes named folder then Whole batch else Other
part_of folder (messages.IndexUpdate named batch) = if same_bytes named folder then Further batch else Other
part_of folder message = Other

-- a batch brings the view from where it is (nowhere, before an Index) to its own last sequence
abbrev pub AfterPart : Listing → Part → Option ℕ → (Option ℕ → Type 0) → Type 0
AfterPart index (Whole batch) start rest = IsSent index 0 batch × rest (Some (last_sequence 0 batch))
AfterPart index (Further batch) start rest = (low : ℕ) × (start ≡ Some low) × IsSent index low batch × rest (Some (last_sequence low batch))
AfterPart index Other start rest = rest start

-- the messages bring the view from its sequence to this one
abbrev pub Flows : Folder → Listing → Option ℕ → List Message → ℕ → Type 0
Flows folder index start [] end = start ≡ Some end
Flows folder index start (message ∷ more) end = AfterPart index (part_of folder message) start (λ next. Flows folder index next more end)

-- none of the messages is of the folder's index
abbrev pub NoneFlows : Folder → List Message → Type 0
NoneFlows folder [] = ⊤
NoneFlows folder (message ∷ more) = (part_of folder message ≡ Other) × NoneFlows folder more

-- ---- what is added at the end

goes_on : (index : Listing) (part : Part) (start : Option ℕ) (rest other : Option ℕ → Type 0) → ((next : Option ℕ) → rest next → other next) → AfterPart index part start rest → AfterPart index part start other
goes_on index (Whole batch) start rest other more after = (after.0, more _ after.1)
goes_on index (Further batch) start rest other more after = (after.0, after.1, after.2, more _ after.3)
goes_on index Other start rest other more after = more start after

pub flows_with_other : (folder : Folder) (index : Listing) (start : Option ℕ) (queue : List Message) (end : ℕ) (message : Message) → part_of folder message ≡ Other → Flows folder index start queue end → Flows folder index start (queue ++ message ∷ []) end
flows_with_other folder index start [] end message other flows =
    subst (λ (part : Part). AfterPart index part start (λ next. next ≡ Some end)) (sym other) flows
flows_with_other folder index start (first ∷ more) end message other flows =
    goes_on index (part_of folder first) start _ _ (λ next rest. flows_with_other folder index next more end message other rest) flows

pub flows_with_further : (folder : Folder) (index : Listing) (start : Option ℕ) (queue : List Message) (end : ℕ) (message : Message) (batch : List Entry) → part_of folder message ≡ Further batch → IsSent index end batch → Flows folder index start queue end → Flows folder index start (queue ++ message ∷ []) (last_sequence end batch)
flows_with_further folder index start [] end message batch further sent flows =
    subst (λ (part : Part). AfterPart index part start (λ next. next ≡ Some (last_sequence end batch))) (sym further) (end, flows, sent, refl)
flows_with_further folder index start (first ∷ more) end message batch further sent flows =
    goes_on index (part_of folder first) start _ _ (λ next rest. flows_with_further folder index next more end message batch further sent rest) flows

pub flows_with_whole : (folder : Folder) (index : Listing) (start : Option ℕ) (queue : List Message) (message : Message) (batch : List Entry) → part_of folder message ≡ Whole batch → IsSent index 0 batch → NoneFlows folder queue → Flows folder index start (queue ++ message ∷ []) (last_sequence 0 batch)
flows_with_whole folder index start [] message batch whole sent none =
    subst (λ (part : Part). AfterPart index part start (λ next. next ≡ Some (last_sequence 0 batch))) (sym whole) (sent, refl)
flows_with_whole folder index start (first ∷ more) message batch whole sent none =
    subst (λ (part : Part). AfterPart index part start (λ next. Flows folder index next (more ++ message ∷ []) (last_sequence 0 batch))) (sym none.0)
    (flows_with_whole folder index start more message batch whole sent none.1)

pub none_with_other : (folder : Folder) (queue : List Message) (message : Message) → part_of folder message ≡ Other → NoneFlows folder queue → NoneFlows folder (queue ++ message ∷ [])
none_with_other folder [] message other none = (other, tt)
none_with_other folder (first ∷ more) message other none = (none.0, none_with_other folder more message other none.1)

-- where nothing is on its way, the view is there already
pub none_flows_through : (folder : Folder) (index : Listing) (queue : List Message) (end : ℕ) → NoneFlows folder queue → Flows folder index (Some end) queue end
none_flows_through folder index [] end none = refl
none_flows_through folder index (first ∷ more) end none =
    subst (λ (part : Part). AfterPart index part (Some end) (λ next. Flows folder index next more end)) (sym none.0) (none_flows_through folder index more end none.1)

-- ---- the index grows

part_after_put : (index : Listing) (put : Entry) → IsIndex index → (part : Part) (start : Option ℕ) (rest other : Option ℕ → Type 0) → ((next : Option ℕ) → rest next → other next) → AfterPart index part start rest → AfterPart (after_put index put) part start other
part_after_put index put is_index (Whole batch) start rest other more after = (sent_after_put index 0 batch put is_index after.0, more _ after.1)
part_after_put index put is_index (Further batch) start rest other more after = (after.0, after.1, sent_after_put index after.0 batch put is_index after.2, more _ after.3)
part_after_put index put is_index Other start rest other more after = more start after

pub flows_after_put : (folder : Folder) (index : Listing) (put : Entry) → IsIndex index → (start : Option ℕ) (queue : List Message) (end : ℕ) → Flows folder index start queue end → Flows folder (after_put index put) start queue end
flows_after_put folder index put is_index start [] end flows = flows
flows_after_put folder index put is_index start (first ∷ more) end flows =
    part_after_put index put is_index (part_of folder first) start _ _ (λ next rest. flows_after_put folder index put is_index next more end rest) flows

-- ---- what a ClusterConfig says

-- each of these that is about the folder says this
abbrev pub EachSays : Folder → (Announced → Type 0) → List Announced → Type 0
EachSays folder Says [] = ⊤
EachSays folder Says (one ∷ more) = (one.folder ≡ folder → Says one) × EachSays folder Says more

abbrev pub ConfigSays : Folder → (Announced → Type 0) → Message → Type 0
ConfigSays folder Says (messages.ClusterConfig named) = EachSays folder Says named
ConfigSays folder Says message = ⊤

abbrev pub ConfigsSay : Folder → (Announced → Type 0) → List Message → Type 0
ConfigsSay folder Says [] = ⊤
ConfigsSay folder Says (message ∷ more) = ConfigSays folder Says message × ConfigsSay folder Says more

-- the index's own id
abbrev pub SaysId : Listing → Announced → Type 0
SaysId index one = one.index_id ≡ index.id

-- the point of the view, where it is of this index
abbrev pub SaysPoint : Listing → Listing → Announced → Type 0
SaysPoint index view one = one.known_id ≡ index.id → (view.id ≡ index.id) × (view.sequence ≡ one.known_sequence)

pub configs_say_with : (folder : Folder) (Says : Announced → Type 0) (queue : List Message) (message : Message) → ConfigSays folder Says message → ConfigsSay folder Says queue → ConfigsSay folder Says (queue ++ message ∷ [])
configs_say_with folder Says [] message says all = (says, tt)
configs_say_with folder Says (first ∷ more) message says all = (all.0, configs_say_with folder Says more message says all.1)

-- ---- one folder, from a sender to a receiver

-- where the view stands in the index; nowhere, while it is of another one
abbrev pub start_of : Listing → Listing → Option ℕ
start_of index view = if view.id == index.id then Some view.sequence else None

abbrev pub IsFlow : Folder → Listing → Option ℕ → List Message → Option Plan → Type 0
IsFlow folder index start queue None = NoneFlows folder queue
IsFlow folder index start queue (Some Full) = NoneFlows folder queue
IsFlow folder index start queue (Some (Above end)) = Flows folder index start queue end × (end ≤ index.sequence)

-- the sender's index and cursor, what is on its way to the receiver, the receiver's view, which is of no later index, what
-- is on its way back, and that the receiver's session names the folder
pub record IsInStep (folder : Folder) (index view : Listing) (cursor : Option Plan) (Named : Type 0) (queue back : List Message) : Type 0 where
  pub earlier : view.id ≤ index.id
  pub keeps_up : view.id ≡ index.id → HasNoGap index view
  pub flow : IsFlow folder index (start_of index view) queue cursor
  pub ids : ConfigsSay folder (SaysId index) queue
  pub points : cursor ≡ None → ConfigsSay folder (SaysPoint index view) back
  pub named : Named → view.id ≡ index.id
