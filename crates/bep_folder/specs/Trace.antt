-- What the last call to a replica did to its store, and what the wrapper round the store tells of this (this project's
-- profile).
use Rattle.std.specs.Prelude.{◌≡◌, ◌<◌, ℕ, ◌+◌, min, Bool, false, Option, Some, None, Result, Ok, Err, refl}
use Rattle.std.specs.Coded.{Coded, code_by, coded×, coded_ℕ, coded_bool, coded_list, coded_option}
use Rattle.std.specs.FinMap.{code}
use Rattle.bep_map.specs.NameMap.{ByName}
use Rattle.bep_record.specs.declared.node.NodeParts.{NodeParts}
use Rattle.bep_store.specs.declared.error.StoreError.{StoreError}
use Rattle.bep_store.specs.declared.error.StoreError.TheVariants as store_errors
use Rattle.bep_folder.specs.declared.error.FolderError.{FolderError}
use Rattle.bep_folder.specs.declared.error.FolderError.TheVariants.{StoreFault, Memory}

-- which call of the store failed, counted from 1, and whether a conflict copy was written
pub record Trace : Type 0 where
  pub failed : Option ℕ
  pub copied : Bool

-- before the first call of the store
abbrev pub no_trace : Trace
no_trace = record { failed = None; copied = false }

-- a store: what it holds, how often it failed, how many calls were made of it, and the trace of these
pub record TracedStore : Type 0 where
  pub contents : ByName NodeParts
  pub faults : ℕ
  pub made : ℕ
  pub trace : Trace

abbrev pub trace_code : Coded Trace
trace_code = code_by (Option ℕ × Bool) (coded× (coded_option coded_ℕ) coded_bool) (λ t. (t.failed, t.copied)) (λ p. record { failed = p.0; copied = p.1 }) (λ _. refl)

-- a traced store is stored as its parts, by the code of a node
abbrev pub traced_code : Coded NodeParts → Coded TracedStore
traced_code node =
    code_by (ByName NodeParts × (ℕ × (ℕ × Trace))) (coded× (code (coded_list coded_ℕ) node) (coded× coded_ℕ (coded× coded_ℕ trace_code)))
    (λ s. (s.contents, (s.faults, (s.made, s.trace)))) (λ p. record { contents = p.0; faults = p.1.0; made = p.1.1.0; trace = p.1.1.1 }) (λ _. refl)

-- the same store, with no call made
abbrev pub begun : TracedStore → TracedStore
begun store = record store { made = 0; trace = no_trace }

-- the number of the next call; it goes no further than 32 bits
abbrev pub next_call : ℕ → ℕ
next_call made = min (made + 1) 4294967295

-- the last call that was made is the one that failed
abbrev pub failed_now : ℕ → Trace → Trace
failed_now made trace = record trace { failed = Some made }

-- the store once the last call gave this error
abbrev pub noted : TracedStore → StoreError → TracedStore
noted store store_errors.Fault = record store { trace = failed_now store.made store.trace }
noted store store_errors.Memory = store

-- One more call was made. Where it answers a fault, the count of faults rose and the trace tells of the call; want of
-- memory is no fault.
abbrev pub CountsCall : {A : Type 0} → TracedStore → TracedStore → Result A FolderError → Type 0
CountsCall old new (Ok _) = (new.made ≡ next_call old.made) × (new.faults ≡ old.faults) × (new.trace ≡ old.trace)
CountsCall old new (Err StoreFault) = (new.made ≡ next_call old.made) × (old.faults < new.faults) × (new.trace ≡ failed_now new.made old.trace)
CountsCall old new (Err Memory) = (new.made ≡ next_call old.made) × (new.faults ≡ old.faults) × (new.trace ≡ old.trace)
CountsCall old new (Err _) = ⊥
