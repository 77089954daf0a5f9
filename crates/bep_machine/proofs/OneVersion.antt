-- Raised and merged versions are the only ones, and so are the records under them.
use Rattle.std.proofs.Common.{◌≡◌, ◌+◌, ◌∙◌, ℕ, false, List, Option, sym, ap}
use Rattle.bep_record.specs.declared.entry.Entry.{Entry}
use Rattle.bep_record.specs.Vector.{counter_of, IsMerge, IsBump}
use Rattle.bep_record.specs.Laws.{MergeIsUnique, BumpIsUnique}
use Rattle.bep_model.specs.Tables.{Device}
use Rattle.bep_machine.specs.Local.{IsRaised, IsMergedAndRaised}
use Rattle.bep_machine.specs.Pull.{IsAdopted}
use Rattle.bep_machine.specs.Replica.{version_of}

pub one_raised : BumpIsUnique → (device : Device) (old one other : List (ℕ × ℕ)) → IsRaised device old one → IsRaised device old other → one ≡ other
one_raised law device old one other is too = law old device one other is.version too.version is.bump too.bump

-- two merges have the same counters
same_counters : (u v one other : List (ℕ × ℕ)) → IsMerge u v one → IsMerge u v other → (id : ℕ) → counter_of one id ≡ counter_of other id
same_counters u v one other is too id = is id ∙ sym (too id)

-- what is raised from vectors with the same counters is raised from each of them
same_bump : (one other : List (ℕ × ℕ)) (device : Device) (new : List (ℕ × ℕ)) → ((id : ℕ) → counter_of one id ≡ counter_of other id) → IsBump one device new → IsBump other device new
same_bump one other device new same bump = (bump.0 ∙ ap (λ (n : ℕ). n + 1) (same device), λ id apart. bump.1 id apart ∙ same id)

pub one_merged_and_raised : BumpIsUnique → (device : Device) (u v one other : List (ℕ × ℕ)) → IsMergedAndRaised device u v one → IsMergedAndRaised device u v other → one ≡ other
one_merged_and_raised law device u v one other is too =
    law too.merged device one other is.version too.version
    (same_bump is.merged too.merged device one (same_counters u v is.merged too.merged is.merge too.merge) is.bump) too.bump

pub one_adopted : MergeIsUnique → (own : Option Entry) (target one other : Entry) → IsAdopted own target one → IsAdopted own target other → one ≡ other
one_adopted law own target one other is too =
    is.same
    ∙ ap (λ (version : List (ℕ × ℕ)). record target { version = version; invalid = false }) (law (version_of own) target.version is.version too.version is.rises too.rises is.merge too.merge)
    ∙ sym too.same
