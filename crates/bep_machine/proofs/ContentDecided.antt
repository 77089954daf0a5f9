-- Whether two contents are the same can be decided.
use Rattle.std.proofs.Common.{◌≡◌, ◌⊎◌, Option, Some, None, refl, ap, inl, inr, ⊎_elim}
use Rattle.std.specs.Coded.{coded_ℕ, coded_list}
use Rattle.bep_facts.specs.Decided.{same_or_not}
use Rattle.bep_record.specs.contracts.block.Block as block_row
use Rattle.bep_record.specs.declared.entry.Entry.{Entry}
use Rattle.bep_record.specs.Content.{Content, Deleted, File, Directory, Symlink, content_of}
use Rattle.bep_machine.specs.Replica.{HasContentOf}

same_content : (one other : Content) → (one ≡ other) ⊎ (¬ (one ≡ other))
same_content Deleted Deleted = inl refl
same_content (File blocks) (File others) = ⊎_elim (λ e. inl (ap File e)) (λ differs. inr (λ e. differs (cc))) (same_or_not (coded_list (block_row.the_row).coded) blocks others)
same_content Directory Directory = inl refl
same_content (Symlink target) (Symlink other) = ⊎_elim (λ e. inl (ap Symlink e)) (λ differs. inr (λ e. differs (cc))) (same_or_not (coded_list coded_ℕ) target other)
same_content _ _ = inr (λ e. cc)

pub has_content_or_not : (own : Option Entry) (entry : Entry) → HasContentOf own entry ⊎ (¬ HasContentOf own entry)
has_content_or_not None entry = inr (λ has. has)
has_content_or_not (Some own) entry = same_content (content_of entry) (content_of own)
