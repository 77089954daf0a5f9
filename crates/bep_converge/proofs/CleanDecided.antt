-- Whether a node is clean can be decided.
use Rattle.std.proofs.Common.{Option, Some, None, inl, inr, ⊎_elim}
use Rattle.std.specs.Coded.{coded_ℕ, coded_ℤ, coded_list}
use Rattle.bep_facts.specs.Decided.{OrNot, both_or_not, or_not_as, same_or_not, true_or_not, false_or_not}
use Rattle.bep_record.specs.contracts.kind.Kind as kind_row
use Rattle.bep_record.specs.declared.entry.Entry.{Entry}
use Rattle.bep_record.specs.declared.kind.Kind.{Kind}
use Rattle.bep_record.specs.declared.kind.Kind.TheVariants as kinds
use Rattle.bep_record.specs.declared.node.NodeParts.{NodeParts}
use Rattle.bep_record.specs.Node.{IsClean, LooksSame}

looks_or_not : (kind : Kind) (node : NodeParts) (entry : Entry) → OrNot (LooksSame kind node entry)
looks_or_not kinds.File node entry =
    or_not_as
    (λ h. (h.0, h.1.0, h.1.1))
    (λ h. (h.0, (h.1, h.2)))
    (both_or_not (same_or_not coded_ℕ _ entry.size) (both_or_not (same_or_not coded_ℤ node.modified_s entry.modified_s) (same_or_not coded_ℕ node.modified_ns entry.modified_ns)))
looks_or_not kinds.Directory node entry = inl tt
looks_or_not kinds.Symlink node entry = same_or_not (coded_list coded_ℕ) node.target entry.target

pub clean_or_unclean : (node : Option NodeParts) (own : Option Entry) → OrNot (IsClean node own)
clean_or_unclean None None = inl tt
clean_or_unclean None (Some entry) = true_or_not entry.deleted
clean_or_unclean (Some node) None = inr (λ h. h)
clean_or_unclean (Some node) (Some entry) =
    or_not_as
    (λ h. (h.0, h.1.0, h.1.1))
    (λ h. (h.0, (h.1, h.2)))
    (both_or_not (false_or_not entry.deleted) (both_or_not (same_or_not (kind_row.the_row).coded node.kind entry.kind) (looks_or_not node.kind node entry)))

-- so what isn't unclean is clean
pub clean_where_not_unclean : (node : Option NodeParts) (own : Option Entry) → ¬ (¬ IsClean node own) → IsClean node own
clean_where_not_unclean node own not_unclean = ⊎_elim (λ clean. clean) (λ unclean. absurd (not_unclean unclean)) (clean_or_unclean node own)
