-- Two lists of entries that have the same groups have the same entries.
use Rattle.std.proofs.Common.{◌≡◌, List, Contains, ap, subst}
use Rattle.std.specs.Ordering.{is_eq}
use Rattle.std.proofs.lemmas.Cmp.{tied_itself}
use Rattle.bep_facts.specs.Orders.{texts_total}
use Rattle.bep_tables.specs.Kept.{kept, from_kept}
use Rattle.bep_tables.specs.Listed.{Listed, key_at, is_of, group_of}

-- what is in one is in the other
pub same_group_same : (one : Listed) (from to : List Listed) → group_of (key_at one) from ≡ group_of (key_at one) to → Contains from one → Contains to one
same_group_same one from to same member =
    let there = kept (is_of (key_at one)) from one member (ap is_eq (tied_itself texts_total (key_at one))) in
    (from_kept (is_of (key_at one)) to one (subst (λ l. Contains l one) same there)).0
