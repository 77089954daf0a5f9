-- The folders of a link's devices.
use Rattle.std.proofs.Common.{◌≡◌, ◌∙◌, ◌==◌, ◌&&◌, Bool, true, false, cond, List, [], ◌∷◌, map, Option, Some, None, option_map, is_some, Result, Ok, Err, IfOk, OnOk, refl, sym, ap, subst}
use Rattle.std.proofs.Math.Path.{fun_ext}
use Rattle.std.specs.List.{AllByRecursion, find}
use Rattle.std.specs.Ordering.{nat_cmp}
use Rattle.std.specs.Cmp.Lexicographic.{slice_cmp}
use Rattle.std.specs.FinMap.{empty, get, get-empty}
use Rattle.bep_map.specs.NameMap.{ByName}
use Rattle.bep_model.specs.Tables.{Device, Folder}
use Rattle.bep_folder.specs.Held.{Held}
use Rattle.bep_links.specs.Link.{LinkBetween, IsLink}
use Rattle.bep_peer.specs.Laws.{TablesAreFound}
use Rattle.bep_peer.specs.Member.{Member}
use Rattle.bep_tables.specs.declared.link.LinkState.{LinkState}
use Rattle.bep_cut.specs.LinkState.{HasBatch, both_have, link_cut}
use Rattle.bep_cut.specs.Cut.{IsSoundLink, Seen, seen, link_at, replicas_of, replicas_at}

-- a device is found among the seen ones as among the members
pub seen_at : (members : List Member) (device : Device) → find (λ (one : Seen). one.0 == device) (map seen members) ≡ option_map seen (find (λ (member : Member). member.number == device) members)
seen_at [] device = refl
seen_at (member ∷ members) device = cases (member.number == device) (seen_at members device)
  where
    cases : (b : Bool) → find (λ (one : Seen). one.0 == device) (map seen members) ≡ option_map seen (find (λ (member : Member). member.number == device) members) → cond b (Some (seen member)) (find (λ (one : Seen). one.0 == device) (map seen members)) ≡ option_map seen (cond b (Some member) (find (λ (member : Member). member.number == device) members))
    cases true rest = refl
    cases false rest = rest

some_mapped : {X Y : Type 0} (f : X → Y) (o : Option X) → is_some (option_map f o) ≡ is_some o
some_mapped f None = refl
some_mapped f (Some x) = refl

module _ (law : TablesAreFound) (members : List Member) (device : Device) where
  pub has_there : (member : Member) (folder : Folder) → find (λ (member : Member). member.number == device) members ≡ Some member →
      is_some (get member.folders folder) ≡ is_some (get (replicas_at (map seen members) device) folder)
  has_there member folder is =
      sym (ap (λ (o : Option Seen). is_some (get (replicas_of o) folder)) (seen_at members device ∙ ap (option_map seen) is)
      ∙ ap is_some (law member folder)
      ∙ some_mapped (λ (h : Held). h.tables) (get member.folders folder))

  pub has_none : (none : ByName Held) (folder : Folder) → none ≡ empty → find (λ (member : Member). member.number == device) members ≡ None →
      is_some (get none folder) ≡ is_some (get (replicas_at (map seen members) device) folder)
  has_none none folder empties is =
      ap (λ (m : ByName Held). is_some (get m folder)) empties
      ∙ ap is_some (get-empty (slice_cmp nat_cmp) folder)
      ∙ sym (ap (λ (o : Option Seen). is_some (get (replicas_of o) folder)) (seen_at members device ∙ ap (option_map seen) is) ∙ ap is_some (get-empty (slice_cmp nat_cmp) folder))

-- where both have the same folders, the link carries the same
pub same_link : {V W : Type 0} (lower upper : ByName V) (from to : ByName W) (between : LinkBetween) →
    ((folder : Folder) → is_some (get lower folder) ≡ is_some (get from folder)) → ((folder : Folder) → is_some (get upper folder) ≡ is_some (get to folder)) →
    link_cut (both_have lower upper) between ≡ link_cut (both_have from to) between
same_link lower upper from to between one other =
    ap (λ (both : Folder → Bool). link_cut both between) (fun_ext (λ folder. λ i. (one folder i) && (other folder i)))

-- what was made of a link is sound
pub sound_link : {E : Type 0} (all : List Seen) (between : LinkBetween) (result : Result LinkState E) → IfOk result (λ made. made ≡ link_at all between) →
    IfOk result (λ made. AllByRecursion HasBatch made.to_a) → IfOk result (λ made. AllByRecursion HasBatch made.to_b) → IsLink between → OnOk result (IsSoundLink all between)
sound_link all between (Ok made) is to_a to_b a_link = record {
  a_link = a_link;
  to_a = subst (λ (state : LinkState). AllByRecursion HasBatch state.to_a) is to_a;
  to_b = subst (λ (state : LinkState). AllByRecursion HasBatch state.to_b) is to_b;
}
sound_link all between (Err error) is to_a to_b a_link = tt
