-- With which device a folder is shared, and that a link has one other end.
use Rattle.std.proofs.Common.{◌≡◌, ◌⊎◌, ◌+◌, ◌<◌, ℕ, List, ◌∷◌, length, drop, get_or, suc, add-one, drop-cons, Option, Some, None, IsTrue, option_map, sym, ap, subst, ◌∙◌, inl, inr}
use Rattle.std.specs.Cmp.Lexicographic.{nat_list_cmp_total}
use Rattle.std.specs.FinMap.{get}
use Rattle.std.proofs.lemmas.Map.Lookups.{exact_bytes}
use Rattle.bep_map.specs.NameMap.{ByName}
use Rattle.bep_model.specs.Tables.{Device, Folder}
use Rattle.bep_machine.specs.Exchange.{SharesWith}
use Rattle.bep_machine.specs.Peer.{is_shared_with}
use Rattle.bep_machine.specs.Replica.{Replica}
use Rattle.bep_folder.specs.Held.{Held}
use Rattle.bep_peer.specs.Lent.{Lent, Joins, IsAtHand, NamesFolder}
use Rattle.bep_peer.specs.Member.{Member, tables_in, tables_of}
use Rattle.bep_peer.proofs.Mapped.{get-changed}

-- ---- the tables of a folder

pub tables_at : (folders : ByName Held) (folder : Folder) → get (tables_in folders) folder ≡ option_map (λ (held : Held). held.tables) (get folders folder)
tables_at folders folder = get-changed nat_list_cmp_total exact_bytes (λ (held : Held). held.tables) folders folder

pub tables_held : (folders : ByName Held) (folder : Folder) (held : Held) → get folders folder ≡ Some held → get (tables_in folders) folder ≡ Some held.tables
tables_held folders folder held has = tables_at folders folder ∙ ap (option_map (λ (held : Held). held.tables)) has

same_there : {A : Type 0} (found : Option A) (one other : A) → found ≡ Some one → found ≡ Some other → one ≡ other
same_there None one other is is_too = absurd (cc)
same_there (Some there) one other is is_too = cc

-- the folder is shared exactly where its others say so
pub shared_with : (member : Member) (folder : Folder) (other : Device) (held : Held) → get member.folders folder ≡ Some held → IsTrue (is_shared_with other held.tables) → SharesWith other (tables_of member) folder
shared_with member folder other held has shared = (held.tables, tables_held member.folders folder held has, shared)

pub held_shares : (member : Member) (folder : Folder) (other : Device) (held : Held) → get member.folders folder ≡ Some held → SharesWith other (tables_of member) folder → IsTrue (is_shared_with other held.tables)
held_shares member folder other held has shares =
    subst (λ (replica : Replica). IsTrue (is_shared_with other replica)) (same_there _ _ _ shares.1 (tables_held member.folders folder held has)) shares.2

pub not_held : (member : Member) (folder : Folder) (other : Device) → get member.folders folder ≡ None → ¬ SharesWith other (tables_of member) folder
not_held member folder other none shares =
    let e = sym shares.1 ∙ tables_at member.folders folder ∙ ap (option_map (λ (held : Held). held.tables)) none in absurd (cc)

-- ---- the other end

one_other_of : (ends : Device × Device) (number one other : Device) → (ends ≡ (number, one)) ⊎ (ends ≡ (one, number)) → (ends ≡ (number, other)) ⊎ (ends ≡ (other, number)) → one ≡ other
one_other_of ends number one other (inl p) (inl q) = ap (λ x. x.1) (sym p ∙ q)
one_other_of ends number one other (inl p) (inr q) = ap (λ x. x.1) (sym p ∙ q) ∙ ap (λ x. x.0) (sym p ∙ q)
one_other_of ends number one other (inr p) (inl q) = ap (λ x. x.0) (sym p ∙ q) ∙ ap (λ x. x.1) (sym p ∙ q)
one_other_of ends number one other (inr p) (inr q) = ap (λ x. x.0) (sym p ∙ q)

pub none_at_hand : (lent : Lent) (folder : Folder) → ((other : Device) → ¬ Joins lent other) → ¬ IsAtHand (NamesFolder folder) lent
none_at_hand lent folder none there = none there.0 there.1

pub not_shared_at_hand : (lent : Lent) (folder : Folder) (other : Device) → Joins lent other → (¬ SharesWith other (tables_of lent.member) folder) → ¬ IsAtHand (NamesFolder folder) lent
not_shared_at_hand lent folder other joins none there =
    none (subst (λ (one : Device). SharesWith one (tables_of lent.member) folder) (one_other_of lent.link.ends lent.member.number there.0 other there.1.ends joins.ends) there.2)

-- ---- the folders that are named

-- the rest of a list begins with the item that stands here
pub drop_here : {A : Type 0} (xs : List A) (i : ℕ) (x : A) → i < length xs → x ≡ get_or xs i x → drop i xs ≡ x ∷ drop (i + 1) xs
drop_here xs i x here is = rw (add-one, drop-cons xs i x) (ap (λ y. y ∷ drop (suc i) xs) (sym is))
