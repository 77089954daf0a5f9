-- A record is the top of its name, where one prevails and none of the other devices' own is beyond it.
use Rattle.std.proofs.Common.{◌≡◌, ◌≢◌, ◌⊎◌, ◌∙◌, Bool, true, false, cond, Option, Some, None, IsSome, Contains, refl, sym, ap, subst, inl, inr, ⊎_elim, arith}
use Rattle.std.proofs.lemmas.Bool.{cases_Bool, cases_eq}
use Rattle.std.proofs.lemmas.Option.{same_Some}
use Rattle.bep_record.specs.declared.entry.Entry.{Entry}
use Rattle.bep_record.specs.Content.{Deleted, content_of, content_of_kind}
use Rattle.bep_record.specs.Vector.{IsAtMost}
use Rattle.bep_model.specs.Tables.{Tables, Device, Folder, FileName}
use Rattle.bep_model.specs.Firm.{AreEqual}
use Rattle.bep_model.proofs.StaysFacts.{not_deleted}
use Rattle.bep_machine.specs.Cluster.{Cluster}
use Rattle.bep_machine.specs.Replica.{Replica}
use Rattle.bep_machine.specs.Said.{tables_of_cluster}
use Rattle.bep_machine.specs.Sound.{FitsFolder}
use Rattle.bep_machine.specs.Steps.{SharesFolder}
use Rattle.bep_converge.specs.Prevails.{IsAtTop, IsNoLocalChange, Prevails}
use Rattle.bep_converge.proofs.VersionFacts.{equal_itself, equal_through}
use Rattle.bep_rounds.specs.Finding.{IsBehindHere, IsUpTo, IsWanted, NoneIsBehind}

-- ---- what is read

-- the own record of the name that the record has
pub own_of_top : (t : Tables) (device : Device) (folder : Folder) (top read : Entry) (own : Option Entry) → own ≡ t.own device folder read.name → read ≡ top → own ≡ t.own device folder top.name
own_of_top t device folder top read own is same = is ∙ ap (λ (e : Entry). t.own device folder e.name) same

-- what is wanted, in other words
pub wanted_as : (c : Cluster) (device owner own : Device) (folder shared : Folder) (name copied : FileName) → own ≡ owner → shared ≡ folder → copied ≡ name →
    IsWanted c (record { device = device; owner = owner; folder = folder; name = name }) → IsWanted c (record { device = device; owner = own; folder = shared; name = copied })
wanted_as c device owner own folder shared name copied same_owner same_folder same_name is =
    subst (λ (d : Device). IsWanted c (record { device = device; owner = d; folder = shared; name = copied })) (sym same_owner)
    (subst (λ (f : Folder). IsWanted c (record { device = device; owner = owner; folder = f; name = copied })) (sym same_folder)
    (subst (λ (n : FileName). IsWanted c (record { device = device; owner = owner; folder = folder; name = n })) (sym same_name) is))

-- ---- one top for another

deleted_too : (one other : Entry) → content_of one ≡ content_of other → one.deleted ≡ true → other.deleted ≡ true
deleted_too one other same deleted =
    let gone : content_of one ≡ Deleted = ap (λ (b : Bool). cond b Deleted (content_of_kind one.kind one.blocks one.target)) deleted in
    ⊎_elim (λ is. is) (λ there. absurd (not_deleted other there (sym same ∙ gone))) (cases_Bool other.deleted)

at_other : (own : Option Entry) (one other : Entry) → AreEqual one.version other.version → content_of one ≡ content_of other → IsAtTop own one → IsAtTop own other
at_other None one other version same at = deleted_too one other same at
at_other (Some own) one other version same at = equal_through own.version one.version other.version at version

-- ---- the record of a device that has this replica

module _ (c : Cluster) (owner : Device) (folder : Folder) (replica : Replica) (fit : FitsFolder c.config owner folder replica) (top : Entry) (own : (tables_of_cluster c).own owner folder top.name ≡ Some top) where
  abbrev t : Tables
  t = tables_of_cluster c

  owner_shares : SharesFolder c.config owner folder
  owner_shares = (replica.kind, fit.kind)

  -- the other devices that share the folder are those of the replica
  is_other : (device : Device) → device ≢ owner → SharesFolder c.config device folder → Contains replica.others device
  is_other device apart shares = (fit.others device).1 (apart, shares)

  module _ (any : Entry) (prevails : Prevails t folder top.name any) where
    valid : top.invalid ≡ false
    valid = subst (λ (o : Option Entry). IsNoLocalChange o) own (prevails.everywhere owner owner_shares).not_local

    within : IsAtMost top.version any.version
    within = prevails.top_of.above_all top (owner, owner_shares, inl (own, valid))

    beyond : ((other : Device) → Contains replica.others other → IsUpTo (t.own other folder top.name) top) → IsAtMost any.version top.version
    beyond up_to = by_owner (cases_eq prevails.top_of.owner owner)
      where
        by_owner : (prevails.top_of.owner ≡ owner) ⊎ (prevails.top_of.owner ≢ owner) → IsAtMost any.version top.version
        by_owner (inl same) =
            let had : t.own owner folder top.name ≡ Some any = subst (λ (d : Device). t.own d folder top.name ≡ Some any) same prevails.top_of.owned.0 in
            let is : any ≡ top = same_Some any top (sym had ∙ own) in
            subst (λ (e : Entry). IsAtMost any.version e.version) is (equal_itself any.version).0
        by_owner (inr apart) =
            subst (λ (o : Option Entry). IsUpTo o top) prevails.top_of.owned.0
            (up_to prevails.top_of.owner (is_other prevails.top_of.owner apart prevails.top_of.shares))

    prevails_too : ((other : Device) → Contains replica.others other → IsUpTo (t.own other folder top.name) top) → Prevails t folder top.name top
    prevails_too up_to =
        let equal : AreEqual any.version top.version = (beyond up_to, within) in
        let same = prevails.chain.agree any top (prevails.top_of.owner, prevails.top_of.shares, inl prevails.top_of.owned) (owner, owner_shares, inl (own, valid)) equal in
        record {
          chain = prevails.chain;
          top_of = record {
            owner = owner;
            shares = owner_shares;
            owned = (own, valid);
            above_all = λ entry known. λ id. let a = prevails.top_of.above_all entry known id in let b = equal.0 id in omega arith;
          };
          everywhere = λ device shares.
              let lets_in = prevails.everywhere device shares in
              record {
                not_local = lets_in.not_local;
                clean = lets_in.clean;
                holds = lets_in.holds;
                takes = ⊎_elim (λ at. inl (at_other (t.own device folder top.name) any top equal same at)) (λ takes. inr takes) lets_in.takes;
                counted = lets_in.counted;
              };
        }

  -- who isn't at it is behind it
  pub behind_here : (device : Device) → Contains replica.others device → ¬ IsAtTop (t.own device folder top.name) top →
      ((other : Device) → Contains replica.others other → IsUpTo (t.own other folder top.name) top) → IsBehindHere c device owner folder top
  behind_here device listed below up_to any prevails = record {
    prevails = prevails_too any prevails up_to;
    device_shares = ((fit.others device).0 listed).1;
    owner_shares = owner_shares;
    owned = (own, valid any prevails);
    below = below;
  }

  -- so it can be brought from here
  pub is_wanted : (device : Device) → IsBehindHere c device owner folder top → IsWanted c (record { device = device; owner = owner; folder = folder; name = top.name })
  is_wanted device behind all =
      let some : IsSome (t.own owner folder top.name) = subst (λ (o : Option Entry). IsSome o) (sym own) refl in
      let any = all folder top.name (owner, owner_shares, inr (inl some)) in
      (top, behind any.0 any.1)

  -- where all the others are at it, none is behind
  pub none_below : ((other : Device) → Contains replica.others other → IsAtTop (t.own other folder top.name) top) → NoneIsBehind c owner folder top.name
  none_below at any prevails owned device shares =
      let is : top ≡ any = same_Some top any (sym own ∙ owned) in
      subst (λ (e : Entry). IsAtTop (t.own device folder top.name) e) is (by_device (cases_eq device owner))
    where
      by_device : (device ≡ owner) ⊎ (device ≢ owner) → IsAtTop (t.own device folder top.name) top
      by_device (inl same) =
          subst (λ (d : Device). IsAtTop (t.own d folder top.name) top) (sym same)
          (subst (λ (o : Option Entry). IsAtTop o top) (sym own) (equal_itself top.version))
      by_device (inr apart) = at device (is_other device apart shares)

  -- nor where one has a record beyond it, since it isn't the top then
  pub none_above : ¬ ((other : Device) → Contains replica.others other → IsUpTo (t.own other folder top.name) top) → NoneIsBehind c owner folder top.name
  none_above beyond any prevails owned device shares = absurd (beyond (λ other listed. up_to other ((fit.others other).0 listed).1 (t.own other folder top.name) refl))
    where
      up_to : (other : Device) → SharesFolder c.config other folder → (o : Option Entry) → t.own other folder top.name ≡ o → IsUpTo o top
      up_to other there None is = tt
      up_to other there (Some record_there) is =
          let no_change : record_there.invalid ≡ false = subst (λ (o : Option Entry). IsNoLocalChange o) is (prevails.everywhere other there).not_local in
          subst (λ (e : Entry). IsAtMost record_there.version e.version) (same_Some any top (sym owned ∙ own))
          (prevails.top_of.above_all record_there (other, there, inl (is, no_change)))
