use Rattle.std.proofs.Common.{◌≡◌, ◌==◌, Bool, true, false, cond, [], ◌∷◌, Contains, Option, Some, None, IsSome, is_some, inl, inr, refl, sym, ap, subst, ◌∙◌, ⊎_elim, ◌<◌, arith}
use Rattle.std.proofs.lemmas.Bool.{cases_Bool, cond-false}
use Rattle.std.specs.Ordering.{is_eq}
use Rattle.std.specs.declared.cmp.Ordering.TheVariants.{Less}
use Rattle.std.specs.Cmp.{Equal-is}
use Rattle.bep_facts.specs.Members.{not_in_none, Contains-first, Contains-one, Contains-pair_cases}
use Rattle.bep_facts.specs.Orders.{texts_exact}
use Rattle.bep_record.specs.declared.entry.Entry.{Entry}
use Rattle.bep_record.specs.Content.{Deleted, content_of}
use Rattle.bep_choice.specs.Choice.{Candidate, IsDominated, IsNotBehind}
use Rattle.bep_record.specs.declared.folder_kind.FolderKind.TheVariants.{SendReceive}
use Rattle.bep_model.specs.declared.row.Row.{Row}
use Rattle.bep_model.specs.Tables.{Device, Folder, FileName}
use Rattle.bep_model.specs.Foreign.{IsKnown, IsForeign}
use Rattle.bep_model.specs.Winner.{IsWinner}
use Rattle.bep_model.specs.Settled.{HasRow, OwnAgrees, StoreAgrees, key_of, key_cmp}
use Rattle.bep_model.specs.Examples.{folder_f, name_a, by_one, deletion, shared_deletion, row_of, place_of_name}
use Rattle.bep_model.specs.Reasons.{AsksAt, place_cmp}
use Rattle.bep_model.specs.Verdict.{number_of}
use Rattle.bep_model.specs.declared.reason.Reason.{Reason}
use Rattle.bep_model.specs.declared.reason.Reason.TheVariants.{CertificateOrder, NameMissing}
use Rattle.bep_model.proofs.examples.deletion_known_by_two.Goals as goal

abbrev gone : Entry
gone = deletion by_one

abbrev row : Row
row = row_of 1 gone

is_the_row : (other : Row) → Contains (row ∷ []) other → row ≡ other
is_the_row = Contains-one row

nothing_foreign : (device : Device) (folder : Folder) (name : FileName) (entry : Entry) → ¬ IsForeign shared_deletion device folder name entry
nothing_foreign device folder name entry foreign =
    ⊎_elim
    (λ viewed. let e = viewed.1 in cc)
    (λ others.
    ⊎_elim
    (λ flying. not_in_none flying.flight flying.sent)
    (λ target. cc)
    others)
    foreign.known_by

-- an own record is of the one name
of_the_name : (device : Device) (folder : Folder) (name : FileName) → IsSome (shared_deletion.own device folder name) → ◌≡◌ {A = Folder × FileName} (folder, name) (folder_f, name_a)
of_the_name device folder name some =
    ⊎_elim
    (λ here. texts_exact (folder, name) (folder_f, name_a) ((Equal-is _).0 here))
    (λ past. let none = ap is_some (sym (cond-false _ _ _ past)) ∙ some in absurd (cc))
    (cases_Bool (is_eq (key_cmp (folder, name) (folder_f, name_a))))

known_is_the_name : (folder : Folder) (name : FileName) → IsKnown shared_deletion folder name → ◌≡◌ {A = Folder × FileName} (folder, name) (folder_f, name_a)
known_is_the_name folder name known =
    ⊎_elim
    (λ node. absurd (cc))
    (λ others.
    ⊎_elim
    (λ own. of_the_name known.0 folder name own)
    (λ foreign. absurd (nothing_foreign known.0 folder name foreign.0 foreign.1))
    others)
    known.2

known_has_row : (folder : Folder) (name : FileName) → IsKnown shared_deletion folder name → HasRow (row ∷ []) folder name
known_has_row folder name known = (row, Contains-first row [], sym (known_is_the_name folder name known))

row_is_known : (folder : Folder) (name : FileName) → HasRow (row ∷ []) folder name → IsKnown shared_deletion folder name
row_is_known folder name has =
    let key = ap key_of (is_the_row has.0 has.1) ∙ has.2 in
    (1, (SendReceive, Contains-first (1, SendReceive) ((2, SendReceive) ∷ [])), inr (inl (subst (λ (k : Folder × FileName). IsSome (shared_deletion.own 1 k.0 k.1)) key refl)))

same_either : (first : Bool) → cond first (Some gone) (Some gone) ≡ Some gone
same_either true = refl
same_either false = refl

wins : IsWinner shared_deletion folder_f name_a (1, gone)
wins = record {
  left = record {
    valid = (Contains-first (1, gone) ((2, gone) ∷ []), refl);
    undominated = λ other member dominated.
        let below : IsDominated gone gone =
        ⊎_elim
        (λ same. subst (λ (c : Candidate). IsDominated gone c.1) (sym same) dominated)
        (λ same. subst (λ (c : Candidate). IsDominated gone c.1) (sym same) dominated)
        (Contains-pair_cases (1, gone) (2, gone) other member) in
        below.1.1 below.1.0;
  };
  first = λ other left.
      ⊎_elim
      (λ same. subst (λ (c : Candidate). IsNotBehind 1 (1, gone) c) same (λ e. cc))
      (λ same. subst (λ (c : Candidate). IsNotBehind 1 (1, gone) c) same (λ e. cc))
      (Contains-pair_cases (1, gone) (2, gone) other left.valid.0);
}

pub returns-clause-settled : goal.returns-clause-settled
returns-clause-settled c = record {
  certificate = record {
    rise = tt;
    names = λ folder name. (known_has_row folder name, row_is_known folder name);
    winners = λ other member. subst (λ (r : Row). IsWinner shared_deletion r.folder r.entry.name (r.device, r.entry)) (is_the_row other member) wins;
  };
  own = λ other device member shares.
      subst (λ (r : Row). OwnAgrees (shared_deletion.own device r.folder r.entry.name) (content_of r.entry)) (is_the_row other member)
      (subst (λ (own : Option Entry). OwnAgrees own Deleted) (sym (same_either (device == 1))) (refl, refl));
  store = λ other device member shares.
      subst (λ (r : Row). StoreAgrees None (shared_deletion.own device r.folder r.entry.name) (content_of r.entry)) (is_the_row other member)
      (subst (λ (own : Option Entry). StoreAgrees None own Deleted) (sym (same_either (device == 1))) (record { holds = refl; clean = refl }));
  foreign = λ other device member shares entry foreign. absurd (nothing_foreign device _ _ entry foreign);
}

-- before the name there is nothing that is known
asks_before : (folder : Folder) (name : FileName) (device : Option Device) → place_cmp (record { folder = folder; name = name; device = device }) place_of_name ≡ Less → AsksAt shared_deletion [] NameMissing folder name device
asks_before folder name None less = λ known.
    let here =
    subst
    (λ (k : Folder × FileName). place_cmp (record { folder = k.0; name = k.1; device = None }) place_of_name ≡ Less)
    (known_is_the_name folder name known)
    less in
    absurd (cc)
asks_before folder name (Some device) less = λ row member. absurd (not_in_none row member)

-- without rows nothing is out of order
asks_order : (reason : Reason) (folder : Folder) (name : FileName) (device : Option Device) → number_of reason < 2 → AsksAt shared_deletion [] reason folder name device
asks_order CertificateOrder folder name None less = λ e. cc
asks_order CertificateOrder folder name (Some device) less = λ row member. absurd (not_in_none row member)
asks_order _ folder name device less = absurd (omega arith)

pub returns-clause-without_the_row : goal.returns-clause-without_the_row
returns-clause-without_the_row c = record {
  fails = λ asks.
      let has = asks (row_is_known folder_f name_a (row, Contains-first row [], refl)) in
      not_in_none has.0 has.1;
  least = λ lesser any less. asks_order lesser any.folder any.name any.device less;
  first = λ earlier less. asks_before earlier.folder earlier.name earlier.device less;
}
