-- What is settled is calm for the contents of its rows.
use Rattle.std.proofs.Common.{◌≡◌, ◌⊎◌, true, false, List, [], ◌∷◌, Contains, Option, Some, None, refl, sym, ap, subst, ◌∙◌, inl, inr, ⊎_elim}
use Rattle.std.proofs.lemmas.Bool.{cases_Bool, cond-true, cond-false}
use Rattle.std.specs.Ordering.{is_eq}
use Rattle.std.specs.Cmp.{Equal-is}
use Rattle.bep_facts.specs.Members.{not_in_none, Contains-first, Contains-more, Contains-cons_cases}
use Rattle.bep_facts.specs.Options.{none_from_not_some}
use Rattle.bep_facts.specs.Orders.{texts_exact, Equal_from_same, texts_total}
use Rattle.bep_record.specs.declared.entry.Entry.{Entry}
use Rattle.bep_record.specs.declared.node.NodeParts.{NodeParts}
use Rattle.bep_record.specs.Content.{Content, Deleted, content_of}
use Rattle.bep_record.specs.Node.{IsClean}
use Rattle.bep_model.specs.declared.row.Row.{Row}
use Rattle.bep_model.specs.Tables.{Tables, Device, Folder, FileName, Shares}
use Rattle.bep_model.specs.Foreign.{IsHarmless, IsKnown}
use Rattle.bep_model.specs.Settled.{IsSettled, HasRow, OwnAgrees, key_of, key_cmp}
use Rattle.bep_model.specs.Calm.{Contents, OwnIsCalm, WasReset, OnlyReceives, StoreIsCalm, NodeIsCalm, IsCalmBeside, ForeignIsCalm, IsCalmAt, content_due, contents_of}
use Rattle.bep_model.specs.Laws.{SettledIsCalm}

-- a row of the name, and its content is the name's
pub record HasContent (rows : List Row) (folder : Folder) (name : FileName) : Type 0 where
  pub row : Row
  pub member : Contains rows row
  pub key : key_of row ≡ (folder, name)
  pub content : contents_of rows folder name ≡ Some (content_of row.entry)

-- no row of the name, and it has no content
pub record HasNoContent (rows : List Row) (folder : Folder) (name : FileName) : Type 0 where
  pub no_row : ¬ HasRow rows folder name
  pub content : contents_of rows folder name ≡ None

content_here : (row : Row) (more : List Row) (folder : Folder) (name : FileName) → is_eq (key_cmp (key_of row) (folder, name)) ≡ true → HasContent (row ∷ more) folder name
content_here row more folder name here = record {
  row = row;
  member = Contains-first row more;
  key = texts_exact (key_of row) (folder, name) ((Equal-is _).0 here);
  content = cond-true _ _ _ here;
}

content_later : (row : Row) (more : List Row) (folder : Folder) (name : FileName) → is_eq (key_cmp (key_of row) (folder, name)) ≡ false → HasContent more folder name → HasContent (row ∷ more) folder name
content_later row more folder name past later = record {
  row = later.row;
  member = Contains-more row more later.row later.member;
  key = later.key;
  content = cond-false _ _ _ past ∙ later.content;
}

no_content : (row : Row) (more : List Row) (folder : Folder) (name : FileName) → is_eq (key_cmp (key_of row) (folder, name)) ≡ false → HasNoContent more folder name → HasNoContent (row ∷ more) folder name
no_content row more folder name past none = record {
  no_row = λ has.
      ⊎_elim
      (λ same.
      let here : key_of row ≡ (folder, name) = ap key_of same ∙ has.2 in
      let equal = ap is_eq (Equal_from_same texts_total (key_of row) (folder, name) here) in
      cc)
      (λ more_has. none.no_row (has.0, more_has, has.2))
      (Contains-cons_cases row more has.0 has.1);
  content = cond-false _ _ _ past ∙ none.content;
}

pub content_or_none : (rows : List Row) (folder : Folder) (name : FileName) → HasContent rows folder name ⊎ HasNoContent rows folder name
content_or_none [] folder name = inr (record { no_row = λ has. not_in_none has.0 has.1; content = refl })
content_or_none (row ∷ more) folder name =
    ⊎_elim
    (λ here. inl (content_here row more folder name here))
    (λ past.
    ⊎_elim
    (λ later. inl (content_later row more folder name past later))
    (λ none. inr (no_content row more folder name past none))
    (content_or_none more folder name))
    (cases_Bool (is_eq (key_cmp (key_of row) (folder, name))))

own_where_agreed : (reset receives : Type 0) (own : Option Entry) (content : Content) → OwnAgrees own content → OwnIsCalm reset receives own content
own_where_agreed reset receives None content agrees = inl agrees
own_where_agreed reset receives (Some own) content agrees = (inl agrees.0, agrees.1)

node_where_clean : (node : Option NodeParts) (own : Option Entry) → IsClean node own → NodeIsCalm node own
node_where_clean node None clean = tt
node_where_clean node (Some own) clean = clean

beside_where_harmless : (own : Option Entry) (content : Content) (entry : Entry) → OwnAgrees own content → IsHarmless own content entry → IsCalmBeside own content entry
beside_where_harmless None content entry agrees harmless = harmless
beside_where_harmless (Some own) content entry agrees harmless = ⊎_elim (λ has. inl has) (λ below. inr (agrees.0, below)) harmless

calm_at_row : (t : Tables) (rows : List Row) (contents : Contents) (reset : List Device) → IsSettled t rows → (row : Row) (device : Device) → Contains rows row → Shares t device row.folder → contents row.folder row.entry.name ≡ Some (content_of row.entry) → IsCalmAt t contents reset device row.folder row.entry.name
calm_at_row t rows contents reset settled row device member shares e =
    let due : content_of row.entry ≡ content_due (contents row.folder row.entry.name) = sym (ap content_due e) in
    let store = settled.store row device member shares in
    let agrees = settled.own row device member shares in
    record {
      own = subst (λ content. OwnIsCalm (WasReset reset device) (OnlyReceives t device row.folder) (t.own device row.folder row.entry.name) content) due
          (own_where_agreed _ _ _ _ agrees);
      store = subst (λ content. StoreIsCalm (t.node device row.folder row.entry.name) content) due store.holds;
      node = node_where_clean _ _ store.clean;
      foreign = subst (λ content. ForeignIsCalm t device row.folder row.entry.name content) due
          (λ entry is_foreign. beside_where_harmless _ _ entry agrees (settled.foreign row device member shares entry is_foreign));
      unlisted = λ none. absurd (cc);
    }

-- nothing is recorded or held, and nothing is due
own_of_nothing : (reset receives : Type 0) (own : Option Entry) (content : Content) → own ≡ None → content ≡ Deleted → OwnIsCalm reset receives own content
own_of_nothing reset receives None content none due = inl due
own_of_nothing reset receives (Some own) content none due = absurd (cc)

store_of_nothing : (node : Option NodeParts) (content : Content) → node ≡ None → content ≡ Deleted → StoreIsCalm node content
store_of_nothing None content none due = sym due
store_of_nothing (Some node) content none due = absurd (cc)

node_of_nothing : (node : Option NodeParts) (own : Option Entry) → node ≡ None → own ≡ None → NodeIsCalm node own
node_of_nothing None None no_node no_own = tt
node_of_nothing (Some node) own no_node no_own = absurd (cc)
node_of_nothing None (Some own) no_node no_own = absurd (cc)

calm_where_unknown : (t : Tables) (contents : Contents) (reset : List Device) (device : Device) (folder : Folder) (name : FileName) → Shares t device folder → ¬ IsKnown t folder name → contents folder name ≡ None → IsCalmAt t contents reset device folder name
calm_where_unknown t contents reset device folder name shares unknown e =
    let due : content_due (contents folder name) ≡ Deleted = ap content_due e in
    let no_node = none_from_not_some (t.node device folder name) (λ some. unknown (device, shares, inl some)) in
    let no_own = none_from_not_some (t.own device folder name) (λ some. unknown (device, shares, inr (inl some))) in
    record {
      own = own_of_nothing _ _ _ _ no_own due;
      store = store_of_nothing _ _ no_node due;
      node = node_of_nothing _ _ no_node no_own;
      foreign = λ entry is_foreign. absurd (unknown (device, shares, inr (inr (entry, is_foreign))));
      unlisted = λ _. record { own = no_own; foreign = λ entry is_foreign. unknown (device, shares, inr (inr (entry, is_foreign))) };
    }

pub settled_is_calm_lem : SettledIsCalm
settled_is_calm_lem t rows reset settled device folder name shares =
    ⊎_elim
    (λ some.
    subst (λ (key : Folder × FileName). Shares t device key.0 → contents_of rows key.0 key.1 ≡ Some (content_of some.row.entry) → IsCalmAt t (contents_of rows) reset device key.0 key.1)
    some.key
    (λ shares content. calm_at_row t rows (contents_of rows) reset settled some.row device some.member shares content)
    shares some.content)
    (λ none. calm_where_unknown t (contents_of rows) reset device folder name shares (λ known. none.no_row ((settled.certificate.names folder name).0 known)) none.content)
    (content_or_none rows folder name)
