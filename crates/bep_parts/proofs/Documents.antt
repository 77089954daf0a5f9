-- A cut that was made of another one by names says what that one says of these names.
use Rattle.std.proofs.Common.{◌≡◌, Bool, true, false, cond, List, [], ◌∷◌, ◌++◌, map, Option, Some, None, option_map, option_and_then, unwrap_or, refl, sym, ap, subst, ◌∙◌}
use Rattle.std.specs.Prelude.{⊤}
use Rattle.std.specs.List.{AllZip, find}
use Rattle.std.specs.Ordering.{nat_cmp, is_eq}
use Rattle.std.specs.Cmp.{Equal-is}
use Rattle.std.specs.Cmp.Lexicographic.{slice_cmp}
use Rattle.std.specs.FinMap.{get}
use Rattle.std.proofs.lemmas.List.{map-append}
use Rattle.std.proofs.lemmas.Map.Lookups.{exact_bytes}
use Rattle.bep_record.specs.declared.folder_kind.FolderKind.{FolderKind}
use Rattle.bep_model.specs.declared.flight.Flight.{Flight}
use Rattle.bep_model.specs.Tables.{Device, Folder, FileName}
use Rattle.bep_tables.specs.declared.share.PeerView.{PeerView}
use Rattle.bep_tables.specs.declared.share.Share.{Share}
use Rattle.bep_tables.specs.declared.share.SharedFolder.{SharedFolder}
use Rattle.bep_tables.specs.declared.link.LinkState.{LinkState}
use Rattle.bep_tables.specs.declared.cut.CutParts.{CutParts}
use Rattle.bep_tables.specs.Cut.{ends_cmp, ends_of, flights_of, is_device, is_folder, link_of, share_of, shares_of, tables_of, view_of}
use Rattle.bep_parts.specs.Parts.{Keeps, flight_of, if_kept}
use Rattle.bep_parts.specs.Document.{IsCutOf, IsFolderOf, IsLinkOf, IsShareOf, IsViewOf}
use Rattle.bep_parts.specs.Laws.{DocumentsSayOnly}

-- ---- what is found in lists whose elements go in pairs

-- both have none, or both have one and these are a pair
Paired : {X : Type 0} → (X → X → Type 0) → Option X → Option X → Type 0
Paired R None None = ⊤
Paired R None (Some y) = ⊥
Paired R (Some x) None = ⊥
Paired R (Some x) (Some y) = R x y

-- a pair that a test finds
record IsFound {X : Type 0} (R : X → X → Type 0) (test : X → Bool) (x y : X) : Type 0 where
  pair : R x y
  passes : test x ≡ true

found_pair : {X : Type 0} (R : X → X → Type 0) (test : X → Bool) → ((x y : X) → R x y → test y ≡ test x) → (xs ys : List X) → AllZip R xs ys → Paired (IsFound R test) (find test xs) (find test ys)
unfolding Paired
found_pair R test same [] [] pairs = tt
found_pair R test same [] (y ∷ ys) pairs = absurd pairs
found_pair R test same (x ∷ xs) [] pairs = absurd pairs
found_pair R test same (x ∷ xs) (y ∷ ys) pairs = cases (test x) refl (test y) (same x y pairs.0) (found_pair R test same xs ys pairs.1)
  where
    cases : (b : Bool) → test x ≡ b → (c : Bool) → c ≡ test x → Paired (IsFound R test) (find test xs) (find test ys) → Paired (IsFound R test) (cond b (Some x) (find test xs)) (cond c (Some y) (find test ys))
    cases true is true also rest = record { pair = pairs.0; passes = is }
    cases true is false also rest = absurd (cc)
    cases false is true also rest = absurd (cc)
    cases false is false also rest = rest

-- what is looked up in a pair
none_kept : {V : Type 0} (kept : Bool) → ◌≡◌ {A = Option V} None (if_kept kept None)
none_kept true = refl
none_kept false = refl

looked_up : {X V : Type 0} (R : X → X → Type 0) (test : X → Bool) (kept : Bool) (f : X → Option V) → ((x y : X) → R x y → f y ≡ if_kept kept (f x)) → (o p : Option X) → Paired (IsFound R test) o p → option_and_then f p ≡ if_kept kept (option_and_then f o)
unfolding Paired
looked_up R test kept f says None None pair = none_kept kept
looked_up R test kept f says None (Some y) pair = absurd pair
looked_up R test kept f says (Some x) None pair = absurd pair
looked_up R test kept f says (Some x) (Some y) pair = says x y pair.pair

-- ---- folders and shares

shares_in : (keeps : Keeps) (folder : Folder) (o p : Option SharedFolder) → Paired (IsFound (IsFolderOf keeps) (is_folder folder)) o p →
    AllZip (IsShareOf (keeps folder)) (unwrap_or (option_map (λ (shared : SharedFolder). shared.shares) o) []) (unwrap_or (option_map (λ (shared : SharedFolder). shared.shares) p) [])
unfolding Paired
shares_in keeps folder None None pair = tt
shares_in keeps folder None (Some y) pair = absurd pair
shares_in keeps folder (Some x) None pair = absurd pair
shares_in keeps folder (Some x) (Some y) pair =
    subst (λ (f : Folder). AllZip (IsShareOf (keeps f)) x.shares y.shares) (exact_bytes x.folder folder ((Equal-is _).0 pair.passes)) pair.pair.shares

abbrev device_of : Share → Device × FolderKind
device_of share = (share.device, share.kind)

same_kinds : (kept : FileName → Bool) (whole part : List Share) → AllZip (IsShareOf kept) whole part → map device_of part ≡ map device_of whole
same_kinds kept [] [] pairs = refl
same_kinds kept [] (y ∷ ys) pairs = absurd pairs
same_kinds kept (x ∷ xs) [] pairs = absurd pairs
same_kinds kept (x ∷ xs) (y ∷ ys) pairs = λ i. (pairs.0.device i, pairs.0.kind i) ∷ same_kinds kept xs ys pairs.1 i

module _ (keeps : Keeps) (whole part : CutParts) (is : IsCutOf keeps whole part) where
  shares_pair : (folder : Folder) → AllZip (IsShareOf (keeps folder)) (shares_of folder whole.folders) (shares_of folder part.folders)
  shares_pair folder =
      shares_in keeps folder (find (is_folder folder) whole.folders) (find (is_folder folder) part.folders)
      (found_pair (IsFolderOf keeps) (is_folder folder) (λ x y one. ap (λ (f : Folder). is_eq (slice_cmp nat_cmp f folder)) one.folder) whole.folders part.folders is.folders)

  -- what is looked up of a device in a folder
  at_share : {V : Type 0} (device : Device) (folder : Folder) (kept : Bool) (f : Share → Option V) → ((x y : Share) → IsShareOf (keeps folder) x y → f y ≡ if_kept kept (f x)) →
      option_and_then f (share_of device (shares_of folder part.folders)) ≡ if_kept kept (option_and_then f (share_of device (shares_of folder whole.folders)))
  at_share device folder kept f says =
      looked_up (IsShareOf (keeps folder)) (is_device device) kept f says (share_of device (shares_of folder whole.folders)) (share_of device (shares_of folder part.folders))
      (found_pair (IsShareOf (keeps folder)) (is_device device) (λ x y one. ap (λ (d : Device). is_eq (nat_cmp d device)) one.device) (shares_of folder whole.folders) (shares_of folder part.folders) (shares_pair folder))

  in_view : (kept : FileName → Bool) (of : Device) (name : FileName) (x y : Share) → IsShareOf kept x y →
      option_and_then (λ (view : PeerView). get view.records name) (view_of of y.views) ≡ if_kept (kept name) (option_and_then (λ (view : PeerView). get view.records name) (view_of of x.views))
  in_view kept of name x y one =
      looked_up (IsViewOf kept) (λ (view : PeerView). is_eq (nat_cmp view.of of)) (kept name) (λ (view : PeerView). get view.records name) (λ v w two. two.records name) (view_of of x.views) (view_of of y.views)
      (found_pair (IsViewOf kept) (λ (view : PeerView). is_eq (nat_cmp view.of of)) (λ v w two. ap (λ (d : Device). is_eq (nat_cmp d of)) two.of) x.views y.views one.views)

  -- ---- links

  queue_in : (test : LinkState → Bool) (queue : LinkState → List Flight) → ((x y : LinkState) → IsLinkOf keeps x y → queue y ≡ map (flight_of keeps) (queue x)) →
      (o p : Option LinkState) → Paired (IsFound (IsLinkOf keeps) test) o p → unwrap_or (option_map queue p) [] ≡ map (flight_of keeps) (unwrap_or (option_map queue o) [])
  unfolding Paired
  queue_in test queue says None None pair = refl
  queue_in test queue says None (Some y) pair = absurd pair
  queue_in test queue says (Some x) None pair = absurd pair
  queue_in test queue says (Some x) (Some y) pair = says x y pair.pair

  at_link : (a b : Device) (queue : LinkState → List Flight) → ((x y : LinkState) → IsLinkOf keeps x y → queue y ≡ map (flight_of keeps) (queue x)) →
      unwrap_or (option_map queue (link_of a b part.links)) [] ≡ map (flight_of keeps) (unwrap_or (option_map queue (link_of a b whole.links)) [])
  at_link a b queue says =
      queue_in (λ (link : LinkState). is_eq (ends_cmp (ends_of link) (a, b))) queue says (link_of a b whole.links) (link_of a b part.links)
      (found_pair (IsLinkOf keeps) (λ (link : LinkState). is_eq (ends_cmp (ends_of link) (a, b))) (λ x y one i. is_eq (ends_cmp (one.a i, one.b i) (a, b))) whole.links part.links is.links)

  same_flying : (from to : Device) → flights_of from to part.links ≡ map (flight_of keeps) (flights_of from to whole.links)
  same_flying from to =
      (λ i. at_link from to (λ (link : LinkState). link.to_b) (λ x y one. one.to_b) i ++ at_link to from (λ (link : LinkState). link.to_a) (λ x y one. one.to_a) i)
      ∙ sym (map-append (flight_of keeps) (unwrap_or (option_map (λ (link : LinkState). link.to_b) (link_of from to whole.links)) []) (unwrap_or (option_map (λ (link : LinkState). link.to_a) (link_of to from whole.links)) []))

pub documents_say_only : DocumentsSayOnly
unfolding tables_of
documents_say_only keeps whole part is =
    λ i. record {
      sharing = λ folder. same_kinds (keeps folder) (shares_of folder whole.folders) (shares_of folder part.folders) (shares_pair keeps whole part is folder) i;
      own = λ device folder name. at_share keeps whole part is device folder (keeps folder name) (λ (share : Share). get share.own name) (λ x y one. one.own name) i;
      node = λ device folder name. at_share keeps whole part is device folder (keeps folder name) (λ (share : Share). get share.store name) (λ x y one. one.store name) i;
      viewed = λ device of folder name.
          at_share keeps whole part is device folder (keeps folder name)
          (λ (share : Share). option_and_then (λ (view : PeerView). get view.records name) (view_of of share.views))
          (λ x y one. in_view keeps whole part is (keeps folder) of name x y one)
          i;
      target = λ device folder name. at_share keeps whole part is device folder (keeps folder name) (λ (share : Share). get share.pulls name) (λ x y one. one.pulls name) i;
      flying = λ from to. same_flying keeps whole part is from to i;
    }
