-- Whether all that a step names is there can be decided.
use Rattle.std.proofs.Common.{◌≡◌, ◌⊎◌, ◌==◌, ◌&&◌, Bool, true, false, List, Contains, refl, subst, inl, inr, ⊎_elim}
use Rattle.std.proofs.lemmas.Bool.{eqb-true, eq-eqb, cases_Bool}
use Rattle.std.specs.List.{list_any}
use Rattle.bep_record.specs.declared.folder_kind.FolderKind.{FolderKind}
use Rattle.bep_model.specs.Tables.{Device, Folder}
use Rattle.bep_machine.specs.declared.step.Step.{Step}
use Rattle.bep_machine.specs.declared.step.Step.TheVariants.{Edit, Remove, Scan, Override, Revert, Connect, Lose, Begin, Deliver, Announce, StartPull, Ask, Finish, Restart, Reset}
use Rattle.bep_machine.specs.Cluster.{Config}
use Rattle.bep_machine.specs.Steps.{SharesFolder, AreLinked, IsThere}
use Rattle.bep_machine.proofs.LinkSteps.{any_from_member, member_from_any}

abbrev pub Decided : Type 0 → Type 0
Decided A = A ⊎ (¬ A)

both_decided : {A B : Type 0} → Decided A → Decided B → Decided (A × B)
both_decided one other =
    ⊎_elim
    (λ a. ⊎_elim (λ b. inl (a, b)) (λ none. inr (λ pair. none pair.1)) other)
    (λ none. inr (λ pair. none pair.0))
    one

either_decided : {A B : Type 0} → Decided A → Decided B → Decided (A ⊎ B)
either_decided one other =
    ⊎_elim
    (λ a. inl (inl a))
    (λ none. ⊎_elim (λ b. inl (inr b)) (λ no_other. inr (λ some. ⊎_elim none no_other some)) other)
    one

-- a test finds what is there, and nothing else
found_or_not : {X : Type 0} {A : Type 0} (test : X → Bool) (xs : List X) → ((x : X) → Contains xs x → test x ≡ true → A) → (A → (x : X) × Contains xs x × (test x ≡ true)) → Decided A
found_or_not test xs use_found finds =
    ⊎_elim
    (λ any. let found = member_from_any test xs any in inl (use_found found.0 found.1 found.2))
    (λ none. inr (λ a. let found = finds a in let any = any_from_member test xs found.0 found.1 found.2 in cc))
    (cases_Bool (list_any test xs))

both_sides : (a b : Bool) → (a && b) ≡ true → (a ≡ true) × (b ≡ true)
both_sides true b both = (refl, both)
both_sides false b both = absurd (cc)

device_decided : (devices : List Device) (device : Device) → Decided (Contains devices device)
device_decided devices device =
    found_or_not (λ one. one == device) devices
    (λ one member same. subst (λ d. Contains devices d) (eqb-true one device same) member)
    (λ member. (device, member, eq-eqb device device refl))

link_decided : (links : List (Device × Device)) (one other : Device) → Decided (Contains links (one, other))
link_decided links one other =
    found_or_not (λ (link : Device × Device). (link.0 == one) && (link.1 == other)) links
    (λ link member same.
    let sides = both_sides (link.0 == one) (link.1 == other) same in
    let first = eqb-true link.0 one sides.0 in
    let second = eqb-true link.1 other sides.1 in
    let pair : link ≡ (one, other) = λ i. (first i, second i) in
    subst (λ l. Contains links l) pair member)
    (λ member. ((one, other), member, λ i. eq-eqb one one refl i && eq-eqb other other refl i))

share_decided : (sharing : List (Device × FolderKind)) (device : Device) → Decided ((kind : FolderKind) × Contains sharing (device, kind))
share_decided sharing device =
    found_or_not (λ (share : Device × FolderKind). share.0 == device) sharing
    (λ share member same.
    let first = eqb-true share.0 device same in
    let pair : share ≡ (device, share.1) = λ i. (first i, share.1) in
    (share.1, subst (λ s. Contains sharing s) pair member))
    (λ shares. ((device, shares.0), shares.1, eq-eqb device device refl))

shares_decided : (config : Config) (device : Device) (folder : Folder) → Decided (SharesFolder config device folder)
shares_decided config device folder = share_decided (config.sharing folder) device

linked_decided : (config : Config) (device other : Device) → Decided (AreLinked config device other)
linked_decided config device other = either_decided (link_decided config.links device other) (link_decided config.links other device)

-- flat triples
all_decided : {A B C : Type 0} → Decided A → Decided B → Decided C → Decided (A × B × C)
all_decided one other third =
    ⊎_elim
    (λ a. ⊎_elim (λ pair. inl (a, pair.0, pair.1)) (λ none. inr (λ all. none (all.1, all.2))) (both_decided other third))
    (λ none. inr (λ all. none all.0))
    one

pub there_decided : (config : Config) (step : Step) → Decided (IsThere config step)
there_decided config (Edit device folder name node) = shares_decided config device folder
there_decided config (Remove device folder name) = shares_decided config device folder
there_decided config (Scan device folder name) = shares_decided config device folder
there_decided config (Override device folder name) = shares_decided config device folder
there_decided config (Revert device folder name) = shares_decided config device folder
there_decided config (Connect one other) = link_decided config.links one other
there_decided config (Lose one other) = link_decided config.links one other
there_decided config (Begin device other) = linked_decided config device other
there_decided config (Deliver device other) = linked_decided config device other
there_decided config (Announce device other folder) = all_decided (linked_decided config device other) (shares_decided config device folder) (shares_decided config other folder)
there_decided config (StartPull device folder name) = shares_decided config device folder
there_decided config (Ask device other folder name) = all_decided (linked_decided config device other) (shares_decided config device folder) (shares_decided config other folder)
there_decided config (Finish device folder name) = shares_decided config device folder
there_decided config (Restart device) = device_decided config.devices device
there_decided config (Reset device id) = device_decided config.devices device
