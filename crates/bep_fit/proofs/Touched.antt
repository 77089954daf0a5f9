-- What a step touches it names, save the links of a device that restarts or is reset.
use Rattle.std.proofs.Common.{◌≡◌, ◌⊎◌, ◌==◌, ◌&&◌, Bool, true, false, nat_lt, if◌then◌else◌, List, [], ◌∷◌, Option, Contains, refl, sym, subst, inl, inr, eqb-true}
use Rattle.std.proofs.lemmas.Bool.{and_parts}
use Rattle.bep_facts.specs.Members.{Contains-first, Contains-more}
use Rattle.bep_model.specs.Tables.{Device}
use Rattle.bep_machine.specs.declared.step.Step.{Step}
use Rattle.bep_machine.specs.declared.step.Step.TheVariants.{Edit, Remove, Scan, Override, Revert, Connect, Lose, Begin, Deliver, Announce, StartPull, Ask, Finish, Restart, Reset}
use Rattle.bep_machine.specs.declared.logged.Traffic.{Traffic}
use Rattle.bep_machine.specs.Halves.{Guards, OfDevice, OfDeviceAndLink, OfLink, OfDeviceAndLinks, LinkHalf, guards_of, touches_device, touches_link}
use Rattle.bep_machine.specs.Link.{Link, lost}
use Rattle.bep_fit.specs.declared.object.Object.{Object}
use Rattle.bep_fit.specs.declared.object.Object.TheVariants as objects
use Rattle.bep_fit.specs.Logs.{link_of, named_by}

-- the device is the first that is named
first_named : (device one : Device) (more : List Object) → (one == device) ≡ true → Contains (objects.Device device ∷ more) (objects.Device one)
first_named device one more is =
    subst (λ (d : Device). Contains (objects.Device d ∷ more) (objects.Device one)) (eqb-true one device is) (Contains-first (objects.Device one) more)

pub device_named : (guards : Guards) (one : Device) → touches_device guards one ≡ true → Contains (named_by guards) (objects.Device one)
device_named (OfDevice device) one is = first_named device one [] is
device_named (OfDeviceAndLink device other) one is = first_named device one (link_of device other ∷ []) is
device_named (OfLink lower upper) one is = absurd (cc)
device_named (OfDeviceAndLinks device) one is = first_named device one [] is

same_link : (a b lower upper : Device) → ((a == lower) && (b == upper)) ≡ true → objects.Link lower upper ≡ objects.Link a b
same_link a b lower upper is =
    let parts = and_parts (a == lower) (b == upper) is in
    let low : a ≡ lower = eqb-true a lower parts.0 in
    let up : b ≡ upper = eqb-true b upper parts.1 in
    λ i. objects.Link (sym low i) (sym up i)

-- the link between a device and another one
link_same : (device other a b : Device) (lt : Bool) → (if lt then (a == device) && (b == other) else (a == other) && (b == device)) ≡ true →
    (if lt then objects.Link device other else objects.Link other device) ≡ objects.Link a b
link_same device other a b true is = same_link a b device other is
link_same device other a b false is = same_link a b other device is

-- the guards are those of a restart or a reset
abbrev OfAllLinks : Guards → Type 0
OfAllLinks guards = (device : Device) × (guards ≡ OfDeviceAndLinks device)

link_named_by : (guards : Guards) (a b : Device) → touches_link guards a b ≡ true → Contains (named_by guards) (objects.Link a b) ⊎ OfAllLinks guards
link_named_by (OfDevice device) a b is = absurd (cc)
link_named_by (OfDeviceAndLink device other) a b is =
    inl (Contains-more (objects.Device device) (link_of device other ∷ []) (objects.Link a b) (subst (Contains (link_of device other ∷ [])) (link_same device other a b (nat_lt device other) is) (Contains-first (link_of device other) [])))
link_named_by (OfLink lower upper) a b is = inl (subst (Contains (objects.Link lower upper ∷ [])) (same_link a b lower upper is) (Contains-first (objects.Link lower upper) []))
link_named_by (OfDeviceAndLinks device) a b is = inr (device, refl)

-- the step loses each link that it touches
abbrev pub LosesLinks : Step → Type 0
LosesLinks step = (traffic : Option Traffic) (old new : Link) → new ≡ lost old → LinkHalf step traffic old new

loses_links : (step : Step) (device : Device) → guards_of step ≡ OfDeviceAndLinks device → LosesLinks step
loses_links (Edit one folder name node) device is = absurd (cc)
loses_links (Remove one folder name) device is = absurd (cc)
loses_links (Scan one folder name) device is = absurd (cc)
loses_links (Override one folder name) device is = absurd (cc)
loses_links (Revert one folder name) device is = absurd (cc)
loses_links (Connect one other) device is = absurd (cc)
loses_links (Lose one other) device is = absurd (cc)
loses_links (Begin one other) device is = absurd (cc)
loses_links (Deliver one other) device is = absurd (cc)
loses_links (Announce one other folder) device is = absurd (cc)
loses_links (StartPull one folder name) device is = absurd (cc)
loses_links (Ask one other folder name) device is = absurd (cc)
loses_links (Finish one folder name) device is = absurd (cc)
loses_links (Restart one) device is = λ traffic old new loses. loses
loses_links (Reset one id) device is = λ traffic old new loses. loses

pub link_named : (step : Step) (a b : Device) → touches_link (guards_of step) a b ≡ true → Contains (named_by (guards_of step)) (objects.Link a b) ⊎ LosesLinks step
link_named step a b is = elim (link_named_by (guards_of step) a b is) [ inl named ↦ inl named | inr all ↦ inr (loses_links step all.0 all.1) ]
