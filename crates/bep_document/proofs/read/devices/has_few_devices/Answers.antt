use Rattle.std.proofs.Common.{◌≡◌, ◌+◌, false, leb, List, [], ◌∷◌, length, map, drop, ap, sym, ◌∙◌, arith}
use Rattle.bep_document.specs.read.Devices.{with_others, with_devices}
use Rattle.bep_record.specs.declared.limits.TheConstants.{MAX_DEVICES}
use Rattle.bep_document.specs.declared.parts.ShareParts.{ShareParts}
use Rattle.bep_document.proofs.read.DevicesFacts.{devices_grow, not_few, many}
use Rattle.bep_document.proofs.faults.JudgeFacts.{drop_here}
use Rattle.bep_document.proofs.read.devices.has_few_devices.Goals as goal

pub returns-then-not-few : goal.returns-then-not-few
returns-then-not-few c =
    let folders = c.args.folders.now in
    let i = c.loop-folder.folder-index in
    let x = c.folder-item.result in
    let known = c.loop-folder.known.items in
    let next = with_others known (map (λ (share : ShareParts). share.device) x.devices) in
    let cut : drop i folders ≡ x ∷ drop (i + 1) folders = drop_here folders i x c.loop-folder-test.true c.folder-item.is in
    let whole : with_devices next (drop (i + 1) folders) ≡ with_devices [] folders = ap (with_devices known) (sym cut) ∙ c.loop-folder.invariant.rest in
    let told : leb (length next) MAX_DEVICES ≡ false = ap (λ (shares : List ShareParts). leb (length (with_others known (map (λ (share : ShareParts). share.device) shares))) MAX_DEVICES) (sym c.as_slice.ensures) ∙ sym c.in_ok-few.ensures.few ∙ c.if-not-few.true in
    not_few (length (with_devices [] folders)) MAX_DEVICES (omega (arith, many (length next) MAX_DEVICES told, devices_grow next (drop (i + 1) folders), ap length whole))
