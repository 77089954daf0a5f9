use Rattle.std.proofs.Common.{◌≡◌, ◌<◌, ◌+◌, false, ◌∷◌, length, map, drop, ap, sym, ◌∙◌, arith}
use Rattle.bep_document.specs.read.Devices.{is_one_of, with_others}
use Rattle.bep_record.specs.declared.limits.TheConstants.{MAX_DEVICES}
use Rattle.bep_document.specs.declared.parts.ShareParts.{ShareParts}
use Rattle.bep_document.proofs.read.DevicesFacts.{others_more, not_few}
use Rattle.bep_document.proofs.faults.JudgeFacts.{drop_here}
use Rattle.bep_document.proofs.read.devices.add_devices.Goals as goal

pub returns-then-len-eq-MAX_DEVICES-clause-few : goal.returns-then-len-eq-MAX_DEVICES-clause-few
returns-then-len-eq-MAX_DEVICES-clause-few c =
    let shares = c.args.shares.now in
    let i = c.loop-share.share-index in
    let x = c.share-item.result in
    let known = c.loop-share.known.items in
    let others = map (λ (share : ShareParts). share.device) (drop (i + 1) shares) in
    let cut : map (λ (share : ShareParts). share.device) (drop i shares) ≡ x.device ∷ others = ap (map (λ (share : ShareParts). share.device)) (drop_here shares i x c.loop-share-test.true c.share-item.is) in
    let new : is_one_of known x.device ≡ false = ap (λ numbers. is_one_of numbers x.device) (sym c.as_slice.ensures.value) ∙ sym c.is_one_of.ensures ∙ c.if-is_one_of.false in
    let more : length known < length (with_others known (x.device ∷ others)) = others_more known x.device others new in
    let whole : with_others known (x.device ∷ others) ≡ with_others c.args.known.now.items (map (λ (share : ShareParts). share.device) shares) = ap (with_others known) (sym cut) ∙ c.loop-share.invariant.rest in
    not_few (length (with_others c.args.known.now.items (map (λ (share : ShareParts). share.device) shares))) MAX_DEVICES (omega (arith, more, ap length whole))
