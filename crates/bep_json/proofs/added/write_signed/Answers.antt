use Rattle.std.proofs.lemmas.Int.{to_z-of_z}
use mir.Syntax.{w64}
use mir.Val.{SFits}
use Rattle.bep_json.proofs.AddedFacts.{signed_added}
use Rattle.bep_json.proofs.added.write_signed.Goals as goal

pub returns : goal.returns
returns c =
    let fits : SFits w64 c.args.number = c.ranges.number in
    let written = c.in_ok-i64.ensures in
    signed_added c.args.number fits (simp to_z-of_z at written)
