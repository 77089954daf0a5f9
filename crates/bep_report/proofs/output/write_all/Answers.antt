use Rattle.std.proofs.Common.{◌-◌, ◌++◌, length, take, drop, sym, ap, subst, ◌∙◌, arith, length-take}
use lib.Seq.{take-add, take-take}
use Rattle.std.specs.Io.KnownBytes.{Appends}
use Rattle.std.proofs.KnownBytes.{Appends-trans}
use Rattle.bep_report.proofs.output.write_all.Goals as goal

pub loop-written-preserved : goal.loop-written-preserved
loop-written-preserved g c =
    let written = c.loop-written.written in
    let count = c.in-Ok.count in
    let bytes = c.args.bytes.now in
    let rest = length-take (length bytes - written) (drop written bytes) in
    let joined = ap (λ more. take written bytes ++ more) (take-take count (length bytes - written) (drop written bytes) (omega (arith, c.in-Ok.ensures.bound))) ∙ sym (take-add written count bytes) in
    record {
      within = omega (arith, c.in-Ok.ensures.bound);
      appended = subst (Appends _ _) joined (Appends-trans _ _ _ _ _ c.loop-written.invariant.appended c.in-Ok.ensures.bytes);
    }
