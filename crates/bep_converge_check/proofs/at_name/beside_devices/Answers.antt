use Rattle.std.proofs.Common.{◌≡◌, ◌↔◌, List, Some, sym, subst}
use Rattle.bep_tables.specs.declared.share.Share.{Share}
use Rattle.bep_tables.specs.Cut.{tables_of}
use Rattle.bep_model.specs.Tables.{Device, Folder, FileName, Shares}
use Rattle.bep_audit.proofs.CutFacts.{devices_rise}
use Rattle.bep_converge.specs.declared.converge_reason.ConvergeReason.{ConvergeReason}
use Rattle.bep_converge.specs.ConvergeReasons.{AsksThere}
use Rattle.bep_converge_check.specs.Hindrance.{Hinder}
use Rattle.bep_converge_check.specs.inner.Found.{FindsHinder}
use Rattle.bep_converge_check.specs.inner.Unmet.{IsMetBy}
use Rattle.bep_converge_check.proofs.NameSays.{met_exactly}
use Rattle.bep_converge_check.proofs.AtName.{all_met, one_unmet}
use Rattle.bep_converge_check.proofs.at_name.beside_devices.Goals as goal

pub first_unmet-requires : goal.first_unmet-requires
first_unmet-requires c = devices_rise c.cut_says.ensures c.args.cut.now c.shares.ensures.a_cut c.args.folder.now c.shares.result.now c.shares.ensures.value

pub returns-in-None : goal.returns-in-None
returns-in-None c =
    let cut = c.args.cut.now in
    let t = tables_of cut in
    let key : Folder × FileName = (c.args.folder.now, c.args.name.now) in
    let top = c.args.top.now in
    let in_line = c.requires.in_line in
    let agree = c.requires.agree in
    let met = subst (λ (shares : List Share). (reason : ConvergeReason) (device : Device) → IsMetBy top key.1 shares reason device ↔ (Shares t device key.0 → AsksThere t reason key.0 key.1 device)) (sym c.shares.ensures.value)
    (met_exactly c.cut_says.ensures cut c.shares.ensures.a_cut key.0 key.1 top c.requires.top agree) in
    all_met t key c.requires.known top c.requires.top in_line agree top key.1 c.shares.result.now met c.in-None.ensures

pub returns-in-Some : goal.returns-in-Some
returns-in-Some c =
    let cut = c.args.cut.now in
    let t = tables_of cut in
    let key : Folder × FileName = (c.args.folder.now, c.args.name.now) in
    let top = c.args.top.now in
    let in_line = c.requires.in_line in
    let agree = c.requires.agree in
    let met = subst (λ (shares : List Share). (reason : ConvergeReason) (device : Device) → IsMetBy top key.1 shares reason device ↔ (Shares t device key.0 → AsksThere t reason key.0 key.1 device)) (sym c.shares.ensures.value)
    (met_exactly c.cut_says.ensures cut c.shares.ensures.a_cut key.0 key.1 top c.requires.top agree) in
    subst (λ (one : Hinder). FindsHinder t (λ k. k ≡ key) (Some one)) (sym c.at_device.ensures)
    (one_unmet t key c.requires.known top c.requires.top in_line agree top key.1 c.shares.result.now met c.in-Some.one.0 c.in-Some.one.1 c.in-Some.ensures)
