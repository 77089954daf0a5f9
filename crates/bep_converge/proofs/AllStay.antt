-- Where all came to the top, and each device has a record of what is deleted, nothing changes any more.
use Rattle.std.proofs.Common.{◌≡◌, ◌∙◌, Option, Some, None, true, sym, subst, inr, ⊎_elim}
use Rattle.bep_record.specs.declared.entry.Entry.{Entry}
use Rattle.bep_model.specs.Tables.{Device, Folder, Shares}
use Rattle.bep_model.specs.Foreign.{IsKnown}
use Rattle.bep_machine.specs.Cluster.{Config, Cluster}
use Rattle.bep_machine.specs.Said.{tables_of_cluster}
use Rattle.bep_machine.specs.Steps.{SharesFolder}
use Rattle.bep_converge.specs.Prevails.{IsAtTop, AllPrevail}
use Rattle.bep_converge.specs.Rises.{GoesOnPrevailing}
use Rattle.bep_converge.specs.Ended.{IsEnded, HearsOfNone}
use Rattle.bep_converge.specs.Laws.{EndIsFirm, PrevailingIsUnique}
use Rattle.bep_converge.specs.Arrival.{HaveDeletions, AllStay}
use Rattle.bep_converge.proofs.ConvergeFaultless.{deleted_too}

hears_of_none : PrevailingIsUnique → (cluster later : Cluster) → AllPrevail (tables_of_cluster cluster) → HaveDeletions (tables_of_cluster cluster) → GoesOnPrevailing (tables_of_cluster cluster) (tables_of_cluster later) →
    ((device : Device) (folder : Folder) → Shares (tables_of_cluster later) device folder → Shares (tables_of_cluster cluster) device folder) → IsEnded (tables_of_cluster later) → HearsOfNone (tables_of_cluster later)
hears_of_none unique cluster later all have goes before ended device folder name entry shares none foreign =
    let known : IsKnown (tables_of_cluster later) folder name = (device, shares, inr (inr (entry, foreign))) in
    let top = ended.all folder name known in
    let at : IsAtTop None top.0 = subst (λ (o : Option Entry). IsAtTop o top.0) none (ended.at_top folder name top.0 top.1 device shares) in
    let was = all folder name (goes.names folder name known) in
    let same = unique (tables_of_cluster later) folder name top.0 was.0 top.1 (goes.same folder name was.0 was.1) in
    let deleted : was.0.deleted ≡ true = deleted_too top.0 was.0 same.1 at in
    let shared = before device folder shares in
    absurd
    (⊎_elim
    (λ stays. have folder name was.0 device was.1 deleted shared (sym stays.0 ∙ none))
    (λ rises. let both : Some rises.own ≡ None = sym rises.recorded ∙ none in cc)
    (goes.rise device folder name shared))

pub all_stay_lem : PrevailingIsUnique → EndIsFirm → AllStay
all_stay_lem unique firm cluster most rows all have arrive winners =
    let before : (device : Device) (folder : Folder) → Shares (tables_of_cluster arrive.later) device folder → Shares (tables_of_cluster cluster) device folder = λ device folder.
    subst (λ (c : Config). SharesFolder c device folder → Shares (tables_of_cluster cluster) device folder) (sym arrive.config) (λ shares. shares) in
    firm (tables_of_cluster arrive.later) rows arrive.ended (hears_of_none unique cluster arrive.later all have arrive.goes before arrive.ended) winners
