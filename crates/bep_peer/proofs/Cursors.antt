-- The cursors of a session before its ClusterConfig came.
use Rattle.std.proofs.Common.{◌≡◌, Bool, false, Result, Ok, Err, Some, IfOk, OnErr, sym, ap, ◌∙◌}
use Rattle.std.specs.Ordering.{nat_cmp}
use Rattle.std.specs.Cmp.Lexicographic.{slice_cmp}
use Rattle.std.specs.FinMap.{empty, get, get-empty}
use Rattle.bep_map.specs.NameMap.{ByName}
use Rattle.bep_index.specs.declared.send.Plan.{Plan}
use Rattle.bep_model.specs.Tables.{Folder}

-- none is replaced, since none is there
pub still_unnamed : (configured : Bool) (old new : ByName Plan) (folder : Folder) (done : Result Plan Plan) → (configured ≡ false → old ≡ empty) → IfOk done (λ had. get old folder ≡ Some had) → OnErr done (new ≡ old) → configured ≡ false → new ≡ empty
still_unnamed configured old new folder (Ok had) none has same off =
    let e = sym has ∙ ap (λ cursors. get cursors folder) (none off) ∙ get-empty (slice_cmp nat_cmp) folder in absurd (cc)
still_unnamed configured old new folder (Err back) none has same off = same ∙ none off
