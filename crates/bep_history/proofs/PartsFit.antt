-- The parts of one history fit.
use Rattle.std.proofs.Common.{◌≡◌, true, List, Contains, length, sym, refl, subst}
use Rattle.bep_fit.specs.declared.object.Object.{Object}
use Rattle.bep_fit.specs.declared.stamped.Stamped.{Stamped}
use Rattle.bep_fit.specs.Fit.{DoAgree}
use Rattle.bep_fit.specs.FitLaws.{FaultlessLogsAgree, FaultlessLogsMerge}
use Rattle.bep_fit.specs.Logs.{HasLog, ObjectLog, touches}
use Rattle.bep_history.specs.declared.view.View.{View}
use Rattle.bep_history.specs.Laws.{AllRise, PartsFit}
use Rattle.bep_history.specs.Parts.{is_about, part_of}
use Rattle.bep_history.specs.View.{IsTold, row}
use Rattle.bep_history.proofs.Filtered.{kept-passes, passes-kept}

module _ (objects : List Object) (old : View) (logs : List ObjectLog) (told : IsTold objects old)
    (have : (log : ObjectLog) → Contains logs log → Contains old.rows (row log.object log.events))
    (all : (object : Object) → Contains objects object → HasLog logs object) (rise : AllRise logs) where
  part : (log : ObjectLog) → Contains logs log → log.events ≡ part_of log.object told.history
  part log stands = told.parts (row log.object log.events) (have log stands)

  in_history : (log : ObjectLog) (one : Stamped) → Contains logs log → Contains log.events one → Contains told.history one × (touches one log ≡ true)
  in_history log one stands has = kept-passes (is_about log.object) told.history one (subst (λ es. Contains es one) (part log stands) has)

  agree : DoAgree logs
  agree = record {
    agree = record {
      rise = rise;
      every = λ one log logged stands touching.
          subst (λ es. Contains es one) (sym (part log stands))
          (passes-kept (is_about log.object) told.history one (in_history logged.0 one logged.1 logged.2).0 touching);
      no_other = λ one log stands has. (in_history log one stands has).1;
      one_ticket = λ one other logged found same.
          told.is_history.one_ticket one other (in_history logged.0 one logged.1 logged.2).0 (in_history found.0 other found.1 found.2).0 same;
    };
    there = λ log one object stands has names. all object (told.is_history.there one object (in_history log one stands has).0 names);
  }

pub parts_fit_lem : FaultlessLogsAgree → FaultlessLogsMerge → PartsFit
parts_fit_lem agrees merges objects old logs told have all rise round =
    let faultless = (agrees logs).1 (agree objects old logs told have all rise) in
    let merged = merges logs faultless in
    (length merged.0, record { rounds = round; faultless = faultless; merged = merged.0; is_merged = merged.1; counted = refl })
