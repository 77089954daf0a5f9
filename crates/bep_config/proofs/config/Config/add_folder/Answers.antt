use Rattle.std.proofs.Common.{sym, subst, arith}
use Rattle.std.proofs.lemmas.List.Elements.{All-weaker}
use Rattle.std.proofs.lemmas.Map.Views.{All-insert_key}
use Rattle.bep_record.specs.FolderName.{IsFolderName}
use Rattle.bep_config.specs.Config.{IsNewFolder, by_name}
use Rattle.bep_config.proofs.Kept.{kept_in}
use Rattle.bep_config.proofs.config.Config.add_folder.Goals as goal

pub invariant_of-self-2 : goal.invariant_of-self-2
invariant_of-self-2 g c =
    let is = subst (λ config. IsNewFolder config c.args.name.now) (sym c.self.view_is) c.in_ok-folder.ensures.new in
    record {
      few_folders = grind (arith, is.few, c.in_ok-insert.ensures.len);
      named = rw c.in_ok-insert.ensures.keys (All-insert_key by_name c.in_ok-folder.folder IsFolderName c.self.inside.folders.keys c.self.invariant.named (subst IsFolderName (sym c.in_ok-folder.ensures.name) is.named));
      few_devices = c.self.invariant.few_devices;
      of_folders = All-weaker _ _ (λ key had. kept_in by_name c.self.inside.folders c.insert.new.self c.in_ok-folder.folder c.in_ok-insert.ensures.updates key.0 had) _ c.self.invariant.of_folders;
      of_devices = c.self.invariant.of_devices;
      sharing = c.self.invariant.sharing;
      joined = c.self.invariant.joined;
      numbered = c.self.invariant.numbered;
      indexed = c.self.invariant.indexed;
    }
