use Rattle.std.proofs.Common.{◌≡◌, drop}
use Rattle.bep_scenario.specs.Configured.{with_folders, MayFolders}
use Rattle.bep_scenario.proofs.start.add_folders.Given as goal

-- what is there with those that are left is all of them, and these may be added if all may
abbrev pub invariant-loop-folder : goal.invariant-loop-folder
invariant-loop-folder l = record {
  value : with_folders l.config (drop l.folder-index l.folders) ≡ with_folders l.initial.config l.folders;
  may : MayFolders l.initial.config l.folders → MayFolders l.config (drop l.folder-index l.folders);
}
