-- The names of which a device wants a record.
use Rattle.bep_record.specs.declared.entry.Entry.{Entry}
use Rattle.bep_model.specs.Tables.{Device, FileName}
use Rattle.bep_machine.specs.Replica.{Replica, Wants}

-- the device wants some record of the name
abbrev pub IsWantedName : Device → Replica → FileName → Type 0
IsWantedName device replica name = (entry : Entry) × Wants device replica name entry
