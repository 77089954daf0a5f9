-- Faults of documents: their numbers and names, and where they are (this project's profile).
use Rattle.std.specs.Prelude.{ℕ, Bool, true, false, List, Some, None, codes}
use Rattle.bep_document.specs.declared.fault.Fault.{Fault}
use Rattle.bep_document.specs.declared.fault.Fault.TheVariants.{NotJson, VersionBad, Shape, Range, Twice, Unshared, RecordBad, SequenceBad, LinkBad}
use Rattle.bep_document.specs.declared.fault.DocFault.{DocFault}

-- the number and the name under which the product prints a fault
abbrev pub told_as : Fault → ℕ × List ℕ
told_as NotJson = (181, codes "NotJson")
told_as VersionBad = (182, codes "VersionBad")
told_as Shape = (183, codes "Shape")
told_as Range = (184, codes "Range")
told_as Twice = (185, codes "Twice")
told_as Unshared = (186, codes "Unshared")
told_as RecordBad = (187, codes "RecordBad")
told_as SequenceBad = (188, codes "SequenceBad")
told_as LinkBad = (189, codes "LinkBad")

abbrev pub number_of : Fault → ℕ
number_of fault = (told_as fault).0

abbrev pub name_of : Fault → List ℕ
name_of fault = (told_as fault).1

-- a fault of this kind is at some place of the document
abbrev pub has_place : Fault → Bool
has_place NotJson = false
has_place VersionBad = false
has_place Shape = false
has_place Range = false
has_place Twice = true
has_place Unshared = true
has_place RecordBad = true
has_place SequenceBad = true
has_place LinkBad = true

-- a fault of the whole document
abbrev pub nowhere : Fault → DocFault
nowhere fault = record { fault = fault; folder = None; device = None; name = None }

-- a fault of a folder
abbrev pub at_folder : Fault → List ℕ → DocFault
at_folder fault folder = record { fault = fault; folder = Some folder; device = None; name = None }

-- a fault of a device in a folder
abbrev pub at_device : Fault → List ℕ → ℕ → DocFault
at_device fault folder device = record { fault = fault; folder = Some folder; device = Some device; name = None }

-- a fault of a link, by its first device
abbrev pub at_link : Fault → ℕ → DocFault
at_link fault device = record { fault = fault; folder = None; device = Some device; name = None }

-- a fault at a name that a device holds in a folder
abbrev pub at_name : Fault → List ℕ → ℕ → List ℕ → DocFault
at_name fault folder device name =
    record { fault = fault; folder = Some folder; device = Some device; name = Some name }
