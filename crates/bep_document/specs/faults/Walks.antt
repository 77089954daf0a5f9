-- Walks through a cut, by what is at fault at each device of a folder, or in each message on its way over a link (this
-- project's profile).
use Rattle.std.specs.Prelude.{ℕ, List, [], Option}
use Rattle.bep_document.specs.declared.fault.DocFault.{DocFault}
use Rattle.bep_document.specs.declared.parts.ShareParts.{ShareParts}
use Rattle.bep_document.specs.declared.parts.FolderParts.{FolderParts}
use Rattle.bep_document.specs.declared.parts.FlightParts.{FlightParts}
use Rattle.bep_document.specs.declared.parts.LinkParts.{LinkParts}
use Rattle.bep_document.specs.faults.Judge.{◌else_at◌, first_in}

-- the first fault at the devices of a folder
abbrev pub at_shares : (FolderParts → List ShareParts → ShareParts → Option DocFault) → List FolderParts → FolderParts → Option DocFault
at_shares fault_of earlier folder = first_in (fault_of folder) [] folder.devices

-- the first fault in what is on its way over a link, to its first end and then to the other
abbrev pub on_link : (LinkParts → ℕ → List FlightParts → FlightParts → Option DocFault) → List LinkParts → LinkParts → Option DocFault
on_link fault_of earlier link = first_in (fault_of link link.a) [] link.to_a else_at first_in (fault_of link link.b) [] link.to_b
