-- One history of events, and the part of it that touches an object (this project's profile).
use Rattle.std.specs.Prelude.{◌≡◌, Bool, List, Contains}
use Rattle.std.specs.List.{filter}
use Rattle.bep_machine.specs.Halves.{guards_of}
use Rattle.bep_fit.specs.declared.object.Object.{Object}
use Rattle.bep_fit.specs.declared.stamped.Stamped.{Stamped}
use Rattle.bep_fit.specs.Logs.{named, touches_object}

-- whether the event touches the object
abbrev pub is_about : Object → Stamped → Bool
is_about object one = touches_object (guards_of one.event.step) object

-- what touches the object, in the order of the history
abbrev pub part_of : Object → List Stamped → List Stamped
part_of object history = filter (is_about object) history

-- Events of one ticket are one event, and what an event names is among the objects.
pub record IsHistory (objects : List Object) (history : List Stamped) : Type 0 where
  pub one_ticket : (one other : Stamped) → Contains history one → Contains history other → one.ticket ≡ other.ticket → one ≡ other
  pub there : (one : Stamped) (object : Object) → Contains history one → Contains (named one) object → Contains objects object
