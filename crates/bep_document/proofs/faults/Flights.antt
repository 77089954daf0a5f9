-- What holds of each message on a link, whichever end it is on its way to.
use Rattle.std.proofs.Common.{◌≡◌, ℕ, List, [], Option, None}
use Rattle.std.specs.List.{AllByRecursion}
use Rattle.bep_document.specs.declared.fault.DocFault.{DocFault}
use Rattle.bep_document.specs.declared.parts.FlightParts.{FlightParts}
use Rattle.bep_document.specs.declared.parts.LinkParts.{LinkParts}
use Rattle.bep_document.specs.faults.Judge.{◌else_at◌, first_in}
use Rattle.bep_document.proofs.faults.NoFault.{neither, all_where_none}

-- each message on the link is such
abbrev pub AllFlights : (FlightParts → Type 0) → LinkParts → Type 0
AllFlights P link = AllByRecursion P link.to_a × AllByRecursion P link.to_b

-- what each message without fault is
pub flights_where_none : (f : ℕ → List FlightParts → FlightParts → Option DocFault) (P : FlightParts → Type 0) → ((device : ℕ) (earlier : List FlightParts) (flight : FlightParts) → f device earlier flight ≡ None → P flight) → (link : LinkParts) → (first_in (f link.a) [] link.to_a else_at first_in (f link.b) [] link.to_b) ≡ None → AllFlights P link
flights_where_none f P each link none =
    let both = neither (first_in (f link.a) [] link.to_a) (first_in (f link.b) [] link.to_b) none in
    (all_where_none (f link.a) P (each link.a) [] link.to_a both.0, all_where_none (f link.b) P (each link.b) [] link.to_b both.1)
