mod Ties
mod FromReplicas
mod FromFlights
mod FromTables
mod FromSound
