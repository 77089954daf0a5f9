pub mod MakesCut
mod Each
mod Found
mod Made
