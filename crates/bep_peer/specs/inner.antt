-- What only private contracts say: no public contract rests on it.
pub mod Call
pub mod ClusterConfig
pub mod InSession
pub mod Index
pub mod Renew
pub mod Request
pub mod Response
pub mod Effect
