pub mod ConfigError
pub mod Config
