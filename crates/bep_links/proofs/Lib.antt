pub mod QueueFacts
