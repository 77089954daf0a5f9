mod Order
mod Given
mod Settled
