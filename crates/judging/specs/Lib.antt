-- The calls over rows for trees: what each is refused with, and what it comes to.
pub mod Orders
pub mod TimedOrders
