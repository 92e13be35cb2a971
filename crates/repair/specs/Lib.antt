pub mod Repairs
pub mod Feeding
pub mod Feeds
pub mod Runs
pub mod SecondPass
