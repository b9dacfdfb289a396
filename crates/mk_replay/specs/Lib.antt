pub mod Forms
pub mod Replays
pub mod Schedules
