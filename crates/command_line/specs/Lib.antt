pub mod Options
pub mod ScheduleOptions
