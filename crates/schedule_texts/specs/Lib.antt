pub mod Words
pub mod Section
pub mod ProblemText
pub mod ScheduleText
pub mod ExampleTexts
