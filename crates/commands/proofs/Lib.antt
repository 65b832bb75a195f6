pub mod Refusing
pub mod Solving
pub mod Keeping
pub mod Certifying
pub mod Journaling
pub mod Checking
pub mod Depositing
pub mod ShellRuns
pub mod Uniqueness
pub mod OneFault
pub mod Replaying
pub mod ReplayOnce
pub mod ReplayTakes
pub mod ReplaySpends
pub mod OneCheck
pub mod OneReplay
pub mod OneDepositFault
pub mod OneBudget
pub mod CutShort
pub mod ExampleRuns
mod Calling
mod Reading
mod Writing
