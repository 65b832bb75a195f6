pub mod ByMode
pub mod ItemTexts
