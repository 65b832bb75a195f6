pub mod NumberLemmas
pub mod SectionLemmas
pub mod ExampleTexts
