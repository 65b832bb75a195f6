pub mod WriteLemmas
pub mod WholeLemmas
pub mod Numbers
mod PieceLemmas
mod PlaceLemmas
pub mod TextLemmas
pub mod LineLemmas
pub mod Continues
pub mod ValueLemmas
pub mod CheckLemmas
pub mod FirstFaultLemmas
pub mod AnswerLemmas
pub mod UpitGrammarLemmas
pub mod UpitFaultLemmas
pub mod PrecLemmas
pub mod PrecLineLemmas
mod PrecPieceLemmas
pub mod PrecFaultLemmas
pub mod PrecGrammarLemmas
pub mod PrecLimitLemmas
pub mod FixedLineLemmas
pub mod FixedGrammarLemmas
pub mod FixedFaultLemmas
mod BlocksLineLemmas
mod BlocksFaultLemmas
pub mod BlocksGrammarLemmas
mod ColumnLemmas
pub mod TextFaults
