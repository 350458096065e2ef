pub mod GitPatternLines
pub mod NameLemmas
pub mod PatternLines
pub mod PlainNames
pub mod QuotedLemmas
pub mod RecordLemmas
