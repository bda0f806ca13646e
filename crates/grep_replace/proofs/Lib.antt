pub mod FoundPartLemmas
pub mod ReplaceLemmas
pub mod StartLemmas
pub mod SuccessiveLemmas
pub mod TemplateLemmas
