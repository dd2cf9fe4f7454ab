pub mod BitLemmas
pub mod PackLemmas
pub mod RegisterLemmas
pub mod TakeLemmas
pub mod WordLemmas
pub mod SourceLemmas
pub mod StuffsLemmas
