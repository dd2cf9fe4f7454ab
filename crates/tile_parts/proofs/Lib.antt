pub mod NumberLemmas
pub mod SotLemmas
pub mod SegmentLemmas
pub mod SpellingLemmas
pub mod OnceLemmas
pub mod HeadLemmas
