pub mod BlockLemmas
pub mod MemberLemmas
pub mod SortedLemmas
pub mod SortingLemmas
pub mod StrictLemmas
