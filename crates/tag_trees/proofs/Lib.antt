pub mod NodeLemmas
pub mod NodeLoops
pub mod TreeLemmas
pub mod PathLemmas
pub mod TreePaths
pub mod UptoLemmas
pub mod LeastLemmas
pub mod ReaderLemmas
