pub mod Files
pub mod MapLemmas
pub mod PutLemmas
pub mod StoreLemmas
pub mod WholeFiles
pub mod Written
