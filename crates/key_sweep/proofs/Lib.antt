mod BlockLemmas
mod RowLemmas
