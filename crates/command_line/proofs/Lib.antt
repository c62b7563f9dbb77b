mod Among
mod CountLemmas
mod EntryLemmas
mod NumberLemmas
mod RangeLemmas
mod RejectedLemmas
mod SpanLemmas
