mod CountLemmas
mod PlainLemmas
