mod ListedLemmas
mod StepLemmas
mod TextLemmas
