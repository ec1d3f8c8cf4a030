-- One fact more raises the counts of its kind; and the summary at small lists of facts.
pub mod OneMore
mod Examples
