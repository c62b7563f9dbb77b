mod DataLemmas
mod JudgingLaws
mod MailLaws
mod LineLaws
mod LineLemmas
mod ToldLemmas
