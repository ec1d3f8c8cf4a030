pub mod Appending
mod Adding
mod Examples
mod MemberExamples
mod ReadinessExamples
mod VerdictExamples
mod Names
mod UnknownExamples
