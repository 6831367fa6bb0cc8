pub mod AllDetermines
pub mod AnswerLaws
pub mod Determines
pub mod EntriesDetermines
pub mod MarkDetermines
pub mod PlanDetermines
