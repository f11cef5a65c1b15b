pub mod ReadingLaws
pub mod HistoryLaws
