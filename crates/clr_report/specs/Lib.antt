pub mod CheckText
pub mod Lines
pub mod PlanText
pub mod JudgeText
pub mod Columns
pub mod NoteText
