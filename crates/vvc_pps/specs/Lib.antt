pub mod Answers
pub mod PpsAnswer
pub mod QuestionAnswers
pub mod Version
pub mod Examples
