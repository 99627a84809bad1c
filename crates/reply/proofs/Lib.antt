pub mod AnswerExamples
