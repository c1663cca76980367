-- The laws of the calls' answers.
pub mod CallLaws
