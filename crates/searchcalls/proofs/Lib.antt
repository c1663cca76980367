-- The laws of the calls' answers, and demand 3 over the call.
pub mod PathLaws
pub mod CallLaws
