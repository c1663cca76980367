pub mod AskLaws
pub mod HashLaws
pub mod NumberLaws
pub mod OrderLaws
pub mod RefusalLaws
