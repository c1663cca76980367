-- The laws of the byte forms: `SpellLaws`, what is asked of bytes; `HoldLaws`, which values a form holds; `FormHolds`, that it holds what is in form;
-- `PlaceLaws`, what is asked, read and stored at a place of lent bytes; `PlainLaws`, forms that any bytes spell; `LentLaws`, that 20 comes first.
pub mod SpellLaws
pub mod HoldLaws
pub mod FormHolds
pub mod PlaceLaws
pub mod PlainLaws
pub mod LentLaws
