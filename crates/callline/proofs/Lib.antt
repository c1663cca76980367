-- `TextLaws`: of pieces and beginnings; `ValueLaws`: of the values; `LineLaws`: of fields and lines; `Examples`: lines of document 01.
pub mod TextLaws
pub mod ValueLaws
pub mod LineLaws
pub mod Examples
