-- `RowForms`: what is asked of the bytes of each record, and its fields; `RowOrders`: how two records stand, number by number; `Pass`: the pass over a table;
-- `BuiltKeys`: the keys that the code builds.
pub mod RowForms
pub mod RowOrders
pub mod Pass
pub mod BuiltKeys
