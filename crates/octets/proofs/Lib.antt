-- The laws that other crates cite. `Numbers`: of be, bytesOf and down; `Places`: of part and put; `Orders`: of lex;
-- `Turns`: the comparisons and the test for zeros; `Tabs` and `Flats`: lists by their elements, and records one after another.
pub mod Numbers
pub mod Places
pub mod Orders
pub mod Turns
pub mod Tabs
pub mod Flats
