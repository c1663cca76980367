-- `DigitLaws`: a decimal, digit by digit from its last; `PrintLaws`: a line, part by part; `Examples`: lines of document 01.
pub mod DigitLaws
pub mod PrintLaws
pub mod Examples
