-- The laws of save. `Forms`: 20 and the arguments. `Plans`: what a save goes by. `Stores`: what it stores. `Ends`: the call as the three, one after another.
pub mod Forms
pub mod Plans
pub mod Stores
pub mod Ends
