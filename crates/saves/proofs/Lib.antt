-- The laws of what a save adds. `Asks`: its LSN and its segment. `Made`: its commit. `Runs`: where its pages go, as one run. `Fills`: the loop that stores them.
pub mod Asks
pub mod Made
pub mod Runs
pub mod Fills
