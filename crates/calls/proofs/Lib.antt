pub mod Parts
pub mod Performed
pub mod Promised
pub mod ExamplePromise
pub mod ExamplePerform
