pub mod Opening
pub mod Depths
pub mod Fitting
pub mod Acting
pub mod Reaching
