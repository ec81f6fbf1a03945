mod Inverting
mod Fronts
pub mod Sizes
mod Standing
mod ObjectLaws
mod ChainLaws
mod TreeLaws
