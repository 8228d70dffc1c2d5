pub mod Layers
