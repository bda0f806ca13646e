pub mod Appends
pub mod BufferStates
pub mod Contents
pub mod Detections
pub mod Fills
pub mod Room
pub mod Widening
