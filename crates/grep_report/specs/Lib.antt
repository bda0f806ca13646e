pub mod BinaryDetections
pub mod ConfigErrors
pub mod ErrorMakers
pub mod SinkReports
pub mod SearchErrors
