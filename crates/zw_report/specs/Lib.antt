pub mod Lines
pub mod StopLines
pub mod WorkedLines
pub mod WorkedStops
pub mod Words
