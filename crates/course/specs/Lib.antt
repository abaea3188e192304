pub mod Plant
pub mod Rows
pub mod Forecast
pub mod Of
