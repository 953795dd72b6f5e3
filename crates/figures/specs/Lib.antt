pub mod MeasureFigures
