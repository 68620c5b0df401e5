pub mod Traces
pub mod Footprints
pub mod Counters
pub mod CounterRows
