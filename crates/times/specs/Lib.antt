pub mod TimeSets
