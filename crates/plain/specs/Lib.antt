pub mod DaySets
