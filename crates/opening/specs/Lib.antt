pub mod Opening
