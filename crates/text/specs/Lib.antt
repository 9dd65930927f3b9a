-- What is said of a finding, in the words of validator.rs, from the lowest to the highest.
pub mod Form
pub mod Shown
pub mod Decimal
pub mod Put
pub mod Pieces
pub mod Path
pub mod CauseText
pub mod Message
pub mod Said
pub mod Says
pub mod Near
pub mod Bound
pub mod Told
