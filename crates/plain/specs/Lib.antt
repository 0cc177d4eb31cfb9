pub mod Classed
pub mod Pieces
pub mod Asm
