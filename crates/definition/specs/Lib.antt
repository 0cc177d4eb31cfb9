-- The definition, in the order in which a reader should go: from the file's bytes to the lent buffers.
-- The words in which it is written: lists, numbers out of bytes, texts.
pub mod Lists
pub mod Words
pub mod Texts
-- The function file (document 01, "The function file"): what an edition fixes, the contents, who owns what.
pub mod Edition
pub mod Codes
pub mod Contents
pub mod Owners
-- Refusals 2, 3 and 4; 5; values and 6 (document 01, "When nothing is printed").
pub mod Shape
pub mod References
pub mod Values
pub mod Meaning
-- The function in SSA form (ssa.rs), and how a file holds it.
pub mod Ssa
pub mod Read
-- The analyses of c.rs: stack offsets with refusal 7, phi classes, values written in place, names.
pub mod Offsets
pub mod Classes
pub mod Inline
pub mod Registers
pub mod Numbers
pub mod Names
-- Printing: tokens with `merge`, supplied names and targets, expressions, conditions.
pub mod Tokens
pub mod Lookup
pub mod Render
pub mod Condition
-- What Intel's manual says of the flags, and what a printed comparison means.
pub mod Intel
-- Lowering: one rule a kind, then blocks.
pub mod Lower
pub mod Blocks
-- Structuring: what the passes read off a line, `negate`, the three passes with refusal 9.
pub mod Sorts
pub mod Negate
pub mod Passes
-- The answer: refusals in order, refusal 8, the counts and the lent buffers.
pub mod Listing
