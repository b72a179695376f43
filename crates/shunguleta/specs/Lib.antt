-- The calls as C and Rust have them.

-- an answer as a reply
pub mod Reply
