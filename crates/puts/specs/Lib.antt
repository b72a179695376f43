-- What the puts leave of a buffer: nothing here has to be believed.
pub mod inner
