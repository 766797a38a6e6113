-- The changes of the index: from what the calls of a function ensure to what the bytes stand for then.
pub mod Put
pub mod Mark
pub mod Unmark
pub mod Free
pub mod Confined
pub mod FromCalls
pub mod ToRules
