pub mod FirstUnrun
pub mod Outcomes
pub mod Running
pub mod RunCalls
pub mod SentNodes
pub mod SendsAdded
