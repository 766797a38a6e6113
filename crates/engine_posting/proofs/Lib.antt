pub mod Posting
pub mod PostTest
pub mod EverySlot
pub mod PostSlots
pub mod OnePost
pub mod Retracting
pub mod PostJudging
