-- What stands in the slots, and what leaves it as it was.
pub mod SlotBytes
pub mod OtherSlots
pub mod SlotsSpared
pub mod OtherBytes
