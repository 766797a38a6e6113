pub mod LowestCalls
