pub mod CommittedCharge
