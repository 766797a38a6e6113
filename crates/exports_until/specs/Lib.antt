pub mod UntilCodes
