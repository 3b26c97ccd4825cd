pub mod Chains
pub mod Hashes
pub mod NodeTables
pub mod ValueTables
