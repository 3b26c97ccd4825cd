pub mod Identities
pub mod IdentityDiagram
