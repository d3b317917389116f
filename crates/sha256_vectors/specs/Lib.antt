-- FIPS 180-4's worked examples and its rules for the constants, as theorems that compute.
pub mod Examples
pub mod Constants
